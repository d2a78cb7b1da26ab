use Rattle.std.proofs.Common.{◌≤◌, length, ap, subst, ◌∙◌, arith}
use Rattle.depth_law.proofs.PlainCommit.{commit_few}
use Rattle.commit_unmark.proofs.unmark.unmark_commit.Goals as goal

pub returns-then-len-gt2 : goal.returns-then-len-gt2
returns-then-len-gt2 c = λ blocks v over h u.
    let few : length (c.args.c.now.commit).parents ≤ 2 = subst (λ x. length x.parents ≤ 2) over.draft.value (commit_few blocks v h u.marked) in
    let long = c.len.ensures ∙ ap (λ d. length (d.commit).parents) c.c.view_is in
    absurd (omega (arith, few, long, c.if-len-gt2.true))
