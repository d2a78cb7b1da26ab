use Rattle.std.proofs.Common.{true≢false, sym, ap, subst, ◌∙◌}
use Rattle.pair_model.specs.Plain.{changeset_by_rule}
use Rattle.pair_known.specs.Partners.{ArePartners}
use Rattle.changeset_rule.proofs.RuledLemmas.{few-of, whole}
use Rattle.filled_law.proofs.Plain.{unmarked-is_plain, plain-is_unmarked}
use Rattle.commit_rule.proofs.Tables.{table}
use Rattle.commit_unmark.proofs.Whole.{narrow-of}
use Rattle.commit_unmark.proofs.unmark.unmark_plain.Goals as goal

pub returns-then-not-branch : goal.returns-then-not-branch
returns-then-not-branch c = λ blocks v over h u.
    let t = table c.args.known.now blocks over.history in
    let bare = ap (λ x. x.headers) over.draft.value ∙ c.requires.bare in
    true≢false (sym ((c.in_ok-is_plain_commit.ensures blocks v over).1 (unmarked-is_plain blocks t v h bare u)) ∙ c.if-not-branch.true)

pub returns : goal.returns
returns c = λ blocks v over.
    let k = c.args.known.now in
    let d = c.args.c.now in
    let t = table k blocks over.history in
    let few = few-of k blocks d v over c.requires.few in
    let plain = (c.in_ok-is_plain_commit.ensures blocks v over).0 c.if-not-branch.false in
    let made = c.in_ok-changeset.ensures blocks v over in
    let view = whole k blocks d v over few (subst ArePartners (over.history.held).partners over.history.partners) made.view in
    (changeset_by_rule blocks v, plain-is_unmarked blocks t v (narrow-of k blocks d v over c.requires.few) plain view, made)
