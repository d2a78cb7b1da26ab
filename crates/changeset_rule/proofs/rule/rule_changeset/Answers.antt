use Rattle.std.proofs.Common.{true≢false, sym, ◌∙◌}
use Rattle.changeset_rule.proofs.RuledLemmas.{has-parents, ruled}
use Rattle.changeset_rule.proofs.rule.rule_changeset.Goals as goal

pub returns-then-not-branch-clause-limit : goal.returns-then-not-branch-clause-limit
returns-then-not-branch-clause-limit c = λ e blocks v over fits.
    true≢false (sym ((c.in_ok-changeset_fits.ensures _ _ over.history.added (c.in_ok-changeset.ensures blocks v over)).1 fits) ∙ c.if-not-branch.true)

pub returns-clause-ok : goal.returns-clause-ok
returns-clause-ok c = λ blocks v over.
    let made = c.in_ok-changeset.ensures blocks v over in
    (made, (c.in_ok-changeset_fits.ensures _ _ over.history.added made).0 c.if-not-branch.false)

pub returns-clause-known_parents : goal.returns-clause-known_parents
returns-clause-known_parents c = λ blocks v over. has-parents c.args.known.now blocks c.args.c.now v over

pub returns-clause-strict : goal.returns-clause-strict
returns-clause-strict c = λ blocks v over few.
    let made = c.in_ok-changeset.ensures blocks v over in
    ruled c.args.known.now blocks c.args.c.now v over few _ made ((c.in_ok-changeset_fits.ensures _ _ over.history.added made).0 c.if-not-branch.false)
