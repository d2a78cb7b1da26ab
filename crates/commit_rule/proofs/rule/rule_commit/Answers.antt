use Rattle.std.proofs.Common.{true≢false, sym, ◌∙◌}
use Rattle.commit_rule.proofs.RuledLemmas.{rows-of, bodies-short, clear-too}
use Rattle.commit_rule.proofs.rule.rule_commit.Goals as goal

pub bodies_fit-requires : goal.bodies_fit-requires
bodies_fit-requires c = record { held = (c.requires.over.1.rows, rows-of c.args.known.now c.requires.over.0 c.args.h.now c.requires.over.1 c.requires.over.2) }

pub returns-then-not-bodies_fit-clause-limit : goal.returns-then-not-bodies_fit-clause-limit
returns-then-not-bodies_fit-clause-limit c = λ e blocks v over fits.
    let k = c.args.known.now in
    let d = c.args.h.now in
    let clear = clear-too k.hg d c.requires.over.1 v c.requires.over.2.inside.draft over.inside.draft c.requires.over.3 in
    true≢false (sym ((c.bodies_fit.ensures v.rows over.inside.history.added (rows-of k blocks d v over)).1 (bodies-short k blocks d v over (λ b at. c.in_ok-draft.ensures.known blocks b over.inside.history.held at) clear fits)) ∙ c.if-not-bodies_fit.true)

pub returns-clause-ok : goal.returns-clause-ok
returns-clause-ok c = λ blocks v over.
    let rows = rows-of c.args.known.now blocks c.args.h.now v over in
    let made = c.in_ok-draft.ensures.made blocks v over ((c.bodies_fit.ensures v.rows over.inside.history.added rows).0 c.if-not-bodies_fit.false) in
    record { made = made; fits = (c.in_ok-commit_fits.ensures _ _ made).0 c.if-not-branch.false }

pub returns-then-not-branch-clause-limit : goal.returns-then-not-branch-clause-limit
returns-then-not-branch-clause-limit c = λ e blocks v over fits.
    let rows = rows-of c.args.known.now blocks c.args.h.now v over in
    let made = c.in_ok-draft.ensures.made blocks v over ((c.bodies_fit.ensures v.rows over.inside.history.added rows).0 c.if-not-bodies_fit.false) in
    true≢false (sym ((c.in_ok-commit_fits.ensures _ _ made).1 fits) ∙ c.if-not-branch.true)
