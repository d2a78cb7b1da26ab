use Rattle.std.proofs.Common.{true≢false, sym, ◌∙◌}
use Rattle.pair_choice.proofs.Collisions.{collides}
use Rattle.pair_choice.proofs.DepthLemmas.{commit-found, no-commit}
use Rattle.pair_choice.proofs.LimitLemmas.{match-some, match-none}
use Rattle.pair_choice.proofs.unmark.commit_below.Goals as goal

pub has_bodies-requires : goal.has_bodies-requires
has_bodies-requires g c = record { held = (c.requires.inside.1.rows, (c.requires.inside.2.draft.rows, c.requires.inside.2.draft.files)) }

pub returns-then-not-has_bodies-clause-found : goal.returns-then-not-has_bodies-clause-found
returns-then-not-has_bodies-clause-found g c = λ blocks v inside.
    let f = match-some _ _ _ c.in-Some.commit (c.in_ok-commit.ensures blocks v inside) c.in-Some.is in (
      f.0,
      f.1,
      collides c.args.known.now.git c.in-Some.commit f.0 f.2 v.rows f.1.bodies
          (λ alone. true≢false (sym ((c.has_bodies.ensures v.rows (inside.draft.rows, inside.draft.files)).1 alone) ∙ c.if-not-has_bodies.true)),
    )

pub returns-in_default-clause-found : goal.returns-in_default-clause-found
returns-in_default-clause-found g c = λ blocks v inside. no-commit c.args.known.now blocks v (match-none _ _ _ (c.in_ok-commit.ensures blocks v inside) c.in_default.is)

pub returns-clause-found : goal.returns-clause-found
returns-clause-found g c = λ blocks v inside.
    let f = match-some _ _ _ c.in-Some.commit (c.in_ok-commit.ensures blocks v inside) c.in-Some.is in
    commit-found c.args.known.now blocks c.args.h.now v inside c.in-Some.commit (f.0, f.1, f.2) ((c.has_bodies.ensures v.rows (inside.draft.rows, inside.draft.files)).0 c.if-not-has_bodies.false)
