use Rattle.std.proofs.Common.{◌≡◌, ◌<◌, true, true≢false, ap, sym, subst, ◌∙◌, arith, refl}
use Rattle.std.specs.Prelude.{slice_get}
use Rattle.std.proofs.lemmas.Result.{on_ok_weaker}
use Rattle.text_model.specs.Id.{Id}
use Rattle.text_model.proofs.Options.{some_is, none_some}
use Rattle.git_model.specs.Object.{Object}
use Rattle.git_dump.specs.Visits.{MeetsOther}
use Rattle.git_dump.proofs.Counted.{visits-old, visits-next, visits-other}
use Rattle.git_dump.proofs.walk.Walk.visit_place.Goals as goal
use Rattle.git_dump.proofs.walk.Walk.visit_place.Goals.{else-self-via-then-self+else-place-self-2, else-self-via-else-self}

pub returns-then-place-self : goal.returns-then-place-self
returns-then-place-self c = λ o at. visits-old c.args.store.now c.args.self.now c.requires.walk c.args.place o c.if-place-self.true at

pub returns-then-place-self-2 : goal.returns-then-place-self-2
returns-then-place-self-2 c = λ o at.
    let known = c.args.store.now in
    let w = c.args.self.now in
    visits-next known w _ c.requires.walk c.if-self.true o (ap (slice_get known) (sym c.if-place-self-2.true) ∙ at) refl (omega (arith, c.if-place-self-2.true, c.requires.within))

pub returns-in-Some : goal.returns-in-Some
returns-in-Some c =
    let known = c.args.store.now in
    let w = c.args.self.now in
    let behind : w.in_order ≡ true → w.front < c.args.place = λ order. elim c.else-self.branch [
      | else-self-via-then-self+else-place-self-2 j ↦ omega (arith, c.if-place-self.false, j.if-place-self-2.false)
      | else-self-via-else-self j ↦ absurd (true≢false (sym order ∙ j.if-self.false))
    ] in
    on_ok_weaker c.visit_other.result
    (λ m o at.
    let id : c.in-Some.id.now ≡ o.id = ap (λ (x : Object). x.id) (some_is (c.in-Some.ensures.object ∙ at)) in
    visits-other known w c.visit_other.new.self c.requires.walk c.args.place o c.if-place-self.false behind at
    (subst (λ (i : Id). MeetsOther i w c.visit_other.new.self) id m))
    c.visit_other.ensures

pub returns-in-None : goal.returns-in-None
returns-in-None c = λ o at. absurd (none_some (c.in-None.ensures.object ∙ at))
