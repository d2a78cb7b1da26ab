use Rattle.std.proofs.Common.{◌≡◌, List, false, sym, ap, subst, ◌∙◌}
use Rattle.git_model.specs.Object.{Object, knows_object}
use Rattle.git_store.specs.Places.{IsPlaceOf}
use Rattle.git_store.proofs.Places.{place-in, nowhere-in}
use Rattle.git_store.proofs.store.GitStore.place.Goals as goal

pub returns-in_err-place-clause-place : goal.returns-in_err-place-clause-place
returns-in_err-place-clause-place c =
    let unknown : knows_object c.args.self.now c.args.id.now ≡ false =
    ap (λ (known : List Object). knows_object known c.args.id.now) (sym c.self.view_is) ∙ nowhere-in c.args.id.now c.self.inside.objects.entries (sym c.in_err-place.ensures.value) in
    rw c.from_residual.ensures unknown

pub returns-clause-place : goal.returns-clause-place
returns-clause-place c =
    let id = c.args.id.now in
    subst (λ (known : List Object). IsPlaceOf known id c.in_ok-place.place) c.self.view_is
    (place-in id c.self.inside.objects.entries c.in_ok-place.place c.in_ok-place.field-0-1.now c.in_ok-place.field-0-2.now c.in_ok-place.ensures.entry (sym c.in_ok-place.ensures.key) (sym c.in_ok-place.ensures.value))
