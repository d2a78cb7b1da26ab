use Rattle.std.proofs.Common.{List, Some, refl, sym, ap, subst, ◌∙◌}
use Rattle.std.specs.Prelude.{slice_get}
use Rattle.std.proofs.lemmas.Result.{on_ok_weaker}
use Rattle.std.proofs.lemmas.Option.{slice_get-get_or}
use Rattle.text_model.specs.Id.{Id}
use Rattle.git_store.specs.Stage.{rows, StopsAt}
use Rattle.git_store.proofs.SeatLemmas.{seats-waiting}
use Rattle.git_store.proofs.order.stage.Stage.seat.Goals as goal

pub returns-in-Some-clause-seats : goal.returns-in-Some-clause-seats
returns-in-Some-clause-seats c =
    let came = rows c.args.came.now in
    let saved = c.args.came.now.saved.now in
    let s = c.args.self.now in
    let n = c.in-Some.parent in
    let id = c.index-parents-parent.result in
    let parents = c.parents-parents.ensures in
    let names = ap (λ (l : List Id). slice_get l n) (sym parents) ∙ slice_get-get_or c.parents-parents.result.now n id c.in-Some.ensures.some.within ∙ ap Some (sym c.index-parents-parent.is) in
    let stops = subst (λ (l : List Id). StopsAt saved s.placed l n) parents c.in-Some.ensures.some in
    on_ok_weaker c.add.result (λ e. seats-waiting came saved c.args.wait s _ n id c.requires names stops refl refl e) c.add.ensures
