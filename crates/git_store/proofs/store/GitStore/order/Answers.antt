use Rattle.std.proofs.Common.{Bool, List, sym, ap, subst, ◌∙◌}
use Rattle.std.specs.List.{find}
use Rattle.text_model.specs.Id.{Id}
use Rattle.git_model.specs.Order.{is_waiting, IsOrder}
use Rattle.git_store.specs.Ancestry.{ancestries}
use Rattle.git_store.specs.Stage.{AreDistinct}
use Rattle.git_store.proofs.OnceLemmas.{distinct-rows}
use Rattle.git_store.proofs.PlacingLemmas.{stuck, none_found, order-again, stuck-again}
use Rattle.git_store.proofs.store.GitStore.order.Goals as goal

pub place_all-requires : goal.place_all-requires
place_all-requires c = record {
  distinct = subst (λ (l : List Id). AreDistinct (ancestries c.args.self.now l)) (sym c.as_slice-2.ensures) (distinct-rows c.args.self.now c.in_ok-ids.ids c.in_ok-ids.ensures.distinct);
}

pub returns-in-Some-clause-fault : goal.returns-in-Some-clause-fault
returns-in-Some-clause-fault c =
    let known = c.args.self.now in
    let saved = c.args.saved.now in
    let ids = c.as_slice-2.result.now in
    let placed = c.in_ok-stage.ensures in
    let same = λ (test : Id → Bool). ap (find test) c.as_slice-2.ensures ∙ c.in_ok-ids.ensures.finds test ∙ ap (find test) c.as_slice.ensures in
    stuck-again known ids c.args.came.now same saved c.in-Some.id (stuck (ancestries known ids) saved c.in_ok-stage.stage.placed c.in-Some.id placed.places placed.none c.in-Some.ensures)

pub returns-clause-order : goal.returns-clause-order
returns-clause-order c =
    let known = c.args.self.now in
    let saved = c.args.saved.now in
    let ids = c.as_slice-2.result.now in
    let placed = c.in_ok-stage.ensures in
    let same = λ (test : Id → Bool). ap (find test) c.as_slice-2.ensures ∙ c.in_ok-ids.ensures.finds test ∙ ap (find test) c.as_slice.ensures in
    subst (IsOrder (ancestries known c.args.came.now) saved) (sym placed.order)
    (order-again known ids c.args.came.now same saved c.in_ok-stage.stage.placed
    (record { places = placed.places; all = none_found (is_waiting saved c.in_ok-stage.stage.placed) (ancestries known ids) c.in-None.ensures }))
