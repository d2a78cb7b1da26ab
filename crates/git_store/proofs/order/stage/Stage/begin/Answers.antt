use Rattle.std.proofs.Common.{◌<◌, ◌≤◌, length, Some, sym, ap, ◌∙◌, arith}
use Rattle.std.specs.Prelude.{nat_le}
use Rattle.std.proofs.lemmas.Bool.{le-leb, leb-true}
use Rattle.std.proofs.lemmas.List.{length-map}
use Rattle.std.proofs.lemmas.Option.{slice_get-get_or, slice_get_within}
use Rattle.git_store.specs.Ancestry.{ancestry_at}
use Rattle.git_store.specs.Stage.{rows, nowhere}
use Rattle.git_store.proofs.SeatLemmas.{stage-empty, stage-weaker}
use Rattle.git_store.proofs.order.stage.Stage.begin.Goals as goal

pub loop-place-init : goal.loop-place-init
loop-place-init c = record {
  stage = stage-empty (rows c.args.came.now) c.args.came.now.saved.now (λ i. nat_le 0 i) c.new-stage.result c.new-stage.ensures (λ i. le-leb 0 i (omega arith));
  placed = c.new-stage.ensures.placed;
  order = c.new-stage.ensures.order;
}

pub seat_row-requires-clause-here : goal.seat_row-requires-clause-here
seat_row-requires-clause-here c =
    slice_get-get_or c.args.came.now.ids.now c.loop-place.place c.id-item.result (omega arith) ∙ ap Some (sym c.id-item.is)

pub returns-clause-stage : goal.returns-clause-stage
returns-clause-stage c =
    let came = rows c.args.came.now in
    let ids = c.args.came.now.ids.now in
    stage-weaker came c.args.came.now.saved.now (λ i. nat_le c.loop-place.place i) nowhere c.loop-place.stage c.loop-place.invariant.stage
    (λ i a at u.
    let below : i < length came = slice_get_within came i a at in
    let above : c.loop-place.place ≤ i = leb-true c.loop-place.place i u in
    absurd (omega (arith, below, above, length-map ids (ancestry_at c.args.came.now.store.now))))
