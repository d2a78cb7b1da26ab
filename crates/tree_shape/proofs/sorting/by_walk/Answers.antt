use Rattle.std.proofs.Common.{◌≡◌, ◌∷◌, List, suc, drop, take, sym, subst}
use Rattle.std.proofs.lemmas.List.{take_all}
use Rattle.git_model.specs.Unfold.{FileRow}
use Rattle.tree_shape.specs.declared.sorting.Order.TheVariants.{Walk}
use Rattle.tree_shape.specs.Orders.{key_in, Same}
use Rattle.tree_shape.proofs.RowOrders.{Sorted, sorted-none, next-other, next-sorted, all-sorted, at-place, take-next}
use Rattle.tree_shape.proofs.sorting.by_walk.Goals as goal

pub loop-row-init : goal.loop-row-init
loop-row-init c = record { sorted = sorted-none (key_in Walk) c.new-sorted.result.items c.new-sorted.ensures.items }

pub insert-requires-clause-order : goal.insert-requires-clause-order
insert-requires-clause-order c = c.loop-row.invariant.sorted.order

pub insert-requires-clause-other : goal.insert-requires-clause-other
insert-requires-clause-other c =
    let rows = c.args.rows.now in
    let i = c.loop-row.row-index in
    let row : c.in_ok-copy.copy ≡ c.row-item.result = c.in_ok-copy.ensures in
    rw row (next-other (key_in Walk) rows (take i rows) c.loop-row.sorted.items c.row-item.result (drop (suc i) rows) (at-place rows i c.row-item.result c.loop-row-test.true c.row-item.is) c.loop-row.invariant.sorted c.requires)

pub loop-row-preserved : goal.loop-row-preserved
loop-row-preserved c =
    let rows = c.args.rows.now in
    let i = c.loop-row.row-index in
    let row : c.in_ok-copy.copy ≡ c.row-item.result = c.in_ok-copy.ensures in
    record {
      sorted = subst (λ (done : List FileRow). Sorted (key_in Walk) done c.insert.new.rows.items) (sym (take-next rows i c.row-item.result c.loop-row-test.true c.row-item.is))
          (next-sorted (key_in Walk) rows (take i rows) c.loop-row.sorted.items c.row-item.result (drop (suc i) rows) (at-place rows i c.row-item.result c.loop-row-test.true c.row-item.is) c.loop-row.invariant.sorted c.insert.new.rows.items
          c.in_ok-insert.ensures.order (subst (λ (r : FileRow). Same c.insert.new.rows.items (r ∷ c.loop-row.sorted.items)) row c.in_ok-insert.ensures.same));
    }

pub returns : goal.returns
returns c =
    let rows = c.args.rows.now in
    all-sorted (key_in Walk) rows c.loop-row.sorted.items c.requires
    (subst (λ (done : List FileRow). Sorted (key_in Walk) done c.loop-row.sorted.items) (take_all c.loop-row.row-index rows c.loop-row-test.false) c.loop-row.invariant.sorted)
