use Rattle.std.proofs.Common.{take}
use Rattle.tree_shape.specs.declared.sorting.Order.TheVariants.{Walk}
use Rattle.tree_shape.specs.Orders.{key_in}
use Rattle.tree_shape.proofs.RowOrders.{Sorted}
use Rattle.tree_shape.proofs.sorting.by_walk.Given as goal

-- the rows so far are in order
abbrev pub invariant-loop-row : goal.invariant-loop-row
invariant-loop-row l = record { sorted : Sorted (key_in Walk) (take l.row-index l.rows) l.sorted.items }
