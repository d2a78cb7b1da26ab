use Rattle.std.proofs.Common.{◌≡◌, ◌++◌}
use Rattle.tree_shape.specs.declared.sorting.Order.TheVariants.{Paths}
use Rattle.tree_shape.specs.Orders.{key_in}
use Rattle.tree_shape.proofs.RowOrders.{Sorted}
use Rattle.tree_shape.proofs.sorting.by_paths.Given as goal

-- the rows so far are in order
abbrev pub invariant-loop-row : goal.invariant-loop-row
invariant-loop-row l =
    (goal.iterator-loop-row).can_next l.row-iterator ×
    (goal.iterator-loop-row).is_finite l.row-iterator ×
    (l.initial.row-iterator.rest.items ≡ l.yielded ++ l.row-iterator.rest.items) ×
    Sorted (key_in Paths) l.yielded l.sorted.items
