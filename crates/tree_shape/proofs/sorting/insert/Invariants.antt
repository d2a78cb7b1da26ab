use Rattle.std.proofs.Common.{◌≤◌, length, drop}
use Rattle.text_model.specs.Lists.{Each}
use Rattle.tree_shape.specs.Orders.{key_in}
use Rattle.tree_shape.proofs.RowOrders.{Above}
use Rattle.tree_shape.proofs.sorting.insert.Given as goal

-- the rows from the place on stand above the one to be put
abbrev pub invariant-place : goal.invariant-place
invariant-place l = record {
  within : l.place ≤ length l.rows.items;
  above : Each (Above (key_in l.order) l.row) (drop l.place l.rows.items);
}

abbrev pub decreases-place : goal.decreases-place
decreases-place l = l.place
