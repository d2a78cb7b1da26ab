use Rattle.std.proofs.Common.{◌≡◌, ◌++◌, take}
use Rattle.std.specs.List.{filter_map}
use Rattle.git_model.specs.Residue.{row_of_item}
use Rattle.tree_residue.proofs.rows.put_items.Given as goal

-- the rows of the items so far stand behind the others
abbrev pub invariant-loop-item : goal.invariant-loop-item
invariant-loop-item l = l.rows.items ≡ l.fn.rows.items ++ filter_map row_of_item (take l.item-index l.items)
