use Rattle.std.proofs.Common.{◌≡◌, ◌++◌, take}
use Rattle.tree_shape.specs.Walks.{entries_visits}
use Rattle.tree_residue.specs.Items.{item_rows}
use Rattle.tree_residue.proofs.walk.+visit_tree.Given as goal

abbrev pub decreases-visit_tree : goal.decreases-visit_tree
decreases-visit_tree g l = l.levels

-- the entries so far were walked through
abbrev pub invariant-entries : goal.invariant-entries
invariant-entries g l = record {
  path : l.path.items ≡ l.fn.path.items;
  rows : l.rows.items ≡ l.fn.rows.items ++ item_rows (g.G.Objects.objects l.store) (entries_visits (g.G.Objects.objects l.store) l.levels l.fn.path.items (take l.entry-index l.entries));
}
