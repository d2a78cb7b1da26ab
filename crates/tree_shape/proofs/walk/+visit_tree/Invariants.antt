use Rattle.std.proofs.Common.{◌≡◌, take}
use Rattle.tree_shape.specs.Walks.{entries_visits, Walked}
use Rattle.tree_shape.proofs.walk.+visit_tree.Given as goal

abbrev pub decreases-visit_tree : goal.decreases-visit_tree
decreases-visit_tree g l = l.levels

-- the entries so far were walked through
abbrev pub invariant-entries : goal.invariant-entries
invariant-entries g l = record {
  path : l.walk.path.items ≡ l.fn.walk.path.items;
  walked : Walked (g.G.Objects.objects l.store) l.fn.walk.size l.walk.size l.fn.walk.rows.items l.walk.rows.items (entries_visits (g.G.Objects.objects l.store) l.levels l.fn.walk.path.items (take l.entry-index l.entries));
}
