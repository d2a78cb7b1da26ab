use Rattle.std.proofs.Common.{◌-◌, ◌≡◌, ◌≤◌, ◌&&◌, ◌++◌, not, length, drop, map}
use Rattle.git_model.specs.Tree.{tree_text}
use Rattle.git_model.specs.Shape.{leaf_of}
use Rattle.tree_shape.specs.Shapes.{shorts, Good, entries_in, trees_in}
use Rattle.tree_shape.specs.Wholes.{tree_leaves}
use Rattle.tree_rebuild.specs.Entries.{met_text}
use Rattle.tree_rebuild.proofs.Kept.{Added}
use Rattle.tree_rebuild.proofs.NewSteps.{new_entries}
use Rattle.tree_rebuild.proofs.SameSteps.{Has}
use Rattle.tree_rebuild.proofs.over.+put_rows_over.Given as goal

abbrev pub decreases-put_rows_over : goal.decreases-put_rows_over
decreases-put_rows_over g l = l.levels

-- with the entries and the trees of the rows that are left, all are there; and those that were met are the old tree's
-- where none differs
abbrev pub invariant-names : goal.invariant-names
invariant-names g l = record {
  good : Good (shorts l.skip l.rest);
  within : l.entries.place ≤ length l.old_entries;
  text : met_text l.entries.differs l.entries.place l.entries.text.items l.old_entries ++ tree_text (entries_in (l.levels - 1) (map leaf_of (shorts l.skip l.rest))) ≡ tree_text (entries_in (l.levels - 1) (map leaf_of (shorts l.skip l.rows)));
  same : (not l.entries.differs && Has (g.G.Objects.objects l.store) (l.levels - 1) l.skip (drop l.entries.place l.old_entries) l.rest) ≡ Has (g.G.Objects.objects l.store) (l.levels - 1) l.skip l.old l.rows;
  made : Added (g.G.Objects.objects l.store) l.fn.made l.made (trees_in (l.levels - 1) (map leaf_of (shorts l.skip l.rest))) (trees_in (l.levels - 1) (map leaf_of (shorts l.skip l.rows)));
  new : l.made ++ new_entries (l.levels - 1) (tree_leaves (g.G.Objects.objects l.store) l.levels l.old) (map leaf_of (shorts l.skip l.rest))
      ≡ l.fn.made ++ new_entries (l.levels - 1) (tree_leaves (g.G.Objects.objects l.store) l.levels l.old) (map leaf_of (shorts l.skip l.rows));
}

abbrev pub decreases-names : goal.decreases-names
decreases-names g l = length l.rest
