use Rattle.std.proofs.Common.{◌-◌, ◌≡◌, ◌++◌, length, map}
use Rattle.git_model.specs.Tree.{tree_text}
use Rattle.git_model.specs.Shape.{leaf_of}
use Rattle.tree_shape.specs.Shapes.{shorts, Good, entries_in, trees_in}
use Rattle.tree_shape.proofs.assemble.+put_rows.Given as goal

abbrev pub decreases-put_rows : goal.decreases-put_rows
decreases-put_rows l = l.levels

-- with the entries and the trees of the rows that are left, all are there
abbrev pub invariant-names : goal.invariant-names
invariant-names l = record {
  good : Good (shorts l.skip l.rest);
  text : l.text.items ++ tree_text (entries_in (l.levels - 1) (map leaf_of (shorts l.skip l.rest))) ≡ tree_text (entries_in (l.levels - 1) (map leaf_of (shorts l.skip l.rows)));
  made : l.made ++ trees_in (l.levels - 1) (map leaf_of (shorts l.skip l.rest)) ≡ l.fn.made ++ trees_in (l.levels - 1) (map leaf_of (shorts l.skip l.rows));
}

abbrev pub decreases-names : goal.decreases-names
decreases-names l = length l.rest
