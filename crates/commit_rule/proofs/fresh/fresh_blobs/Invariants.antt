use Rattle.std.proofs.Common.{◌++◌, List, map, take}
use Rattle.text_model.specs.Lists.{Each}
use Rattle.view_model.specs.View.{Row}
use Rattle.pair_model.specs.Rule.{tree_row_of}
use Rattle.commit_rule.specs.Parts.{AreRowsOf, AreBrought, HasStoredBlob}
use Rattle.commit_rule.proofs.fresh.fresh_blobs.Given as goal

-- the blobs of the rows so far; the walk sees the near rows
abbrev pub invariant-loop-row : goal.invariant-loop-row
invariant-loop-row l = record {
  brought : (rows : List Row) → AreRowsOf (l.h.fresh ++ l.known.hg) l.h.rows rows → AreBrought l.known.git l.fresh (map tree_row_of (take l.row-index rows));
  near_stored : Each (HasStoredBlob l.known.git) l.walk;
}
