use Rattle.std.proofs.Common.{◌≡◌, false, List, map, take}
use Rattle.std.specs.List.{list_any}
use Rattle.text_model.specs.Lists.{Each}
use Rattle.view_model.specs.View.{Row}
use Rattle.view_model.specs.Held.{IsFileHeld}
use Rattle.pair_model.specs.Block.{Block}
use Rattle.pair_known.specs.Rows.{row_value}
use Rattle.pull_bundle.specs.Late.{is_late_row}
use Rattle.state_audit.specs.Audited.{AreInTime}
use Rattle.state_audit.specs.Seen.{AreSeen}
use Rattle.state_audit.proofs.late.has_late_row.Given as goal

-- none of the files so far is late
abbrev pub invariant-loop-row : goal.invariant-loop-row
invariant-loop-row l = record {
  none : (front : List Block) (files : List Row) → AreSeen l.hg l.seen front → AreInTime front → l.rows ≡ map row_value files → Each (IsFileHeld l.hg) files
      → list_any (is_late_row front) (take l.row-index files) ≡ false;
  same : l.lines ≡ (l.seen).near.now;
}
