use Rattle.std.proofs.Common.{◌≡◌, List, take}
use Rattle.text_model.specs.Lists.{Each}
use Rattle.view_model.specs.View.{Row}
use Rattle.pair_model.specs.Block.{Block}
use Rattle.pair_state.specs.Step.{AreAsked}
use Rattle.state_audit.specs.Audited.{AreCompared, IsFileRight}
use Rattle.state_audit.specs.Seen.{AreSeen}
use Rattle.state_audit.proofs.files.are_files_right.Given as goal

-- the files so far are right
abbrev pub invariant-loop-row : goal.invariant-loop-row
invariant-loop-row l = record {
  right : (front : List Block) (files : List Row) → AreSeen l.known.hg l.seen front → AreCompared l.known.git front → AreAsked l.known.hg l.known.git l.rows files
      → Each (IsFileRight l.known.git front) (take l.row-index files);
  same : l.lines ≡ (l.seen).near.now;
}
