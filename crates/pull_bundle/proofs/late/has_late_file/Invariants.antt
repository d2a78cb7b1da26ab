use Rattle.std.proofs.Common.{◌≡◌, List, map, length}
use Rattle.text_model.specs.Lists.{Each}
use Rattle.view_model.specs.View.{Row, entry_of_row}
use Rattle.view_model.specs.Held.{IsFileHeld}
use Rattle.pair_model.specs.Block.{Block}
use Rattle.hg_manifest.specs.Near.{IsLater}
use Rattle.pull_bundle.specs.Late.{IsLineInTime}
use Rattle.pull_bundle.specs.Takes.{IsTaking}
use Rattle.pull_bundle.proofs.LateLemmas.{AreInTimeTo}
use Rattle.pull_bundle.proofs.late.has_late_file.Given as goal

-- none of the files so far is late
abbrev pub invariant-loop-line : goal.invariant-loop-line
invariant-loop-line l = record {
  none : (blocks : List Block) (files : List Row) → IsTaking l.taking blocks → map entry_of_row files ≡ l.fn.lines → Each (IsFileHeld ((l.taking).state).known.hg) files
      → Each (IsLineInTime ((l.taking).state).known.hg blocks) l.fn.near → AreInTimeTo blocks files (l.walk).lines;
  later : IsLater l.fn.near (l.walk).other;
}

abbrev pub decreases-loop-line : goal.decreases-loop-line
decreases-loop-line l = length (l.walk).lines
