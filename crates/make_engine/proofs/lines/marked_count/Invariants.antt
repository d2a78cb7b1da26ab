use Rattle.std.proofs.Common.{◌≡◌, ◌≤◌, List, take}
use Rattle.std.specs.Prelude.{count_by}
use Rattle.view_model.specs.View.{CommitView}
use Rattle.view_model.specs.Held.{AreCommitsHeld}
use Rattle.command_model.specs.Made.{is_marked}
use Rattle.make_engine.proofs.lines.marked_count.Given as goal

abbrev pub invariant-loop-id : goal.invariant-loop-id
invariant-loop-id l = record {
  so_far : (cs : List CommitView) → AreCommitsHeld l.git l.ids cs → l.count ≡ count_by is_marked (take l.id-index cs);
  few : l.count ≤ l.id-index;
}
