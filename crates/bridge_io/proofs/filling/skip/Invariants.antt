use Rattle.std.proofs.Common.{◌≡◌, ◌-◌, ◌≤◌, List, ℕ, length}
use Rattle.std.specs.Io.KnownBytes.{Consumes}
use Rattle.bridge_io.proofs.filling.skip.Given as goal

abbrev pub invariant-pieces : goal.invariant-pieces
invariant-pieces g l = record {
  gave : (bytes : List ℕ) × Consumes (g.S.Source.left l.fn.src) (g.S.Source.left l.src) bytes × (length bytes ≡ l.came);
  within : l.came ≤ l.count;
  kept : g.S.Source.faults l.src ≡ g.S.Source.faults l.fn.src;
}

abbrev pub decreases-pieces : goal.decreases-pieces
decreases-pieces g l = l.count - l.came
