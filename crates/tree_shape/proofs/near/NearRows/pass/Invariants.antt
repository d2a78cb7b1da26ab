use Rattle.std.proofs.Common.{length}
use Rattle.std.specs.Prelude.{⊤}
use Rattle.tree_shape.proofs.near.NearRows.pass.Given as goal

abbrev pub invariant-loop-row : goal.invariant-loop-row
invariant-loop-row l = ⊤

abbrev pub decreases-loop-row : goal.decreases-loop-row
decreases-loop-row l = length l.self.ahead.now
