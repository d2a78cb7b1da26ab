use Rattle.std.proofs.Common.{length}
use Rattle.hg_hunk.proofs.Walks.{Shapes}
use Rattle.hg_hunk.proofs.patch.check_shapes.Given as goal

abbrev pub invariant-loop-after : goal.invariant-loop-after
invariant-loop-after l = Shapes l.delta l.rest

abbrev pub decreases-loop-after : goal.decreases-loop-after
decreases-loop-after l = length l.rest
