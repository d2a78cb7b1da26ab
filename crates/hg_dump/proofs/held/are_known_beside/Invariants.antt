use Rattle.std.proofs.Common.{length}
use Rattle.hg_dump.proofs.HeldLines.{AreKnownTo}
use Rattle.hg_dump.proofs.held.are_known_beside.Given as goal

abbrev pub invariant-loop-line : goal.invariant-loop-line
invariant-loop-line l = AreKnownTo l.store l.fn.walk.lines l.fn.walk.other l.walk

abbrev pub decreases-loop-line : goal.decreases-loop-line
decreases-loop-line l = length (l.walk).lines
