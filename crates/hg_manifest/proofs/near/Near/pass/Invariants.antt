use Rattle.std.proofs.Common.{length}
use Rattle.hg_manifest.specs.Near.{IsLater}
use Rattle.hg_manifest.proofs.near.Near.pass.Given as goal

abbrev pub invariant-loop-entry : goal.invariant-loop-entry
invariant-loop-entry l = IsLater l.fn.self l.self

abbrev pub decreases-loop-entry : goal.decreases-loop-entry
decreases-loop-entry l = length l.self
