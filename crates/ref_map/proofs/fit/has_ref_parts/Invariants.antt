use Rattle.std.proofs.Common.{length}
use Rattle.ref_map.proofs.PartLemmas.{Left}
use Rattle.ref_map.proofs.fit.has_ref_parts.Given as goal

-- the parts so far are fit
abbrev pub invariant-loop-part : goal.invariant-loop-part
invariant-loop-part l = Left l.name l.rest

abbrev pub decreases-loop-part : goal.decreases-loop-part
decreases-loop-part l = length l.rest
