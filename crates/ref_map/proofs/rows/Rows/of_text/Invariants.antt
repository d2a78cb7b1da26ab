use Rattle.std.proofs.Common.{length}
use Rattle.ref_map.specs.Rows.{reader}
use Rattle.ref_map.proofs.TextLemmas.{SoFar}
use Rattle.ref_map.proofs.rows.Rows.of_text.Given as goal

-- the lines so far are taken
abbrev pub invariant-loop-rest : goal.invariant-loop-rest
invariant-loop-rest g l = SoFar (reader l.side (g.K.Lookup.targets l.known)) l.text l.rows l.rest

abbrev pub decreases-loop-rest : goal.decreases-loop-rest
decreases-loop-rest g l = length l.rest
