use Rattle.std.proofs.Common.{take}
use Rattle.bridge_text.proofs.Sets.{IsSetOf}
use Rattle.bridge_text.proofs.id_set.IdSet.of.Given as goal

abbrev pub invariant-loop-id : goal.invariant-loop-id
invariant-loop-id l = IsSetOf l.set (take l.id-index l.ids)
