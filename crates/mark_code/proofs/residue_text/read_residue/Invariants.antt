use Rattle.std.proofs.Common.{length}
use Rattle.mark_code.proofs.ResidueLemmas.{ReadTo}
use Rattle.mark_code.proofs.residue_text.read_residue.Given as goal

-- the items of the text are those that are read and those of the rest
abbrev pub invariant-words : goal.invariant-words
invariant-words l = ReadTo l.text l.residue l.rest

abbrev pub decreases-words : goal.decreases-words
decreases-words l = length l.rest
