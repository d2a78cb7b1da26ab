use Rattle.std.proofs.Common.{length}
use Rattle.hg_changeset.proofs.EscapeLemmas.{SpelledTo}
use Rattle.hg_changeset.proofs.escape.unescaped.Given as goal

-- the text spells the bytes and then what the rest spells
abbrev pub invariant-bytes : goal.invariant-bytes
invariant-bytes l = SpelledTo l.text l.bytes l.rest

abbrev pub decreases-bytes : goal.decreases-bytes
decreases-bytes l = length l.rest
