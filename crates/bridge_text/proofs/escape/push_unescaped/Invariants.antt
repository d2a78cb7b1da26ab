use Rattle.std.proofs.Common.{length}
use Rattle.bridge_text.proofs.UnescapeLemmas.{Unescaped}
use Rattle.bridge_text.proofs.escape.push_unescaped.Given as goal

-- what stands before the rest was unescaped
abbrev pub invariant-bytes : goal.invariant-bytes
invariant-bytes l = Unescaped l.text l.rest l.initial.out.items l.out.items

abbrev pub decreases-bytes : goal.decreases-bytes
decreases-bytes l = length l.rest
