use Rattle.std.proofs.Common.{length, vec_capacity}
use Rattle.hg_hunk.proofs.Fills.{Fills}
use Rattle.hg_hunk.proofs.patch.fill.Given as goal

-- the text so far, and what is left of the delta
abbrev pub invariant-loop-hunk : goal.invariant-loop-hunk
invariant-loop-hunk l = Fills l.base l.delta l.rest l.from l.out.items (vec_capacity l.out)

abbrev pub decreases-loop-hunk : goal.decreases-loop-hunk
decreases-loop-hunk l = length l.rest
