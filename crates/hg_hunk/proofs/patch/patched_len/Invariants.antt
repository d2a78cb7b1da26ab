use Rattle.std.proofs.Common.{length}
use Rattle.hg_hunk.proofs.Walks.{Walk}
use Rattle.hg_hunk.proofs.patch.patched_len.Given as goal

-- the hunks so far, judged and counted
abbrev pub invariant-loop-hunk : goal.invariant-loop-hunk
invariant-loop-hunk l = Walk l.base_len l.delta l.rest l.from l.kept l.inserted

abbrev pub decreases-loop-hunk : goal.decreases-loop-hunk
decreases-loop-hunk l = length l.rest
