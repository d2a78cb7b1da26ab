use Rattle.std.proofs.Common.{length}
use Rattle.git_object.proofs.ParentLemmas.{Followed}
use Rattle.git_object.proofs.commit.read_parents.Given as goal

-- what stands before the rest is the lines of the parents that were appended
abbrev pub invariant-parents : goal.invariant-parents
invariant-parents l = Followed l.text l.initial.parents l.parents l.rest

abbrev pub decreases-parents : goal.decreases-parents
decreases-parents l = length l.rest
