use Rattle.std.proofs.Common.{◌≤◌, length}
use Rattle.git_model.proofs.TreeReadLemmas.{TreeTo}
use Rattle.git_object.proofs.tree.Tree.read.Given as goal

-- the entries so far are a tree's, their text stands before the rest, and the rest decides the fault
abbrev pub invariant-entries : goal.invariant-entries
invariant-entries l = record { to : TreeTo l.content l.tree l.rest; within : length l.rest ≤ length l.content }

abbrev pub decreases-entries : goal.decreases-entries
decreases-entries l = length l.rest
