use Rattle.git_store.specs.Stage.{IsKnownUpTo}
use Rattle.git_store.proofs.order.came.first_unknown.Given as goal

abbrev pub invariant-loop-place : goal.invariant-loop-place
invariant-loop-place l = IsKnownUpTo l.saved l.placed l.parents l.place
