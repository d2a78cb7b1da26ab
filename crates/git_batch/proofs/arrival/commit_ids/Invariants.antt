use Rattle.std.proofs.Common.{◌≡◌, take}
use Rattle.git_batch.specs.Arrivals.{commits_among}
use Rattle.git_batch.proofs.arrival.commit_ids.Given as goal

abbrev pub invariant-loop-item : goal.invariant-loop-item
invariant-loop-item l = l.ids ≡ commits_among (take l.item-index l.came)
