use Rattle.std.proofs.Common.{◌≤◌, ◌+◌, ◌*◌, List, length, take}
use Rattle.hg_model.specs.Revision.{Revision}
use Rattle.hg_model.specs.Reading as model
use Rattle.pair_model.specs.Block.{Block}
use Rattle.pull_bundle.specs.Takes.{TakesArrivals, Starts}
use Rattle.pull_bundle.proofs.arrivals.take_all.Given as goal

-- the changesets so far have their blocks, with few steps
abbrev pub invariant-loop-place : goal.invariant-loop-place
invariant-loop-place g l = record {
  took : (base : List Revision) (blocks : List Block) (came : List model.Arrival) → Starts l.fn.taking base blocks l.arrivals came → TakesArrivals l.fn.taking l.next base blocks (take l.place came);
  least : l.fn.steps ≤ l.steps;
  few : l.steps + 18 * length ((l.fn.taking).state).blocks ≤ l.fn.steps + 18 * length ((l.next).state).blocks;
}
