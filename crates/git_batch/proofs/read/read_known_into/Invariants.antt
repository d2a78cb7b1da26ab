use Rattle.std.proofs.Common.{◌≡◌, ◌-◌, ◌^◌, List}
use Rattle.git_model.specs.Stream.{Placed}
use Rattle.git_store.specs.Known.{AreKnown}
use Rattle.git_batch.proofs.Reading.{AreAdded, Reading}
use Rattle.git_batch.proofs.read.read_known_into.Given as goal

abbrev pub invariant-objects : goal.invariant-objects
invariant-objects g l = record {
  came : (before : List Placed) × AreAdded l.fn.store l.gathered before × Reading l.fn.store (g.S.Source.left l.fn.src) (g.S.Source.left l.src) l.gathered l.reader before;
  known : AreKnown l.fn.store → AreKnown l.gathered.store;
  kept : g.S.Source.faults l.src ≡ g.S.Source.faults l.fn.src;
}

abbrev pub decreases-objects : goal.decreases-objects
decreases-objects g l = 2 ^ 29 - l.reader
