use Rattle.std.proofs.Common.{◌≡◌, ◌≤◌, ◌-◌, ◌^◌, option_map}
use Rattle.hg_model.specs.Reading.{sum_limit}
use Rattle.hg_store.specs.Known.{AreAdded}
use Rattle.hg_bundle.specs.Place.{place_value}
use Rattle.hg_bundle.specs.Steps.{HasFitPlace, HasLastAt}
use Rattle.hg_bundle.proofs.ReadBytes.{ReadBytes}
use Rattle.hg_bundle.proofs.Grown.{Grown}
use Rattle.hg_bundle.proofs.Reading.{Reading}
use Rattle.hg_bundle.proofs.read.read_into.Given as goal

abbrev pub invariant-chunks : goal.invariant-chunks
invariant-chunks g l = record {
  reading : Reading (g.S.Source.left l.fn.src) (g.S.Source.left l.src) l.fn.store l.gathered l.reader (option_map place_value l.next);
  grown : Grown l.fn.store l.gathered;
  added : AreAdded l.fn.store → AreAdded l.gathered.store;
  bytes : ReadBytes (g.S.Source.left l.fn.src) (g.S.Source.left l.src);
  fit : HasFitPlace (option_map place_value l.next);
  last : HasLastAt l.gathered.store l.gathered.last (option_map place_value l.next);
  sum : l.gathered.sum ≤ sum_limit;
  kept : g.S.Source.faults l.src ≡ g.S.Source.faults l.fn.src;
}

abbrev pub decreases-chunks : goal.decreases-chunks
decreases-chunks g l = 2 ^ 29 - l.reader
