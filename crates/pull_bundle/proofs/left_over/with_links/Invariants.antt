use Rattle.std.proofs.Common.{◌≡◌, List, ◌++◌, map, take}
use Rattle.hg_model.specs.Revision.{Revision}
use Rattle.hg_model.specs.Reading as model
use Rattle.hg_bundle.specs.Arrivals.{arrival_of}
use Rattle.hg_dump.specs.Refers.{RefersTo}
use Rattle.pair_model.specs.Block.{Block}
use Rattle.pair_state.specs.Blocks.{IsStateOf}
use Rattle.pull_bundle.specs.LeftOver.{NameMore}
use Rattle.pull_bundle.proofs.LinkNames.{AreOfLinks}
use Rattle.pull_bundle.proofs.left_over.with_links.Given as goal

abbrev pub invariant-loop-place : goal.invariant-loop-place
invariant-loop-place l = record {
  named : (blocks : List Block) (came : List model.Arrival) (rs : List Revision) → IsStateOf l.state blocks → l.arrivals ≡ map arrival_of came → RefersTo l.fn.referred rs
      → (more : List Revision) × NameMore l.state.known.hg blocks (take l.place came) more × RefersTo l.next (rs ++ more);
  manifests : (blocks : List Block) (came : List model.Arrival) → IsStateOf l.state blocks → l.arrivals ≡ map arrival_of came → AreOfLinks l.state.known.hg blocks (take l.place came) l.manifests;
}
