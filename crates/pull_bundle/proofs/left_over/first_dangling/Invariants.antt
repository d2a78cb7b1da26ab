use Rattle.std.proofs.Common.{◌≡◌, List, map, take}
use Rattle.text_model.specs.Lists.{Each}
use Rattle.hg_model.specs.Reading as model
use Rattle.hg_bundle.specs.Arrivals.{arrival_of}
use Rattle.pair_model.specs.Block.{Block}
use Rattle.history_model.specs.Pull.{Dangles}
use Rattle.pair_state.specs.Blocks.{IsStateOf}
use Rattle.pull_bundle.proofs.left_over.first_dangling.Given as goal

abbrev pub invariant-loop-place : goal.invariant-loop-place
invariant-loop-place l = record {
  none : (blocks : List Block) (came : List model.Arrival) → IsStateOf l.state blocks → l.arrivals ≡ map arrival_of came → Each (λ a. ¬ (Dangles l.state.known.hg blocks a)) (take l.place came);
}
