-- What is claimed of the stream of new commits over the history behind which they come. It is this project's own.
use Rattle.std.specs.Prelude.{List, []}
use Rattle.text_model.specs.Fault.{Refusal}
use Rattle.view_model.specs.Dump.{git_increment}
use Rattle.pair_model.specs.Block.{Block, commits_in}
use Rattle.state_model.specs.Kept.{Kept}
use Rattle.saved_model.specs.Step.{Pull, OfStream, Accepts, Refuses}

-- the stream of the commits of new blocks, without what the earlier ones have
abbrev pub stream_behind : Kept → List Block → Pull
stream_behind k new = OfStream (git_increment (commits_in k.blocks) (commits_in new))

-- over the history the stream is accepted, brings just the new blocks and no tag, and no fault is one of it
pub record StreamGoesOn (k : Kept) (new : List Block) : Type 0 where
  pub accepted : Accepts k (stream_behind k new) new []
  pub no_fault : (why : Refusal) → ¬ (Refuses k (stream_behind k new) why)
