-- A state that holds nothing is the empty one as it is read.
use Rattle.std.specs.Prelude.{◌≡◌, []}
use Rattle.view_model.specs.Dump.{brought_by, paths_in}
use Rattle.state_model.specs.Kept.{empty_state}
use Rattle.saved_model.specs.Step.{in_written_order}
use Rattle.next_law.proofs.EmptySaved.{is-state}
use Rattle.pair_state.specs.AllBlocks.{HasAllBlocks}
use Rattle.pair_state.specs.declared.state_parts.StateParts.{StateParts}
use Rattle.pull_engine.specs.Read.{IsReadState}

pub empty-is-read : (s : StateParts) → HasAllBlocks s [] → s.known.hg ≡ [] → s.known.git ≡ [] → s.tags ≡ [] → s.names ≡ [] → IsReadState s empty_state
unfolding in_written_order brought_by paths_in
empty-is-read s blocks revisions objects tags names = record {
  saved = is-state;
  stands = record { blocks = blocks; tags = tags; tags_held = tt; names = names };
  holds = record { revisions = revisions; objects = objects };
}
