-- Both dumps of a saved history are accepted where nothing is saved, and give the same blocks; the stream gives the same tags too. The claim is
-- this project's own.
use Rattle.std.specs.Prelude.{[], ◌++◌}
use Rattle.text_model.specs.Fault.{Refusal}
use Rattle.git_model.specs.Stream.{stream_text}
use Rattle.pair_model.specs.Block.{changesets_in, commits_in}
use Rattle.state_model.specs.Kept.{State, Kept, kept_of, empty_state, hg_dump, git_dump}
use Rattle.state_model.specs.Saved.{IsState}
use Rattle.saved_model.specs.Step.{Pull, OfBundle, OfStream, Accepts, Refuses}
use Rattle.verify_model.specs.Holds.{StateHolds}

-- no history is saved
abbrev pub nothing : Kept
nothing = kept_of empty_state

-- the bundle of the whole history, and the stream of it with the tags
abbrev pub bundle_of : Kept → Pull
bundle_of k = OfBundle (hg_dump (changesets_in k.blocks))

abbrev pub stream_of : Kept → Pull
stream_of k = OfStream (git_dump (commits_in k.blocks) ++ stream_text k.tags)

-- the bundle brings the blocks, and no tags
abbrev pub BundleReturns : Kept → Type 0
BundleReturns k = Accepts nothing (bundle_of k) k.blocks []

-- the stream brings the blocks and the tags
abbrev pub StreamReturns : Kept → Type 0
StreamReturns k = Accepts nothing (stream_of k) k.blocks k.tags

-- no fault is one of the pull where nothing is saved
abbrev pub HasNoFault : Pull → Type 0
HasNoFault pull = (why : Refusal) → ¬ (Refuses nothing pull why)

-- both dumps are accepted, refused by nothing, and give back what they were made of
pub record DumpsReturn (k : Kept) : Type 0 where
  pub bundle : BundleReturns k
  pub bundle_faults : HasNoFault (bundle_of k)
  pub stream : StreamReturns k
  pub stream_faults : HasNoFault (stream_of k)

-- what is claimed of each state of which every block is right
abbrev pub Closure : Type 0
Closure = (s : State) → IsState s → StateHolds s → DumpsReturn (kept_of s)
