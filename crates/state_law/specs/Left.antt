-- What a pull leaves over a saved state.
use Rattle.std.specs.Prelude.{◌+◌, ◌≤◌, List, length}
use Rattle.text_model.specs.Text.{Bytes, IsBytes}
use Rattle.git_model.specs.Object.{Object}
use Rattle.git_model.specs.Stream.{stream_text}
use Rattle.pair_model.specs.Block.{Block}
use Rattle.state_model.specs.Limits.{dump_limit, changeset_limit, slot_limit}
use Rattle.state_model.specs.Kept.{State, Kept, NameRow, kept_of, with_kept, hg_dump, git_dump}
use Rattle.state_model.specs.Names.{targets_in, targets_of, AreNames}
use Rattle.state_model.specs.Text.{Sections, text_up_to, state_text}
use Rattle.state_model.specs.Saved.{IsState}
use Rattle.name_model.specs.Targets.{AreTargets}
use Rattle.saved_model.specs.Step.{Pull, Steps, next_of}
use Rattle.next_law.specs.Next.{input_of}

-- sections within the limits of a state, with names that can be kept
pub record AreWithin (s : Sections) : Type 0 where
  pub hg : length (hg_dump s.changesets) ≤ dump_limit
  pub git : length (git_dump s.commits) + length (stream_text s.tags) ≤ dump_limit
  pub few : length s.commits ≤ changeset_limit
  pub targets : AreTargets (targets_of s)
  pub names : AreNames (targets_of s) s.names

-- the text of sections within their limits is within its own
abbrev pub TextFits : Type 0
TextFits = (s : Sections) → AreWithin s → length (text_up_to 5 s) ≤ slot_limit

-- Names that can be kept can be kept behind more blocks and tags.
abbrev pub NamesStay : Type 0
NamesStay = (k : Kept) (new : List Block) (tags : List Object) (names : List NameRow) → AreNames (targets_in k) names → AreNames (targets_in (next_of k new tags)) names

-- What a pull over a saved state leaves is a state, where the text of the one before and the input are made of bytes.
abbrev pub StateIsLeft : Type 0
StateIsLeft = (s : State) (pull : Pull) (k : Kept) (made : Bytes) → IsState s → IsBytes (state_text s) → IsBytes (input_of pull) → Steps (kept_of s) pull k made → IsState (with_kept s k)
