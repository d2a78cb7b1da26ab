-- Inputs that are taken into an empty state, and the stream of a history that is made.
use Rattle.std.specs.Prelude.{◌≡◌, ℕ, ◌≤◌, ◌+◌, ◌*◌, false, length}
use Rattle.text_model.specs.Text.{Bytes}
use Rattle.text_model.specs.Fault.{Refusal}
use Rattle.state_model.specs.Kept.{Kept, kept_of, with_kept, empty_state}
use Rattle.saved_model.specs.Step.{Pull, OfBundle, Steps, Refuses}
use Rattle.make_model.specs.Dump.{most_changesets, made_collides, made_bundle}
use Rattle.command_model.specs.Made.{stream_of, MakesCounts}
use Rattle.pair_state.specs.declared.state_parts.StateParts.{StateParts}
use Rattle.state_text.specs.Stands.{Stands}

-- at most 18 steps were counted for each block
abbrev pub CountsFor : Kept → ℕ → ℕ → Type 0
CountsFor kept before now = now ≤ before + 18 * length kept.blocks

-- The parts stand for what the input brings to an empty state; so many steps were counted before and behind.
pub record IsTaken (pull : Pull) (before now : ℕ) (s : StateParts) : Type 0 where
  pub kept : Kept
  pub written : Bytes
  pub takes : Steps (kept_of empty_state) pull kept written
  pub stands : Stands s (with_kept empty_state kept)
  pub steps : CountsFor kept before now

-- an empty state refuses the input
abbrev pub RefusesAlone : Pull → Refusal → Type 0
RefusesAlone pull why = Refuses (kept_of empty_state) pull why

-- the stream is that of the state into which the bundle of the history was taken
pub record IsStreamOfMade (n seed : ℕ) (before now : ℕ) (stream : Bytes) : Type 0 where
  pub few : n ≤ most_changesets
  pub apart : made_collides n seed ≡ false
  pub first : Kept
  pub written : Bytes
  pub takes : Steps (kept_of empty_state) (OfBundle (made_bundle n seed)) first written
  pub is : stream ≡ stream_of first
  pub steps : CountsFor first before now

-- at most 18 steps were counted for each block of either state
abbrev pub CountsSteps : ℕ → ℕ → Bytes → ℕ → ℕ → Type 0
CountsSteps n seed lines before now =
    (m : MakesCounts n seed lines) × (now ≤ before + 18 * (length (m.first).blocks + length (m.second).blocks))
