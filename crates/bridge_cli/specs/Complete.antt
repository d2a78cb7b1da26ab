-- When a run is done, or has no memory.
use Rattle.std.specs.Prelude.{◌≡◌, ◌⊎◌, ℕ, Bool, [], Option, None, Some, MatchBool}
use Rattle.text_model.specs.Text.{Bytes}
use Rattle.text_model.specs.Id.{Id}
use Rattle.text_model.specs.Fault.{Refusal}
use Rattle.bridge_io.specs.Causes.{Rose}
use Rattle.state_model.specs.Kept.{State}
use Rattle.command_model.specs.Command.{Command, Refused, Mismatched, reads_input, reads_slot, ComesTo, BeginsWith}
use Rattle.bridge_cli.specs.declared.status.Status.{Status}
use Rattle.bridge_cli.specs.declared.status.Status.TheVariants.{Done, Memory, Mismatch}

-- what is used tells that it has this; what isn't used has nothing
abbrev pub Tells : {T : Type 0} → Bool → Option T → T → T → Type 0
Tells used told nothing has = MatchBool used (told ≡ Some has) (has ≡ nothing)

-- a count of faults did not rise
abbrev pub NoFault : ℕ → ℕ → Type 0
NoFault before now = ¬ (Rose before now)

-- what a run says of a command over a state and bytes, where nothing outside fails
pub record CompletesOver (command : Command) (s : State) (bytes : Bytes) (status : Status) : Type 0 where
  pub done : ((why : Refusal) → ¬ (ComesTo command s bytes (Refused why))) → ((kept right : Id) → ¬ (ComesTo command s bytes (Mismatched kept right)))
      → (status ≡ Done) ⊎ (status ≡ Memory)
  pub mismatch : (kept right : Id) → ComesTo command s bytes (Mismatched kept right) → (status ≡ Mismatch) ⊎ (status ≡ Memory)

-- Where the input and the slot tell what they have, the slot nothing or the text of a state, and the command comes to no refusal and to no mismatch over
-- that state and those bytes, the work is done, or memory ran out; where it comes to a mismatch, that is what the run says, or memory ran out.
abbrev pub Completes : Command → Option Bytes → Option (Option Bytes) → Status → Type 0
Completes command input slot status =
    (bytes : Bytes) (held : Option Bytes) (s : State) → Tells (reads_input command) input [] bytes → Tells (reads_slot command) slot None held → BeginsWith command held s
    → CompletesOver command s bytes status
