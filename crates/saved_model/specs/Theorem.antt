-- What is claimed of every list of pulls.
use Rattle.std.specs.Prelude.{◌≡◌, List, ◌∷◌, Option, Some, None}
use Rattle.text_model.specs.Text.{Bytes}
use Rattle.text_model.specs.Fault.{Refusal}
use Rattle.state_model.specs.Kept.{State, kept_of}
use Rattle.state_model.specs.Saved.{SlotHolds}
use Rattle.saved_model.specs.Step.{Pull}
use Rattle.saved_model.specs.History.{IsHistory}

-- what the slot holds is the history of these pulls, the newest first
abbrev pub IsSaved : List Pull → Option Bytes → Type 0
IsSaved pulls held = (s : State) × SlotHolds held s × IsHistory pulls (kept_of s)

-- After any list of pulls: where the slot held their history, a pull that is done leaves the history of the list and this pull, and one
-- that is refused changes nothing, and the history of the list and this pull is what it was.
abbrev pub GoesOn : Pull → Option Bytes → Option Bytes → Option Refusal → Type 0
GoesOn pull before after None = (pulls : List Pull) → IsSaved pulls before → IsSaved (pull ∷ pulls) after
GoesOn pull before after (Some why) = (after ≡ before) × ((pulls : List Pull) → IsSaved pulls before → IsSaved (pull ∷ pulls) before)
