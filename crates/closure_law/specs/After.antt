-- What is saved behind a list of pulls, and what is claimed of it. Both are this project's own.
use Rattle.std.specs.Prelude.{◌≡◌, ◌⊎◌, List, [], ◌∷◌}
use Rattle.text_model.specs.Text.{Bytes}
use Rattle.text_model.specs.Fault.{Refusal}
use Rattle.state_model.specs.Kept.{State, Kept, kept_of, empty_state}
use Rattle.state_model.specs.Saved.{IsState}
use Rattle.saved_model.specs.Step.{Pull, Steps, Refuses, known_of}
use Rattle.saved_model.specs.History.{IsHistory}
use Rattle.verify_model.specs.Holds.{Holds}
use Rattle.closure_model.specs.Closure.{DumpsReturn}

-- The blocks and tags behind these pulls, the newest first, where each state on the way has a text. There are none before any of them. A pull that is
-- accepted leaves those of the next state, and one that is refused those that were there. Names enter nowhere, so they may be set in between.
abbrev pub IsSavedAfter : List Pull → Kept → Type 0
IsSavedAfter [] k = k ≡ kept_of empty_state
IsSavedAfter (pull ∷ before) k =
    (s : State) × IsState s × IsSavedAfter before (kept_of s)
    × (((next : State) × (made : Bytes) × IsState next × Steps (kept_of s) pull (kept_of next) made × (k ≡ kept_of next))
    ⊎ ((why : Refusal) × Refuses (kept_of s) pull why × (k ≡ kept_of s)))

-- They are one conversion of all that these pulls brought, each block is right, and both dumps give them back.
pub record IsRightAfter (pulls : List Pull) (k : Kept) : Type 0 where
  pub history : IsHistory pulls k
  pub holds : Holds (known_of k).revisions (known_of k).objects [] k.blocks
  pub returns : DumpsReturn k
