-- What a command makes of its state and its input, before anything is written.
use Rattle.std.specs.Prelude.{◌≡◌, ℕ, [], Option, Some, None, IfSome, Result, MatchBool, MatchResult, ⊤}
use Rattle.std.specs.Global.{Vec}
use Rattle.std.specs.Io.KnownBytes.{Appends, IsAtEnd}
use Rattle.text_model.specs.Text.{Bytes}
use Rattle.hg_model.specs.Bundle.{ListsBundle, IsNoBundle}
use Rattle.bridge_io.specs.Causes.{Rose}
use Rattle.bridge_io.specs.Sink.{AppendsPrefix}
use Rattle.bridge_io.specs.Slot.{HoldsBytes}
use Rattle.state_model.specs.Kept.{State, empty_state}
use Rattle.state_model.specs.Saved.{IsState, IsStateText}
use Rattle.pair_state.specs.declared.state.State as pair
use Rattle.state_text.specs.Stands.{Stands}
use Rattle.command_model.specs.Command.{Command, Verify, Written, Refused, Mismatched, reads_input, reads_slot, ComesTo, BeginsWith, IsBadSlot}
use Rattle.bridge_text.specs.Refusals.{fault_name, refusal_value}
use Rattle.bridge_cli.specs.Names.{MayRefuse}
use Rattle.bridge_cli.specs.Over.{HeldBy, Over}
use Rattle.bridge_cli.specs.Report.{bad_value}
use Rattle.bridge_cli.specs.declared.report.Report.{Report}
use Rattle.bridge_cli.specs.declared.report.Report.TheVariants as code
use Rattle.bridge_cli.specs.declared.work.Work.{Work}

-- ---- an input alone

-- how a run ends of which nothing is written: of a refusal the name whatever the input tells, and the whole where it tells its bytes
abbrev pub IsEndAlone : Command → Option Bytes → Report → Type 0
IsEndAlone command input (code.Refused why) = MayRefuse command (fault_name why.fault) × IfSome input (λ bytes. ComesTo command empty_state bytes (Refused (refusal_value why)))
IsEndAlone command input code.ReadFault = ⊤
IsEndAlone command input code.Memory = ⊤
IsEndAlone command input report = ⊥

-- the output is what a command without a state comes to, with the input read to its end
abbrev pub MakesAlone : Command → Option Bytes → Option Bytes → Result (Vec ℕ) Report → Type 0
MakesAlone command input rest result = MatchResult result
    (λ output. IsAtEnd rest × IfSome input (λ bytes. ComesTo command empty_state bytes (Written output.items None)))
    (IsEndAlone command input)

-- ---- an input and a saved state

-- the text is that of the state that is saved, and there is none where none is
abbrev pub IsTextOf : Option State → Option Bytes → Type 0
IsTextOf None None = ⊤
IsTextOf (Some s) (Some text) = IsStateText text s
IsTextOf _ _ = ⊥

-- the text is there, and is that of each state for which the state of the code stands
abbrev pub IsNextText : pair.State → Option Bytes → Type 0
IsNextText s None = ⊥
IsNextText s (Some text) = (m : State) → Stands s m → IsState m → IsStateText text m

-- how a run ends of which nothing is written: of a refusal the name whatever input and slot tell, and the whole where they tell what they have
abbrev pub IsEndOf : Command → Option Bytes → Option (Option Bytes) → Report → Type 0
IsEndOf command input slot (code.Refused why) = MayRefuse command (fault_name why.fault) × Over command input slot (λ s bytes. ComesTo command s bytes (Refused (refusal_value why)))
IsEndOf command input slot code.ReadFault = HeldBy (reads_slot command) slot (λ held. (s : State) × BeginsWith command held s)
IsEndOf command input slot code.SlotFault = ⊤
IsEndOf command input slot (code.StateBad why) = HeldBy (reads_slot command) slot (λ held. IsBadSlot held (bad_value why))
IsEndOf command input slot code.Memory = ⊤
IsEndOf command input slot (code.Mismatch kept right) = (command ≡ Verify) × Over command input slot (λ s bytes. ComesTo command s bytes (Mismatched kept right))
IsEndOf command input slot report = ⊥

-- The output and the text are what the command comes to, with the input read to its end where it reads one.
abbrev pub Makes : Command → Option Bytes → Option Bytes → Option (Option Bytes) → Result Work Report → Type 0
Makes command input rest slot result = MatchResult result
    (λ w. MatchBool (reads_input command) (IsAtEnd rest) ⊤
    × Over command input slot (λ s bytes. (saved : Option State) × ComesTo command s bytes (Written w.output saved) × IsTextOf saved w.text))
    (IsEndOf command input slot)

-- ---- the listing of a bundle

-- bytes that are refused are no bundle that this program reads
abbrev pub RefusesNoBundle : Option Bytes → Report → Type 0
RefusesNoBundle input (code.Refused why) = IfSome input IsNoBundle
RefusesNoBundle input report = ⊤

-- the output has the lines of the bundle's entries
abbrev pub ListsTheBundle : Option Bytes → Result (Vec ℕ) Report → Type 0
ListsTheBundle input result = MatchResult result (λ output. IfSome input (λ bytes. ListsBundle bytes [] output.items)) (RefusesNoBundle input)

-- the same of what is to be written
abbrev pub WorksTheListing : Option Bytes → Result Work Report → Type 0
WorksTheListing input result = MatchResult result (λ w. IfSome input (λ bytes. ListsBundle bytes [] w.output)) (RefusesNoBundle input)

-- ---- causes

-- a failed read raises the count of the input's faults, and nothing else changes it
abbrev pub EndCause : ℕ → ℕ → Report → Type 0
EndCause before now code.ReadFault = Rose before now
EndCause before now report = now ≡ before

abbrev pub LeavesCount : {T : Type 0} → ℕ → ℕ → Result T Report → Type 0
LeavesCount before now result = MatchResult result (λ _. now ≡ before) (EndCause before now)

-- a failed fetch raises the count of the slot's faults, and nothing else changes it
abbrev pub FetchEndCause : ℕ → ℕ → Report → Type 0
FetchEndCause before now code.SlotFault = Rose before now
FetchEndCause before now report = now ≡ before

abbrev pub LeavesSlotCount : {T : Type 0} → ℕ → ℕ → Result T Report → Type 0
LeavesSlotCount before now result = MatchResult result (λ _. now ≡ before) (FetchEndCause before now)

-- ---- what is written

-- the slot holds the text, or what it held where there is none
abbrev pub Stores : Option (Option Bytes) → Option (Option Bytes) → Option Bytes → Type 0
Stores before after None = after ≡ before
Stores before after (Some text) = HoldsBytes after text

-- the output was taken whole and the text put into the slot, or which of both failed
abbrev pub Finishes : Option Bytes → Option Bytes → Option (Option Bytes) → Option (Option Bytes) → Work → Report → Type 0
Finishes old new before after w code.Done = Appends old new w.output × Stores before after w.text
Finishes old new before after w code.WriteFault = AppendsPrefix old new w.output
Finishes old new before after w code.SlotFault = Appends old new w.output
Finishes old new before after w report = ⊥
