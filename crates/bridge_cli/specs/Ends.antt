-- How a run ends, by what its words, its input and its slot come to.
use Rattle.std.specs.Prelude.{◌≡◌, ◌⊎◌, List, Option, Some, IfSome, MatchBool, ⊤}
use Rattle.std.specs.Io.KnownBytes.{Appends, IsAtEnd}
use Rattle.text_model.specs.Text.{Bytes}
use Rattle.bridge_io.specs.Sink.{AppendsPrefix}
use Rattle.state_model.specs.Kept.{State}
use Rattle.command_model.specs.Run.{Report, Done, IsRefused, Usage, ReadFault, WriteFault, SlotFault, StateBad, Memory, Mismatch}
use Rattle.command_model.specs.Command.{Command, Verify, Written, Refused, Mismatched, command_of, reads_input, reads_slot, ComesTo, BeginsWith, IsBadSlot, IsKept}
use Rattle.bridge_cli.specs.Names.{MayRefuse}
use Rattle.bridge_cli.specs.Over.{HeldBy, Over}

-- the slot holds the text of the state that the command saves, or what it held
abbrev pub Keeps : Option (Option Bytes) → Option (Option Bytes) → Option State → Type 0
Keeps slot kept saved = IfSome slot (λ before. IfSome kept (λ after. IsKept saved before after))

-- The report is what the command comes to over the state that the slot holds and the input, where both tell: an output that was taken whole with
-- the input read to its end, and the state that is kept then; a refusal; an output of which a beginning was taken; a slot that failed before anything
-- was written or behind it all; a slot that holds no state; the first block of an audited state that isn't right. `Usage` is no command's. Whatever both
-- tell, a refusal has one of the names that the command may answer.
abbrev pub EndsBy : Command → Option Bytes → Option Bytes → Option Bytes → Option Bytes → Option (Option Bytes) → Option (Option Bytes) → Report → Type 0
EndsBy command input rest old new slot kept Done =
    MatchBool (reads_input command) (IsAtEnd rest) ⊤
    × Over command input slot (λ s bytes. (output : Bytes) × (saved : Option State) × ComesTo command s bytes (Written output saved) × Appends old new output × Keeps slot kept saved)
EndsBy command input rest old new slot kept (IsRefused why) = MayRefuse command why.name × Over command input slot (λ s bytes. ComesTo command s bytes (Refused why))
EndsBy command input rest old new slot kept WriteFault =
    Over command input slot (λ s bytes. (output : Bytes) × (saved : Option State) × ComesTo command s bytes (Written output saved) × AppendsPrefix old new output)
EndsBy command input rest old new slot kept SlotFault =
    (new ≡ old) ⊎ Over command input slot (λ s bytes. (output : Bytes) × (saved : Option State) × ComesTo command s bytes (Written output saved) × Appends old new output)
EndsBy command input rest old new slot kept (StateBad why) = HeldBy (reads_slot command) slot (λ held. IsBadSlot held why)
EndsBy command input rest old new slot kept Usage = ⊥
EndsBy command input rest old new slot kept ReadFault = HeldBy (reads_slot command) slot (λ held. (s : State) × BeginsWith command held s)
EndsBy command input rest old new slot kept Memory = ⊤
EndsBy command input rest old new slot kept (Mismatch commit right) = (command ≡ Verify) × Over command input slot (λ s bytes. ComesTo command s bytes (Mismatched commit right))

-- a run with these words, over what is left of the input, what the output has taken and what the slot holds, before and after
abbrev pub Ends : List Bytes → Option Bytes → Option Bytes → Option Bytes → Option Bytes → Option (Option Bytes) → Option (Option Bytes) → Report → Type 0
Ends words input rest old new slot kept report = (command : Command) → command_of words ≡ Some command → EndsBy command input rest old new slot kept report
