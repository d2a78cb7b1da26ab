-- Which refusal a fault of the reader is, and what it says of the source.
use Rattle.std.specs.Prelude.{◌≡◌, ℕ, Option, None, Some, Result, MatchResult, ⊤, codes}
use Rattle.text_model.specs.Text.{Bytes}
use Rattle.text_model.specs.Fault.{Refusal, refusal, refusal_at, input_limit, fault_word}
use Rattle.text_model.specs.Fault as fault
use Rattle.bridge_io.specs.Causes.{Rose}
use Rattle.bridge_io.specs.declared.filling.FillFault.{FillFault}
use Rattle.bridge_io.specs.declared.filling.FillFault.TheVariants as fill
use Rattle.git_batch.specs.declared.fault.BatchFault.{BatchFault}
use Rattle.git_batch.specs.declared.fault.BatchFault.TheVariants.{Read, Line, Missing, KindUnknown, Limit, Truncated, InputLimit, IdWrong, Memory}

-- the word of a fault: that of the refusal, or the name of the variant where the bytes aren't refused
abbrev pub name_of : BatchFault → Bytes
name_of Read = codes "Read"
name_of (Line place) = fault_word fault.Line
name_of (Missing place) = fault_word fault.Missing
name_of (KindUnknown id place) = fault_word fault.KindUnknown
name_of (Limit place) = fault_word fault.Limit
name_of (Truncated place) = fault_word fault.Truncated
name_of InputLimit = fault_word fault.InputLimit
name_of (IdWrong id place) = fault_word fault.IdWrong
name_of Memory = codes "Memory"

-- a fault of the framing: any but that of an id, which only a reader that compares ids with contents finds
abbrev pub IsFraming : BatchFault → Type 0
IsFraming (IdWrong id place) = ⊥
IsFraming fault = ⊤

-- the fault of a buffer that isn't filled
abbrev pub fault_of_fill : FillFault → BatchFault
fault_of_fill fill.Read = Read
fault_of_fill fill.Memory = Memory

-- The fault is what the bytes are refused for. What the source and the memory do isn't told by the bytes.
abbrev pub IsFault : Option Refusal → BatchFault → Type 0
IsFault why Read = ⊤
IsFault why (Line place) = why ≡ Some (refusal_at fault.Line place)
IsFault why (Missing place) = why ≡ Some (refusal_at fault.Missing place)
IsFault why (KindUnknown id place) = why ≡ Some (refusal fault.KindUnknown id place)
IsFault why (Limit place) = why ≡ Some (refusal_at fault.Limit place)
IsFault why (Truncated place) = why ≡ Some (refusal_at fault.Truncated place)
IsFault why InputLimit = why ≡ Some (refusal_at fault.InputLimit input_limit)
IsFault why (IdWrong id place) = why ≡ Some (refusal fault.IdWrong id place)
IsFault why Memory = ⊤

-- an answer comes where nothing is refused, and a fault where it is what is refused
abbrev pub Judges : {T : Type 0} → Option Refusal → Result T BatchFault → Type 0
Judges why result = MatchResult result (λ _. why ≡ None) (IsFault why)

-- `Read` raises the count of the source's faults, and every other fault leaves it
abbrev pub FaultCause : ℕ → ℕ → BatchFault → Type 0
FaultCause before now Read = Rose before now
FaultCause before now other = now ≡ before

-- an answer leaves the count, and a fault has its cause
abbrev pub AnswerCause : {T : Type 0} → ℕ → ℕ → Result T BatchFault → Type 0
AnswerCause before now result = MatchResult result (λ _. now ≡ before) (FaultCause before now)

-- a fault of the source or of the memory
abbrev pub IsDevice : BatchFault → Type 0
IsDevice Read = Unit {0}
IsDevice Memory = Unit {0}
IsDevice other = ⊥
