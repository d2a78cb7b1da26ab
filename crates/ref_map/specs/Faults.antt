-- Which refusal a fault is.
use Rattle.std.specs.Prelude.{◌≡◌, ℕ, Option, Some, None, Result, Err, ⊤, codes}
use Rattle.text_model.specs.Text.{Bytes}
use Rattle.text_model.specs.Fault.{FaultName, Refusal, refusal_at, fault_word}
use Rattle.text_model.specs.Fault as fault
use Rattle.ref_map.specs.declared.fault.NameFault.{NameFault}
use Rattle.ref_map.specs.declared.fault.NameFault.TheVariants.{NameLimit, NameShape, RefUnfit, TargetUnknown, TagUnknown, NameTwice, Memory}
use Rattle.ref_map.specs.declared.fault.LineFault.{LineFault}
use Rattle.ref_map.specs.declared.fault.LineFault.TheVariants as line

-- the word of a fault
abbrev pub name_of : NameFault → Bytes
name_of (NameLimit number) = fault_word fault.NameLimit
name_of (NameShape number) = fault_word fault.NameShape
name_of (RefUnfit number) = fault_word fault.RefUnfit
name_of (TargetUnknown number) = fault_word fault.TargetUnknown
name_of (TagUnknown number) = fault_word fault.TagUnknown
name_of (NameTwice number) = fault_word fault.NameTwice
name_of Memory = codes "Memory"

-- The refusal that a fault is. Of memory the text tells nothing.
abbrev pub refusal_of : NameFault → Option Refusal
refusal_of (NameLimit number) = Some (refusal_at fault.NameLimit number)
refusal_of (NameShape number) = Some (refusal_at fault.NameShape number)
refusal_of (RefUnfit number) = Some (refusal_at fault.RefUnfit number)
refusal_of (TargetUnknown number) = Some (refusal_at fault.TargetUnknown number)
refusal_of (TagUnknown number) = Some (refusal_at fault.TagUnknown number)
refusal_of (NameTwice number) = Some (refusal_at fault.NameTwice number)
refusal_of Memory = None

-- the reading ends so, unless memory ran out
abbrev pub EndsIn : {X E : Type 0} → Result X E → Option E → Type 0
EndsIn reading None = ⊤
EndsIn reading (Some why) = reading ≡ Err why

-- the fault is what the text is refused for
abbrev pub IsNameFault : {X : Type 0} → Result X Refusal → NameFault → Type 0
IsNameFault reading f = EndsIn reading (refusal_of f)

-- ---- of one line

abbrev pub line_name : LineFault → Option FaultName
line_name line.NameLimit = Some fault.NameLimit
line_name line.NameShape = Some fault.NameShape
line_name line.RefUnfit = Some fault.RefUnfit
line_name line.TargetUnknown = Some fault.TargetUnknown
line_name line.TagUnknown = Some fault.TagUnknown
line_name line.NameTwice = Some fault.NameTwice
line_name line.Memory = None

abbrev pub IsLineFault : {X : Type 0} → Result X FaultName → LineFault → Type 0
IsLineFault reading f = EndsIn reading (line_name f)

abbrev pub fault_at : LineFault → ℕ → NameFault
fault_at line.NameLimit number = NameLimit number
fault_at line.NameShape number = NameShape number
fault_at line.RefUnfit number = RefUnfit number
fault_at line.TargetUnknown number = TargetUnknown number
fault_at line.TagUnknown number = TagUnknown number
fault_at line.NameTwice number = NameTwice number
fault_at line.Memory number = Memory
