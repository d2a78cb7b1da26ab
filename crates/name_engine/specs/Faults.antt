-- Why no names are set, in the words of the model.
use Rattle.std.specs.Prelude.{◌≡◌, ◌<◌, ℕ, length, Result, MatchResult, ⊤}
use Rattle.text_model.specs.Text.{Bytes}
use Rattle.text_model.specs.Id.{null}
use Rattle.text_model.specs.Fault as model
use Rattle.text_model.specs.Fault.{input_limit, refusal_at}
use Rattle.bridge_io.specs.Causes.{Rose}
use Rattle.bridge_io.specs.declared.filling.FillFault.{FillFault}
use Rattle.bridge_io.specs.declared.filling.FillFault.TheVariants as fill
use Rattle.bridge_text.specs.declared.fault.Fault.{Fault}
use Rattle.bridge_text.specs.declared.fault.Fault.TheVariants as code
use Rattle.bridge_text.specs.Refusals.{refusal_value}
use Rattle.ref_map.specs.declared.fault.NameFault.{NameFault}
use Rattle.ref_map.specs.declared.fault.NameFault.TheVariants as name
use Rattle.name_engine.specs.declared.fault.SetFault.{SetFault}
use Rattle.name_engine.specs.declared.fault.SetFault.TheVariants.{Refused, Read, Memory}

-- refused for a fault at a place, and for no id
abbrev pub refused_at : Fault → ℕ → SetFault
refused_at fault place = Refused (record { fault = fault; id = null; place = place })

-- the fault of an input that can't be read whole
abbrev pub fill_fault : FillFault → SetFault
fill_fault fill.Read = Read
fill_fault fill.Memory = Memory

-- the fault of a text of names that a fault of one of its lines is
abbrev pub name_fault : NameFault → SetFault
name_fault (name.NameLimit line) = refused_at code.NameLimit line
name_fault (name.NameShape line) = refused_at code.NameShape line
name_fault (name.RefUnfit line) = refused_at code.RefUnfit line
name_fault (name.TargetUnknown line) = refused_at code.TargetUnknown line
name_fault (name.TagUnknown line) = refused_at code.TagUnknown line
name_fault (name.NameTwice line) = refused_at code.NameTwice line
name_fault name.Memory = Memory

-- a failed read raises the count of the source's faults, and nothing else changes it
abbrev pub FaultCause : ℕ → ℕ → SetFault → Type 0
FaultCause before now Read = Rose before now
FaultCause before now fault = now ≡ before

abbrev pub AnswerCause : {T : Type 0} → ℕ → ℕ → Result T SetFault → Type 0
AnswerCause before now result = MatchResult result (λ _. now ≡ before) (FaultCause before now)

-- a refusal is that of bytes that go past the limit of an input; of a failed read and of memory nothing is told here
abbrev pub IsTooLong : Bytes → SetFault → Type 0
IsTooLong bytes (Refused why) = (input_limit < length bytes) × (refusal_value why ≡ refusal_at model.InputLimit input_limit)
IsTooLong bytes Read = ⊤
IsTooLong bytes Memory = ⊤
