-- What this crate's faults are in the words of the model.
use Rattle.std.specs.Prelude.{◌≡◌, Option, Some, None, ⊤, codes}
use Rattle.text_model.specs.Text.{Bytes}
use Rattle.text_model.specs.Fault.{FaultName, fault_word}
use Rattle.text_model.specs.Fault as name
use Rattle.git_store.specs.declared.fault.GitAddFault.{GitAddFault}
use Rattle.git_store.specs.declared.fault.GitAddFault.TheVariants as add

-- the name of a fault; out of memory is none of an object
abbrev pub fault_name : GitAddFault → Option FaultName
fault_name add.ObjectShape = Some name.ObjectShape
fault_name add.ModeOut = Some name.ModeOut
fault_name add.NameUnfit = Some name.NameUnfit
fault_name add.ParentTwice = Some name.ParentTwice
fault_name add.ParentLimit = Some name.ParentLimit
fault_name add.Collision = Some name.Collision
fault_name add.Memory = None

-- the word of a fault: that of the refusal, or the name of the variant
abbrev pub name_of : GitAddFault → Bytes
name_of add.ObjectShape = fault_word name.ObjectShape
name_of add.ModeOut = fault_word name.ModeOut
name_of add.NameUnfit = fault_word name.NameUnfit
name_of add.ParentTwice = fault_word name.ParentTwice
name_of add.ParentLimit = fault_word name.ParentLimit
name_of add.Collision = fault_word name.Collision
name_of add.Memory = codes "Memory"

-- a fault other than out of memory is exactly the one that is due; of memory nothing is told
abbrev pub IsFault : Option FaultName → GitAddFault → Type 0
IsFault due add.Memory = ⊤
IsFault due fault = due ≡ fault_name fault
