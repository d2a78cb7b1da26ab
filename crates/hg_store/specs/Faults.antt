-- What this crate's faults are in the words of the model.
use Rattle.std.specs.Prelude.{◌≡◌, Option, Some, None, ⊤}
use Rattle.text_model.specs.Fault.{FaultName}
use Rattle.text_model.specs.Fault as name
use Rattle.hg_store.specs.declared.fault.AddFault.{AddFault}
use Rattle.hg_store.specs.declared.fault.AddFault.TheVariants as add

-- the name of a fault; want of memory has none
abbrev pub fault_name : AddFault → Option FaultName
fault_name add.ParentOrder = Some name.ParentOrder
fault_name add.ParentUnknown = Some name.ParentUnknown
fault_name add.LinkUnknown = Some name.LinkUnknown
fault_name add.NodeWrong = Some name.NodeWrong
fault_name add.ChangesetShape = Some name.ChangesetShape
fault_name add.ManifestShape = Some name.ManifestShape
fault_name add.PathUnfit = Some name.PathUnfit
fault_name add.FileShape = Some name.FileShape
fault_name add.Collision = Some name.Collision
fault_name add.Memory = None

-- a fault other than want of memory is exactly the one that is due; of memory nothing is told
abbrev pub IsFault : Option FaultName → AddFault → Type 0
IsFault due add.Memory = ⊤
IsFault due fault = due ≡ fault_name fault
