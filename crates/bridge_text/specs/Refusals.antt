-- The names of the code's refusals.
use Rattle.text_model.specs.Fault.{FaultName}
use Rattle.text_model.specs.Fault as model
use Rattle.bridge_text.specs.declared.fault.Fault.{Fault}
use Rattle.bridge_text.specs.declared.fault.Fault.TheVariants as code
use Rattle.bridge_text.specs.declared.fault.Refusal.{Refusal}

-- the name that a value of the enum stands for
abbrev pub fault_name : Fault → FaultName
fault_name code.Truncated = model.Truncated
fault_name code.Length = model.Length
fault_name code.Limit = model.Limit
fault_name code.Trailing = model.Trailing
fault_name code.Magic = model.Magic
fault_name code.OtherBundle = model.OtherBundle
fault_name code.InputLimit = model.InputLimit
fault_name code.HeaderShort = model.HeaderShort
fault_name code.ParentOrder = model.ParentOrder
fault_name code.ParentUnknown = model.ParentUnknown
fault_name code.LinkUnknown = model.LinkUnknown
fault_name code.HunkShape = model.HunkShape
fault_name code.HunkRange = model.HunkRange
fault_name code.NodeWrong = model.NodeWrong
fault_name code.ChangesetShape = model.ChangesetShape
fault_name code.ManifestShape = model.ManifestShape
fault_name code.PathUnfit = model.PathUnfit
fault_name code.FileShape = model.FileShape
fault_name code.Collision = model.Collision
fault_name code.Line = model.Line
fault_name code.Missing = model.Missing
fault_name code.KindUnknown = model.KindUnknown
fault_name code.IdWrong = model.IdWrong
fault_name code.ObjectShape = model.ObjectShape
fault_name code.ModeOut = model.ModeOut
fault_name code.NameUnfit = model.NameUnfit
fault_name code.ParentTwice = model.ParentTwice
fault_name code.ParentLimit = model.ParentLimit
fault_name code.ManifestUnknown = model.ManifestUnknown
fault_name code.FileUnknown = model.FileUnknown
fault_name code.ObjectUnknown = model.ObjectUnknown
fault_name code.PathClash = model.PathClash
fault_name code.ParentIsLink = model.ParentIsLink
fault_name code.FileParentLate = model.FileParentLate
fault_name code.ManifestParentLate = model.ManifestParentLate
fault_name code.NestLimit = model.NestLimit
fault_name code.PairLimit = model.PairLimit
fault_name code.Orphan = model.Orphan
fault_name code.DanglingLink = model.DanglingLink
fault_name code.StateLimit = model.StateLimit
fault_name code.NameShape = model.NameShape
fault_name code.RefUnfit = model.RefUnfit
fault_name code.NameTwice = model.NameTwice
fault_name code.TargetUnknown = model.TargetUnknown
fault_name code.TagUnknown = model.TagUnknown
fault_name code.NameLimit = model.NameLimit
fault_name code.CountLimit = model.CountLimit

-- what a refusal of the code stands for
abbrev pub refusal_value : Refusal → model.Refusal
refusal_value why = model.refusal (fault_name why.fault) why.id why.place
