-- What a refusal says of the content.
use Rattle.std.specs.Prelude.{◌≡◌, ℕ, Option, Some, None, Result, Ok, Err, ⊤}
use Rattle.text_model.specs.Text.{Bytes}
use Rattle.text_model.specs.Fault.{FaultName}
use Rattle.text_model.specs.Fault as fault
use Rattle.git_model.specs.Commit.{commit_fault, tag_fault}
use Rattle.git_model.specs.Tree.{TreeEntry, TreeFault}
use Rattle.git_object.specs.declared.fault.CommitFault.{CommitFault}
use Rattle.git_object.specs.declared.fault.CommitFault.TheVariants as commit
use Rattle.git_object.specs.declared.fault.TagFault.{TagFault}
use Rattle.git_object.specs.declared.fault.TagFault.TheVariants as tag
use Rattle.git_object.specs.declared.fault.TreeReadFault.{TreeReadFault}
use Rattle.git_object.specs.declared.fault.TreeReadFault.TheVariants as read

-- the first line that doesn't fit stands there; of memory the content tells nothing
abbrev pub IsCommitFault : Bytes → CommitFault → Type 0
IsCommitFault content (commit.Shape at) = commit_fault content ≡ Some at
IsCommitFault content commit.Memory = ⊤

abbrev pub IsTagFault : Bytes → TagFault → Type 0
IsTagFault content (tag.Shape at) = tag_fault content ≡ Some at
IsTagFault content tag.Memory = ⊤

-- the fault of a content is this one
abbrev pub IsTreeFault : Option TreeFault → TreeReadFault → Type 0
IsTreeFault why (read.Shape at) = why ≡ Some (record { name = fault.ObjectShape; place = at })
IsTreeFault why (read.ModeOut at) = why ≡ Some (record { name = fault.ModeOut; place = at })
IsTreeFault why (read.NameUnfit at) = why ≡ Some (record { name = fault.NameUnfit; place = at })
IsTreeFault why read.Memory = ⊤

-- what is wrong with the entry at an offset
abbrev pub fault_at : ℕ → Result TreeEntry FaultName → Option TreeFault
fault_at at (Ok e) = None
fault_at at (Err name) = Some (record { name = name; place = at })
