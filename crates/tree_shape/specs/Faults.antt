-- What the faults of this crate say.
use Rattle.std.specs.Prelude.{◌≡◌, Bool, true, List, Option, Some, None, option_map, ⊤}
use Rattle.text_model.specs.Id.{Id}
use Rattle.text_model.specs.Fault as fault
use Rattle.git_model.specs.Tree.{TreeEntry}
use Rattle.git_model.specs.Unfold.{FileRow, WalkFault}
use Rattle.git_model.specs.Shape.{first_clash}
use Rattle.tree_shape.specs.declared.fault.TreeFault.{TreeFault}
use Rattle.tree_shape.specs.declared.fault.TreeFault.TheVariants as faults
use Rattle.tree_shape.specs.declared.fault.BuildFault.{BuildFault}
use Rattle.tree_shape.specs.declared.fault.BuildFault.TheVariants as build

-- the fault is this refusal of the walk; of memory the walk tells nothing
abbrev pub IsTreeFault : Option WalkFault → TreeFault → Type 0
IsTreeFault why (faults.ObjectUnknown id) = why ≡ Some (record { name = fault.ObjectUnknown; id = id })
IsTreeFault why faults.PathUnfit = option_map (λ w. w.name) why ≡ Some fault.PathUnfit
IsTreeFault why faults.Limit = option_map (λ w. w.name) why ≡ Some fault.PairLimit
IsTreeFault why faults.Memory = ⊤

-- the subtree is unknown
abbrev pub IsSubtreeFault : Option (List TreeEntry) → Id → TreeFault → Type 0
IsSubtreeFault None id (faults.ObjectUnknown unknown) = unknown ≡ id
IsSubtreeFault at id fault = ⊥

-- a row is refused only where it passes the limit; of memory nothing is told
abbrev pub IsRowFault : Bool → TreeFault → Type 0
IsRowFault passes (faults.ObjectUnknown id) = ⊥
IsRowFault passes faults.PathUnfit = ⊥
IsRowFault passes faults.Limit = passes ≡ true
IsRowFault passes faults.Memory = ⊤

-- the row of the first clash; of memory the rows tell nothing
abbrev pub IsBuildFault : List FileRow → BuildFault → Type 0
IsBuildFault rows (build.PathClash place) = first_clash rows ≡ Some place
IsBuildFault rows build.Memory = ⊤
