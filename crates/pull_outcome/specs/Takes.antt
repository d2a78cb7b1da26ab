-- Why a changeset or a commit gets no block, in the words of the model.
use Rattle.std.specs.Prelude.{⊤}
use Rattle.text_model.specs.Fault.{FaultName}
use Rattle.tree_shape.specs.declared.fault.TreeFault.{TreeFault}
use Rattle.tree_shape.specs.declared.fault.TreeFault.TheVariants as tree
use Rattle.pair_known.specs.declared.choice_fault.ChoiceFault.{ChoiceFault}
use Rattle.pair_known.specs.declared.choice_fault.ChoiceFault.TheVariants as choice
use Rattle.pair_state.specs.declared.fault.PushFault.{PushFault}
use Rattle.pair_state.specs.declared.fault.PushFault.TheVariants as push
use Rattle.bridge_text.specs.Refusals.{fault_name}
use Rattle.bridge_text.specs.declared.fault.Fault.TheVariants as name
use Rattle.pull_outcome.specs.declared.take_fault.TakeFault.{TakeFault}
use Rattle.pull_outcome.specs.declared.take_fault.TakeFault.TheVariants.{Refused, Memory}

abbrev pub tree_refused : TreeFault → TakeFault
tree_refused (tree.ObjectUnknown id) = Refused name.ObjectUnknown
tree_refused tree.PathUnfit = Refused name.PathUnfit
tree_refused tree.Limit = Refused name.PairLimit
tree_refused tree.Memory = Memory

abbrev pub choice_refused : ChoiceFault → TakeFault
choice_refused choice.PathClash = Refused name.PathClash
choice_refused choice.ParentIsLink = Refused name.ParentIsLink
choice_refused choice.NestLimit = Refused name.NestLimit
choice_refused choice.PairLimit = Refused name.PairLimit
choice_refused choice.Collision = Refused name.Collision
choice_refused choice.Memory = Memory

abbrev pub push_refused : PushFault → TakeFault
push_refused push.Collision = Refused name.Collision
push_refused push.Memory = Memory

-- the name of a refusal is one that is due; of memory nothing is told
abbrev pub IsTakeFault : (FaultName → Type 0) → TakeFault → Type 0
IsTakeFault Due (Refused why) = Due (fault_name why)
IsTakeFault Due Memory = ⊤
