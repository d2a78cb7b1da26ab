-- Why commits have no order.
use Rattle.std.specs.Prelude.{List, ⊤}
use Rattle.text_model.specs.Id.{Id}
use Rattle.git_model.specs.Order.{Ancestry, IsStuckAt}
use Rattle.git_store.specs.declared.order.fault.OrderFault.{OrderFault}
use Rattle.git_store.specs.declared.order.fault.OrderFault.TheVariants.{ParentUnknown, Memory}

-- The commit is the first that waits where none can be placed. Of memory nothing is told.
abbrev pub IsOrderFault : List Ancestry → List Id → OrderFault → Type 0
IsOrderFault came saved (ParentUnknown id) = IsStuckAt came saved id
IsOrderFault came saved Memory = ⊤
