-- A state whose stores hold what a stream brought, and the order of its commits.
use Rattle.std.specs.Prelude.{◌≡◌, ℕ, List, map, Option, Some, option_map, bytes_eq, ⊤}
use Rattle.std.specs.List.{find}
use Rattle.text_model.specs.Lists.{Each}
use Rattle.text_model.specs.Id.{Id}
use Rattle.text_model.specs.Fault.{Refusal, refusal}
use Rattle.text_model.specs.Fault as fault
use Rattle.git_model.specs.Order.{IsOrder, IsStuckAt}
use Rattle.git_model.specs.Stream.{Placed}
use Rattle.git_batch.specs.declared.arrival.ObjectArrival.{ObjectArrival}
use Rattle.git_batch.specs.Arrivals.{arrival_of}
use Rattle.tree_shape.specs.Laws.{IsKnown}
use Rattle.git_store.specs.declared.order.fault.OrderFault.{OrderFault}
use Rattle.git_store.specs.declared.order.fault.OrderFault.TheVariants as order
use Rattle.bridge_text.specs.declared.fault.Fault.TheVariants as name
use Rattle.pull_outcome.specs.declared.refused.PullFault.{PullFault}
use Rattle.pull_outcome.specs.declared.refused.PullFault.TheVariants as pull
use Rattle.history_model.specs.Pull as model
use Rattle.history_model.specs.Pull.{objects_with, ancestries, saved_ids, place_of}
use Rattle.pair_state.specs.declared.state_parts.StateParts.{StateParts}
use Rattle.pair_state.specs.AllBlocks.{HasAllBlocks}

-- the state has just these blocks, and holds what these objects brought to what was known
pub record IsReady (s : StateParts) (arrivals : List ObjectArrival) (m : model.State) (came : List Placed) : Type 0 where
  pub state : HasAllBlocks s m.blocks
  pub revisions : s.known.hg ≡ m.revisions
  pub objects : s.known.git ≡ objects_with m came
  pub listed : arrivals ≡ map arrival_of came
  pub held : Each (λ o. IsKnown s.known.git o.object) came

-- the same, with the order of the commits
pub record IsInOrder (s : StateParts) (arrivals : List ObjectArrival) (ordered : List Id) (m : model.State) (came : List Placed) : Type 0 where
  pub ready : IsReady s arrivals m came
  pub order : IsOrder (ancestries came) (saved_ids m) ordered

-- the place at which an object came first
abbrev pub place_among : List ObjectArrival → Id → Option ℕ
place_among arrivals id = option_map (λ a. a.at) (find (λ a. bytes_eq a.id id) arrivals)

-- a commit is never reached since a parent lacks
abbrev pub LacksParent : model.State → List Placed → Refusal → Type 0
LacksParent m came why =
    (id : Id) × (at : ℕ) × IsStuckAt (ancestries came) (saved_ids m) id × (place_of came id ≡ Some at) × (why ≡ refusal fault.ParentUnknown id at)

-- the commit at which the order ends came
abbrev pub HasPlace : List ObjectArrival → OrderFault → Type 0
HasPlace arrivals (order.ParentUnknown id) = (at : ℕ) × (place_among arrivals id ≡ Some at)
HasPlace arrivals order.Memory = ⊤

-- its refusal, with that place
abbrev pub IsOrderRefusal : List ObjectArrival → OrderFault → PullFault → Type 0
IsOrderRefusal arrivals (order.ParentUnknown id) refused = (at : ℕ) → place_among arrivals id ≡ Some at → refused ≡ pull.Refused (record { fault = name.ParentUnknown; id = id; place = at })
IsOrderRefusal arrivals order.Memory refused = refused ≡ pull.Memory
