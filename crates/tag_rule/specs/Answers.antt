-- What the tags of a stream come to, in the words of the model.
use Rattle.std.specs.Prelude.{◌≡◌, ℕ, List, map, Option, Some, ⊤}
use Rattle.text_model.specs.Lists.{Each}
use Rattle.text_model.specs.Id.{Id}
use Rattle.git_model.specs.Object.{Object}
use Rattle.git_model.specs.Order.{has}
use Rattle.git_model.specs.Stream.{Placed}
use Rattle.bridge_text.specs.declared.fault.Fault.TheVariants.{ObjectUnknown}
use Rattle.bridge_text.specs.declared.fault.Refusal.{Refusal}
use Rattle.git_batch.specs.declared.arrival.ObjectArrival.{ObjectArrival}
use Rattle.git_batch.specs.Arrivals.{arrival_of}
use Rattle.git_store.specs.Growth.{IsThere}
use Rattle.tag_rule.specs.declared.fault.TagFault.{TagFault}
use Rattle.tag_rule.specs.declared.fault.TagFault.TheVariants.{Refused, Memory}

-- these objects came, and each of them is in the store
pub record HaveCome (store : List Object) (arrivals : List ObjectArrival) (placed : List Placed) : Type 0 where
  pub listed : arrivals ≡ map arrival_of placed
  pub held : Each (λ o. IsThere store o.object) placed

-- the set has the ids of the list
abbrev pub IsSetOf : List Id → List Id → Type 0
IsSetOf set ids = (id : Id) → has set id ≡ has ids id

-- the refusal of a tag at a place whose target isn't there
abbrev pub target_unknown : Id → ℕ → Refusal
target_unknown id at = record { fault = ObjectUnknown; id = id; place = at }

-- The refusal is that of the tag that was found, with its id and place. Of memory nothing is told.
abbrev pub IsTagFault : Option Placed → TagFault → Type 0
IsTagFault found (Refused why) = (o : Placed) × (found ≡ Some o) × (why ≡ target_unknown (o.object).id o.at)
IsTagFault found Memory = ⊤

-- a refusal for the target of a tag, or want of memory
abbrev pub IsTargetFault : TagFault → Type 0
IsTargetFault (Refused why) = why.fault ≡ ObjectUnknown
IsTargetFault Memory = ⊤
