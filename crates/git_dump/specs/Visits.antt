-- What a walk meets.
use Rattle.std.specs.Prelude.{◌≡◌, ◌≤◌, ◌<◌, ◌^◌, ℕ, true, false, if◌then◌else◌, List, [], ◌∷◌, ◌++◌, Some, map, length, take, slice_get}
use Rattle.text_model.specs.Id.{Id, has_id}
use Rattle.git_model.specs.Object.{Object}
use Rattle.git_store.specs.Known.{AreKnown}
use Rattle.git_dump.specs.Walks.{objects_between}
use Rattle.git_dump.specs.declared.walk.Walk.{Walk}

abbrev pub ids_of : List Object → List Id
ids_of objects = map (λ o. o.id) objects

-- the objects that are met for the first time, behind those with these ids
abbrev pub first_met : List Id → List Object → List Object
first_met met [] = []
first_met met (o ∷ objects) = if has_id met o.id then first_met met objects else o ∷ first_met (met ++ o.id ∷ []) objects

-- the ids of the objects that were met, and of those that were met since a list was begun, both in the order in which they came
pub record Met : Type 0 where
  pub met : List Id
  pub listed : List Id

-- what a walk through a store has met: objects at the front of the store, and then others
abbrev pub met_by : List Object → Walk → Met
met_by known w = record { met = ids_of (take w.front known) ++ w.met; listed = ids_of (objects_between known w.start w.front) ++ w.listed }

-- the objects were visited one after the other; those that are met for the first time are listed too
pub record Visited (objects : List Object) (old new : Met) : Type 0 where
  pub met : new.met ≡ old.met ++ ids_of (first_met old.met objects)
  pub listed : new.listed ≡ old.listed ++ ids_of (first_met old.met objects)

-- the first of the ids is that of an object behind this place
pub record SkipsPlace (known : List Object) (place : ℕ) (ids : List Id) : Type 0 where
  pub object : Object
  pub stands_at : ℕ
  pub stands : slice_get known stands_at ≡ Some object
  pub behind : place < stands_at
  pub rest : List Id
  pub first : ids ≡ object.id ∷ rest

-- A walk through a store whose objects are known: while it is in order it has met no others, and then first one behind the next.
pub record IsWalk (known : List Object) (w : Walk) : Type 0 where
  pub are : AreKnown known
  pub size : w.size ≡ length known
  pub small : w.size < 2 ^ 63
  pub within : w.front ≤ w.size
  pub begun : w.start ≤ w.front
  pub none_met : w.in_order ≡ true → w.met ≡ []
  pub none_listed : w.in_order ≡ true → w.listed ≡ []
  pub skips : w.in_order ≡ false → SkipsPlace known w.front w.met

-- the objects of a store were visited one after the other
pub record Visits (known objects : List Object) (old new : Walk) : Type 0 where
  pub visited : Visited objects (met_by known old) (met_by known new)
  pub walk : IsWalk known new

-- an object was visited that is kept by its id, where it is new
pub record MeetsOther (id : Id) (old new : Walk) : Type 0 where
  pub size : new.size ≡ old.size
  pub front : new.front ≡ old.front
  pub start : new.start ≡ old.start
  pub order : new.in_order ≡ false
  pub met : new.met ≡ (if has_id old.met id then old.met else old.met ++ id ∷ [])
  pub listed : new.listed ≡ (if has_id old.met id then old.listed else old.listed ++ id ∷ [])
