-- What one object adds to what was read of a stream before it.
use Rattle.std.specs.Prelude.{◌≡◌, ◌++◌, ◌∷◌, [], None}
use Rattle.text_model.specs.Text.{Bytes}
use Rattle.git_model.specs.Object.{objects_after}
use Rattle.git_model.specs.Stream.{Placed, placed_fault}
use Rattle.bridge_text.specs.Kinds.{object_kind}
use Rattle.git_batch.specs.declared.arrival.ObjectArrival.{ObjectArrival}
use Rattle.git_batch.specs.declared.gather.Gathered.{Gathered}
use Rattle.git_batch.specs.Arrivals.{arrival_of}

-- a listed object with its content
abbrev pub placed_with : ObjectArrival → Bytes → Placed
placed_with a content = record { object = record { id = a.id; kind = object_kind a.kind; content = content }; at = a.at }

-- an object was added
pub record Adds (o : Placed) (old new : Gathered) : Type 0 where
  pub faultless : placed_fault old.store o ≡ None
  pub store : new.store ≡ objects_after old.store o.object
  pub arrivals : new.arrivals ≡ old.arrivals ++ arrival_of o ∷ []
