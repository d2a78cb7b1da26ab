-- What reading a stream brings: its objects as this crate lists them, and the objects that are known then.
use Rattle.std.specs.Prelude.{◌≡◌, ℕ, Bool, List, [], ◌∷◌, map, filter, count_by, Option, Some, None, Result, Ok, Err, ⊤, IfSome}
use Rattle.text_model.specs.Text.{Bytes}
use Rattle.text_model.specs.Id.{Id, ObjectKind, blob, tree, commit, tag, same_kind}
use Rattle.text_model.specs.Fault.{Refusal}
use Rattle.git_model.specs.Object.{Object, object_fault, objects_after, objects_after_all}
use Rattle.git_model.specs.Stream.{Placed, stream_reading}
use Rattle.bridge_text.specs.Kinds.{object_kind}
use Rattle.bridge_text.specs.declared.kind.Kind.{Kind}
use Rattle.bridge_text.specs.declared.kind.Kind.TheVariants.{Blob, Tree, Commit, Tag}
use Rattle.git_batch.specs.declared.arrival.ObjectArrival.{ObjectArrival}
use Rattle.git_batch.specs.declared.stream_fault.StreamFault.{StreamFault}
use Rattle.git_batch.specs.StreamFaults.{IsFault}

-- the kind as the code has it
abbrev pub kind_of : ObjectKind → Kind
kind_of blob = Blob
kind_of tree = Tree
kind_of commit = Commit
kind_of tag = Tag

-- how an object of a stream is listed
abbrev pub arrival_of : Placed → ObjectArrival
arrival_of o = record { id = (o.object).id; kind = kind_of (o.object).kind; at = o.at }

abbrev pub is_of : ObjectKind → ObjectArrival → Bool
is_of kind a = same_kind kind (object_kind a.kind)

-- how many of the listed objects are of a kind
abbrev pub count_of : ObjectKind → List ObjectArrival → ℕ
count_of kind arrivals = count_by (is_of kind) arrivals

-- the ids of the commits among the listed objects
abbrev pub commits_among : List ObjectArrival → List Id
commits_among arrivals = map (λ a. a.id) (filter (is_of commit) arrivals)

-- why a reading is refused
abbrev pub refused : Result (List Placed) Refusal → Option Refusal
refused (Ok objects) = None
refused (Err why) = Some why

-- The bytes bring these objects to those known, all are listed, and the store holds what is known then; or the fault is what the bytes are refused for.
abbrev pub Reads : List Object → Bytes → Result (List Object × List ObjectArrival) StreamFault → Type 0
Reads known bytes (Ok read) =
    (objects : List Placed) × (stream_reading known bytes ≡ Ok objects) × (read.1 ≡ map arrival_of objects) × (read.0 ≡ objects_after_all known (map (λ o. o.object) objects))
Reads known bytes (Err fault) = IsFault (refused (stream_reading known bytes)) fault

-- none of the objects is refused behind those before it
abbrev pub AddsAll : List Object → List Object → Type 0
AddsAll known [] = ⊤
AddsAll known (o ∷ objects) = (object_fault known o ≡ None) × AddsAll (objects_after known o) objects

-- These objects came, none of which is refused behind those before it: all are listed, and the store holds what is known then.
-- They are what the bytes bring, where the source tells its bytes.
pub record Brought (known : List Object) (bytes : Option Bytes) (store : List Object) (arrivals : List ObjectArrival) : Type 0 where
  pub objects : List Placed
  pub adds : AddsAll known (map (λ o. o.object) objects)
  pub listed : arrivals ≡ map arrival_of objects
  pub holds : store ≡ objects_after_all known (map (λ o. o.object) objects)
  pub reads : IfSome bytes (λ bytes. stream_reading known bytes ≡ Ok objects)

-- the bytes bring exactly these objects
pub record BringsAll (known : List Object) (bytes : Bytes) (objects : List Object) : Type 0 where
  pub placed : List Placed
  pub reads : stream_reading known bytes ≡ Ok placed
  pub are : map (λ p. p.object) placed ≡ objects
