-- What an object adds, and the fault of a stream at one of its objects.
use Rattle.std.proofs.Common.{◌≡◌, true, false, List, [], ◌∷◌, ◌++◌, map, Option, None, Some, Ok, refl, sym, ap, bytes_eq}
use Rattle.std.proofs.lemmas.Slice.Eq.{bytes_eq-Decides}
use Rattle.text_model.specs.Text.{Bytes}
use Rattle.text_model.specs.Id.{object_id}
use Rattle.text_model.specs.Fault.{FaultName, Refusal, refusal}
use Rattle.text_model.specs.Fault as fault
use Rattle.git_model.specs.Object.{Object, object_fault, objects_after, objects_after_all}
use Rattle.git_model.specs.Stream.{Placed, StreamFraming, stream_framing, placed_fault, objects_fault, reading_by, stream_reading}
use Rattle.bridge_text.specs.Kinds.{object_kind}
use Rattle.bridge_text.specs.declared.kind.Kind.{Kind}
use Rattle.bridge_text.specs.declared.kind.Kind.TheVariants.{Blob, Tree, Commit, Tag}
use Rattle.git_store.specs.declared.fault.GitAddFault.{GitAddFault}
use Rattle.git_store.specs.declared.fault.GitAddFault.TheVariants as add
use Rattle.git_store.specs.Faults as store
use Rattle.git_batch.specs.StreamFaults.{IsJudgement, addition_fault_at}
use Rattle.git_batch.specs.Arrivals.{kind_of, arrival_of, refused, AddsAll}

pub kind_of-object_kind : (k : Kind) → kind_of (object_kind k) ≡ k
kind_of-object_kind Blob = refl
kind_of-object_kind Tree = refl
kind_of-object_kind Commit = refl
kind_of-object_kind Tag = refl

-- ---- one object

module _ (known : List Object) (o : Placed) where
  same : object_id (o.object).kind (o.object).content ≡ (o.object).id → bytes_eq (o.object).id (object_id (o.object).kind (o.object).content) ≡ true
  same its_id = (bytes_eq-Decides (o.object).id (object_id (o.object).kind (o.object).content)).1 (sym its_id)

  pub placed-passes : object_id (o.object).kind (o.object).content ≡ (o.object).id → object_fault known o.object ≡ None → placed_fault known o ≡ None
  placed-passes its_id fits = rw (same its_id, fits) refl

  placed-refused : object_id (o.object).kind (o.object).content ≡ (o.object).id → (name : FaultName) → object_fault known o.object ≡ Some name
      → placed_fault known o ≡ Some (refusal name (o.object).id o.at)
  placed-refused its_id name refused = rw (same its_id, refused) refl

  pub placed-wrong : bytes_eq (o.object).id (object_id (o.object).kind (o.object).content) ≡ false → placed_fault known o ≡ Some (refusal fault.IdWrong (o.object).id o.at)
  placed-wrong wrong = rw wrong refl

  -- a fault of an addition is the refusal of the object
  pub addition-refused : object_id (o.object).kind (o.object).content ≡ (o.object).id → (e : GitAddFault) → store.IsFault (object_fault known o.object) e
      → IsJudgement (placed_fault known o) (addition_fault_at e (o.object).id o.at)
  addition-refused its_id add.ObjectShape is = placed-refused its_id _ is
  addition-refused its_id add.ModeOut is = placed-refused its_id _ is
  addition-refused its_id add.NameUnfit is = placed-refused its_id _ is
  addition-refused its_id add.ParentTwice is = placed-refused its_id _ is
  addition-refused its_id add.ParentLimit is = placed-refused its_id _ is
  addition-refused its_id add.Collision is = placed-refused its_id _ is
  addition-refused its_id add.Memory is = tt

-- ---- the fault of a stream

pub fault-passes : (known : List Object) (o : Placed) (objects : List Placed) (bad : Option Refusal) → placed_fault known o ≡ None
    → objects_fault known (o ∷ objects) bad ≡ objects_fault (objects_after known o.object) objects bad
unfolding objects_fault
fault-passes known o objects bad passes = rw (passes, objects_fault) refl

pub fault-stops : (known : List Object) (o : Placed) (objects : List Placed) (bad : Option Refusal) (why : Refusal) → placed_fault known o ≡ Some why
    → objects_fault known (o ∷ objects) bad ≡ Some why
unfolding objects_fault
fault-stops known o objects bad why stops = rw (stops, objects_fault) refl

pub fault-ends : (known : List Object) (bad : Option Refusal) → objects_fault known [] bad ≡ bad
unfolding objects_fault
fault-ends known bad = refl

-- the fault of what was framed
abbrev pub fault_in : List Object → StreamFraming → Option Refusal
fault_in known f = objects_fault known f.objects f.bad

pub refused-is : (known : List Object) (bytes : Bytes) → refused (stream_reading known bytes) ≡ fault_in known (stream_framing bytes)
unfolding stream_reading
refused-is known bytes = by (objects_fault known (stream_framing bytes).objects (stream_framing bytes).bad)
  where
    by : (o : Option Refusal) → refused (reading_by (stream_framing bytes).objects o) ≡ o
    by None = refl
    by (Some why) = refl

pub reading-is : (known : List Object) (bytes : Bytes) (objects : List Placed) → (stream_framing bytes).objects ≡ objects → fault_in known (stream_framing bytes) ≡ None
    → stream_reading known bytes ≡ Ok objects
unfolding stream_reading
reading-is known bytes objects is none = (λ i. reading_by (is i) (none i))

-- ---- lists

pub known-push : (known : List Object) (before : List Placed) (o : Placed)
    → objects_after_all known (map (λ p. p.object) (before ++ o ∷ [])) ≡ objects_after (objects_after_all known (map (λ p. p.object) before)) o.object
known-push known [] o = refl
known-push known (p ∷ before) o = known-push (objects_after known p.object) before o

pub arrivals-push : (before : List Placed) (o : Placed) → map arrival_of (before ++ o ∷ []) ≡ map arrival_of before ++ arrival_of o ∷ []
arrivals-push [] o = refl
arrivals-push (p ∷ before) o = ap (λ l. arrival_of p ∷ l) (arrivals-push before o)

pub adds-push : (known : List Object) (before : List Placed) (p : Placed) → AddsAll known (map (λ o. o.object) before) → object_fault (objects_after_all known (map (λ o. o.object) before)) p.object ≡ None
    → AddsAll known (map (λ o. o.object) (before ++ p ∷ []))
adds-push known [] p adds none = (none, tt)
adds-push known (o ∷ before) p adds none = (adds.0, adds-push (objects_after known o.object) before p adds.1 none)
