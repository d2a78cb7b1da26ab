-- Which streams are read whole.
use Rattle.std.proofs.Common.{◌≡◌, ◌+◌, ◌≤◌, cond, Bool, true, false, List, [], ◌∷◌, length, map, Option, None, Some, Ok, refl, sym, ap, ◌∙◌, subst, bytes_eq}
use Rattle.std.specs.Prelude.{option_map}
use Rattle.std.proofs.lemmas.List.Sums.{sum_by-cons}
use Rattle.std.proofs.lemmas.Slice.Eq.{bytes_eq-Decides}
use Rattle.text_model.specs.Text.{Bytes}
use Rattle.text_model.specs.Lists.{Each}
use Rattle.text_model.specs.Id.{ObjectKind, blob, tree, commit, tag, same_kind, object_id}
use Rattle.text_model.specs.Fault.{FaultName, Refusal, refusal, input_limit}
use Rattle.text_model.specs.Fault as fault
use Rattle.text_model.proofs.Options.{none_some}
use Rattle.git_model.specs.Object.{Object, object_fault, objects_after}
use Rattle.git_model.specs.Stream.{Placed, stream_framing, stream_text, IsFit, IsFitStream, IsChecked, ReadsAll, placed_fault, objects_fault, stream_reading, reading_by, count_of_kind}
use Rattle.git_model.proofs.StreamAgain.{stream_again}
use Rattle.git_model.proofs.StreamTakes.{stream_takes}
use Rattle.bridge_text.specs.Kinds.{object_kind}
use Rattle.git_batch.specs.declared.arrival.ObjectArrival.{ObjectArrival}
use Rattle.git_batch.specs.Arrivals.{kind_of, arrival_of, is_of, count_of, AddsAll, BringsAll}
use Rattle.git_batch.proofs.AddLemmas.{placed-passes, fault-passes, fault-stops, fault-ends, fault_in, reading-is}

abbrev objects_of : List Placed → List Object
objects_of placed = map (λ (p : Placed). p.object) placed

-- ---- all are brought

all-pass : (known : List Object) (placed : List Placed) → IsChecked (objects_of placed) → AddsAll known (objects_of placed) → objects_fault known placed None ≡ None
all-pass known [] checked adds = fault-ends known None
all-pass known (p ∷ placed) checked adds =
    fault-passes known p placed None (placed-passes known p (sym checked.0) adds.0) ∙ all-pass (objects_after known p.object) placed checked.1 adds.1

pub brings_all : (known objects : List Object) → Each IsFit objects → length (stream_text objects) ≤ input_limit → IsChecked objects → AddsAll known objects → BringsAll known (stream_text objects) objects
brings_all known objects fit fits checked adds =
    let f = stream_framing (stream_text objects) in
    let read : ReadsAll f objects = stream_again objects fit fits in
    let passes = all-pass known f.objects (subst IsChecked (sym read.each) checked) (subst (AddsAll known) (sym read.each) adds) in record {
      placed = f.objects;
      reads = reading-is known (stream_text objects) f.objects refl (ap (objects_fault known f.objects) read.all ∙ passes);
      are = read.each;
    }

-- ---- and no others

-- objects that aren't refused, and the end
record Passes (known : List Object) (placed : List Placed) (bad : Option Refusal) : Type 0 where
  checked : IsChecked (objects_of placed)
  adds : AddsAll known (objects_of placed)
  end : bad ≡ None

pub record PassesOne (known : List Object) (p : Placed) : Type 0 where
  pub its_id : (p.object).id ≡ object_id (p.object).kind (p.object).content
  pub adds : object_fault known p.object ≡ None

pub passes-one : (known : List Object) (p : Placed) → placed_fault known p ≡ None → PassesOne known p
passes-one known p h = by (bytes_eq (p.object).id (object_id (p.object).kind (p.object).content)) refl
  where
    by : (t : Bool) → bytes_eq (p.object).id (object_id (p.object).kind (p.object).content) ≡ t → PassesOne known p
    by true t = record {
      its_id = (bytes_eq-Decides (p.object).id (object_id (p.object).kind (p.object).content)).0 t;
      adds = unnamed (object_fault known p.object) (sym (rw t refl) ∙ h);
    }
      where
        unnamed : (o : Option FaultName) → option_map (λ (name : FaultName). refusal name (p.object).id p.at) o ≡ None → o ≡ None
        unnamed None e = refl
        unnamed (Some name) e = cc
    by false t = absurd (none_some {x = refusal fault.IdWrong (p.object).id p.at} (sym h ∙ rw t refl))

passes : (known : List Object) (placed : List Placed) (bad : Option Refusal) → objects_fault known placed bad ≡ None → Passes known placed bad
passes known [] bad h = record { checked = tt; adds = tt; end = sym (fault-ends known bad) ∙ h }
passes known (p ∷ placed) bad h = by (placed_fault known p) refl (passes (objects_after known p.object) placed bad)
  where
    by : (o : Option Refusal) → placed_fault known p ≡ o → (objects_fault (objects_after known p.object) placed bad ≡ None → Passes (objects_after known p.object) placed bad) → Passes known (p ∷ placed) bad
    by (Some why) is later = absurd (none_some {x = why} (sym h ∙ fault-stops known p placed bad why is))
    by None is later =
        let one = passes-one known p is in
        let rest = later (sym (fault-passes known p placed bad is) ∙ h) in
        record { checked = (one.its_id, rest.checked); adds = (one.adds, rest.adds); end = rest.end }

record ReadAs (known : List Object) (bytes : Bytes) (placed : List Placed) : Type 0 where
  are : (stream_framing bytes).objects ≡ placed
  faultless : fault_in known (stream_framing bytes) ≡ None

ok_is : (objects placed : List Placed) → reading_by objects None ≡ Ok placed → objects ≡ placed
ok_is objects placed e = cc

not_ok : (objects placed : List Placed) (why : Refusal) → reading_by objects (Some why) ≡ Ok placed → ⊥
not_ok objects placed why e = cc

read_as : (known : List Object) (bytes : Bytes) (placed : List Placed) → stream_reading known bytes ≡ Ok placed → ReadAs known bytes placed
unfolding stream_reading
read_as known bytes placed h = by (fault_in known (stream_framing bytes)) refl h
  where
    by : (o : Option Refusal) → fault_in known (stream_framing bytes) ≡ o → reading_by (stream_framing bytes).objects o ≡ Ok placed → ReadAs known bytes placed
    by None is e = record { are = ok_is (stream_framing bytes).objects placed e; faultless = is }
    by (Some why) is e = absurd (not_ok (stream_framing bytes).objects placed why e)

pub brings_only : (known : List Object) (bytes : Bytes) (placed : List Placed) → stream_reading known bytes ≡ Ok placed
    → IsFitStream bytes (objects_of placed) × IsChecked (objects_of placed) × AddsAll known (objects_of placed)
brings_only known bytes placed h =
    let read = read_as known bytes placed h in
    let all = passes known (stream_framing bytes).objects (stream_framing bytes).bad read.faultless in (
      subst (λ (l : List Placed). IsFitStream bytes (objects_of l)) read.are (stream_takes bytes all.end),
      subst (λ (l : List Placed). IsChecked (objects_of l)) read.are all.checked,
      subst (λ (l : List Placed). AddsAll known (objects_of l)) read.are all.adds,
    )

-- ---- counts

object_kind-kind_of : (k : ObjectKind) → object_kind (kind_of k) ≡ k
object_kind-kind_of blob = refl
object_kind-kind_of tree = refl
object_kind-kind_of commit = refl
object_kind-kind_of tag = refl

pub counts : (kind : ObjectKind) (placed : List Placed) → count_of kind (map arrival_of placed) ≡ count_of_kind kind placed
counts kind [] = refl
counts kind (p ∷ placed) =
    sum_by-cons (λ (a : ObjectArrival). cond (is_of kind a) 1 0) (arrival_of p) (map arrival_of placed)
    ∙ (λ i. cond (same_kind kind (object_kind-kind_of (p.object).kind i)) 1 0 + counts kind placed i)
    ∙ sym (sum_by-cons (λ (o : Placed). cond (same_kind kind (o.object).kind) 1 0) p placed)
