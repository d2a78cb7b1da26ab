-- How far a reading has come.
use Rattle.std.proofs.Common.{◌≡◌, ℕ, zero, suc, ◌+◌, ◌≤◌, Bool, true, false, List, [], ◌∷◌, ◌++◌, length, map, Option, None, Some, Ok, Err, IfSome, refl, sym, ap, ◌∙◌, subst, arith, append_assoc, append-nil, length-append, bytes_eq}
use Rattle.std.specs.Io.KnownBytes.{Consumes}
use Rattle.text_model.specs.Text.{Bytes}
use Rattle.text_model.specs.Id.{object_id}
use Rattle.text_model.specs.Fault.{Refusal, refusal}
use Rattle.text_model.specs.Fault as fault
use Rattle.text_model.proofs.Options.{none_some}
use Rattle.git_model.specs.Object.{Object, object_fault, objects_after, objects_after_all}
use Rattle.git_model.specs.Stream.{object_text, Placed, StreamFraming, object_reading, checked_at, ObjectReading, NoObject, Found, BadObject, stream_from, stream_framing, stream_reading, placed_fault}
use Rattle.git_model.proofs.StreamLemmas.{stream_refused, stream_item, stream_end}
use Rattle.git_model.proofs.StreamTakes.{object_takes}
use Rattle.git_batch.specs.declared.fault.BatchFault.{BatchFault}
use Rattle.git_batch.specs.declared.fault.BatchFault.TheVariants as batch
use Rattle.git_batch.specs.Faults as reader
use Rattle.git_batch.specs.Item.{reading_fault}
use Rattle.git_batch.proofs.Progress.{object_text-some}
use Rattle.git_batch.specs.declared.gather.Gathered.{Gathered}
use Rattle.git_batch.specs.declared.stream_fault.StreamFault.{StreamFault}
use Rattle.git_batch.specs.declared.stream_fault.StreamFault.TheVariants.{Refused, Read, Memory}
use Rattle.git_batch.specs.StreamFaults.{IsFault, IsJudgement, stream_fault}
use Rattle.git_batch.specs.Arrivals.{arrival_of, Reads, AddsAll}
use Rattle.git_batch.specs.Steps.{Adds}
use Rattle.git_batch.proofs.AddLemmas.{placed-wrong, fault-passes, fault-stops, fault-ends, fault_in, refused-is, reading-is, known-push, arrivals-push, adds-push}
use Rattle.git_batch.proofs.StreamLaws.{passes-one}

-- These objects were added to those known, none of which is refused, and listed.
pub record AreAdded (known : List Object) (g : Gathered) (before : List Placed) : Type 0 where
  pub adds : AddsAll known (map (λ o. o.object) before)
  pub store : g.store ≡ objects_after_all known (map (λ o. o.object) before)
  pub listed : g.arrivals ≡ map arrival_of before

-- These objects were read, and the whole input is refused as the rest is behind them. A framing of the rest takes `more` objects at least.
pub record GoesOn (known : List Object) (whole rest : Bytes) (g : Gathered) (at : ℕ) (before : List Placed) : Type 0 where
  pub more : ℕ
  pub enough : length rest ≤ more
  pub framed : (stream_framing whole).objects ≡ before ++ (stream_from (suc more) at rest).objects
  pub fault : fault_in known (stream_framing whole) ≡ fault_in g.store (stream_from (suc more) at rest)

-- the same where the source tells its bytes
abbrev pub Reading : List Object → Option Bytes → Option Bytes → Gathered → ℕ → List Placed → Type 0
Reading known None rest g at before = Unit {0}
Reading known (Some whole) None g at before = ⊥
Reading known (Some whole) (Some rest) g at before = GoesOn known whole rest g at before

pub added_none : (known : List Object) → AreAdded known (record { store = known; arrivals = [] }) []
added_none known = record { adds = tt; store = refl; listed = refl }

begins : (known : List Object) (whole : Bytes) → GoesOn known whole whole (record { store = known; arrivals = [] }) 0 []
unfolding stream_framing
begins known whole = record { more = length whole; enough = omega arith; framed = refl; fault = refl }

pub reading_begins : (known : List Object) (old : Option Bytes) → Reading known old old (record { store = known; arrivals = [] }) 0 []
reading_begins known None = tt
reading_begins known (Some whole) = begins known whole

-- ---- what the reader says

found-checked : (at : ℕ) (r : ObjectReading) (o : Object) → checked_at at r ≡ Found o → r ≡ Found o
found-checked at NoObject o h = cc
found-checked at (BadObject why) o h = cc
found-checked at (Found p) o h = by (bytes_eq p.id (object_id p.kind p.content)) refl
  where
    by : (t : Bool) → bytes_eq p.id (object_id p.kind p.content) ≡ t → Found p ≡ Found o
    by true t = sym (rw t refl) ∙ h
    by false t = absurd (bad_found (sym (rw t refl) ∙ h))
      where
        bad_found : BadObject (refusal fault.IdWrong p.id at) ≡ Found o → ⊥
        bad_found e = cc

none-checked : (at : ℕ) (r : ObjectReading) → checked_at at r ≡ NoObject → r ≡ NoObject
none-checked at NoObject h = refl
none-checked at (BadObject why) h = cc
none-checked at (Found p) h = by (bytes_eq p.id (object_id p.kind p.content)) refl
  where
    by : (t : Bool) → bytes_eq p.id (object_id p.kind p.content) ≡ t → Found p ≡ NoObject
    by true t = sym (rw t refl) ∙ h
    by false t = absurd (bad_none (sym (rw t refl) ∙ h))
      where
        bad_none : BadObject (refusal fault.IdWrong p.id at) ≡ NoObject → ⊥
        bad_none e = cc

-- ---- a refusal

-- the object that stands there is refused
item-refused : (known : List Object) (more at : ℕ) (rest : Bytes) (o : Object) (why : Refusal) → object_reading at rest ≡ Found o
    → placed_fault known (record { object = o; at = at }) ≡ Some why → fault_in known (stream_from (suc more) at rest) ≡ Some why
item-refused known more at rest o why found stops =
    let takes = object_takes at rest o found in
    let next = ap (stream_from (suc more) at) takes.is ∙ stream_item more at takes.rest o (subst (λ (l : Bytes). object_reading at l ≡ Found o) takes.is found) in
    let behind = stream_from more (at + length (object_text o)) takes.rest in
    ap (fault_in known) next ∙ fault-stops known (record { object = o; at = at }) behind.objects behind.bad why stops

checked-refused : (known : List Object) (more at : ℕ) (rest : Bytes) (why : Refusal) → reading_fault (checked_at at (object_reading at rest)) ≡ Some why
    → fault_in known (stream_from (suc more) at rest) ≡ Some why
checked-refused known more at rest why h = by (object_reading at rest) refl (sym refl ∙ h)
  where
    by : (r : ObjectReading) → object_reading at rest ≡ r → reading_fault (checked_at at r) ≡ Some why → fault_in known (stream_from (suc more) at rest) ≡ Some why
    by NoObject is e = absurd (none_some {x = why} e)
    by (BadObject bad) is e = ap (fault_in known) (stream_refused more at rest bad is) ∙ fault-ends known (Some bad) ∙ e
    by (Found o) is e = wrong (bytes_eq o.id (object_id o.kind o.content)) refl
      where
        wrong : (t : Bool) → bytes_eq o.id (object_id o.kind o.content) ≡ t → fault_in known (stream_from (suc more) at rest) ≡ Some why
        wrong true t = absurd (none_some {x = why} (sym (rw t refl) ∙ e))
        wrong false t =
            item-refused known more at rest o why is
            (placed-wrong known (record { object = o; at = at }) t ∙ sym (rw t refl) ∙ e)

-- a fault of the reader, as a fault of the stream that is refused where the reader does
refused_by : (why bad : Option Refusal) → ((r : Refusal) → why ≡ Some r → bad ≡ Some r) → (e : BatchFault) → reader.IsFault why e → IsFault bad (stream_fault e)
refused_by why bad by batch.Read is = tt
refused_by why bad by batch.Memory is = tt
refused_by why bad by (batch.Line place) is = by _ is
refused_by why bad by (batch.Missing place) is = by _ is
refused_by why bad by (batch.KindUnknown id place) is = by _ is
refused_by why bad by (batch.Limit place) is = by _ is
refused_by why bad by (batch.Truncated place) is = by _ is
refused_by why bad by batch.InputLimit is = by _ is
refused_by why bad by (batch.IdWrong id place) is = by _ is

pub next_told : (known : List Object) (old mid : Option Bytes) (g : Gathered) (at : ℕ) (before : List Placed) (e : BatchFault) → Reading known old mid g at before
    → IfSome mid (λ bytes. reader.IsFault (reading_fault (checked_at at (object_reading at bytes))) e) → IfSome old (λ bytes. Reads known bytes (Err (stream_fault e)))
next_told known None mid g at before e so_far is = tt
next_told known (Some whole) None g at before e so_far is = absurd so_far
next_told known (Some whole) (Some rest) g at before e so_far is =
    subst (λ (why : Option Refusal). IsFault why (stream_fault e)) (sym (refused-is known whole))
    (refused_by (reading_fault (checked_at at (object_reading at rest))) (fault_in known (stream_framing whole))
    (λ why bad. so_far.fault ∙ checked-refused g.store so_far.more at rest why bad) e is)

judged : (why bad : Option Refusal) → ((r : Refusal) → why ≡ Some r → bad ≡ Some r) → (e : StreamFault) → IsJudgement why e → IsFault bad e
judged why bad by (Refused it) is = by _ is
judged why bad by Read is = absurd is
judged why bad by Memory is = tt

pub take_told : (known : List Object) (old mid : Option Bytes) (g : Gathered) (at : ℕ) (before : List Placed) (o : Object) (e : StreamFault) → Reading known old mid g at before
    → IfSome mid (λ bytes. checked_at at (object_reading at bytes) ≡ Found o) → IsJudgement (placed_fault g.store (record { object = o; at = at })) e → IfSome old (λ bytes. Reads known bytes (Err e))
take_told known None mid g at before o e so_far found is = tt
take_told known (Some whole) None g at before o e so_far found is = absurd so_far
take_told known (Some whole) (Some rest) g at before o e so_far found is =
    subst (λ (why : Option Refusal). IsFault why e) (sym (refused-is known whole))
    (judged (placed_fault g.store (record { object = o; at = at })) (fault_in known (stream_framing whole))
    (λ why stops. so_far.fault ∙ item-refused g.store so_far.more at rest o why (found-checked at (object_reading at rest) o found) stops) e is)

-- ---- an object

object_goes_on : (more : ℕ) (known : List Object) (whole rest : Bytes) (g new : Gathered) (at : ℕ) (o : Object) (before : List Placed) → length (object_text o ++ rest) ≤ more
    → (stream_framing whole).objects ≡ before ++ (stream_from (suc more) at (object_text o ++ rest)).objects
    → fault_in known (stream_framing whole) ≡ fault_in g.store (stream_from (suc more) at (object_text o ++ rest))
    → object_reading at (object_text o ++ rest) ≡ Found o → Adds (record { object = o; at = at }) g new
    → GoesOn known whole rest new (at + length (object_text o)) (before ++ record { object = o; at = at } ∷ [])
object_goes_on zero known whole rest g new at o before enough framed fault found adds =
    absurd (omega (arith, length-append (object_text o) rest, object_text-some o))
object_goes_on (suc more) known whole rest g new at o before enough framed fault found adds =
    let p : Placed = record { object = o; at = at } in
    let next = stream_item (suc more) at rest o found in
    let behind = stream_from (suc more) (at + length (object_text o)) rest in record {
      more = more;
      enough = omega (arith, length-append (object_text o) rest, object_text-some o);
      framed = framed ∙ ap (λ (f : StreamFraming). before ++ f.objects) next ∙ sym (append_assoc before (p ∷ []) behind.objects);
      fault = fault ∙ ap (fault_in g.store) next ∙ fault-passes g.store p behind.objects behind.bad adds.faultless ∙ ap (λ (k : List Object). fault_in k behind) (sym adds.store);
    }

pub added_push : (known : List Object) (g new : Gathered) (before : List Placed) (p : Placed) → AreAdded known g before → Adds p g new → AreAdded known new (before ++ p ∷ [])
added_push known g new before p so_far adds = record {
  adds = adds-push known before p so_far.adds (subst (λ (k : List Object). object_fault k p.object ≡ None) so_far.store (passes-one g.store p adds.faultless).adds);
  store = adds.store ∙ ap (λ (k : List Object). objects_after k p.object) so_far.store ∙ sym (known-push known before p);
  listed = adds.arrivals ∙ ap (λ l. l ++ arrival_of p ∷ []) so_far.listed ∙ sym (arrivals-push before p);
}

goes_on : (known : List Object) (whole mid rest : Bytes) (g new : Gathered) (at : ℕ) (before : List Placed) (o : Object) → GoesOn known whole mid g at before → mid ≡ object_text o ++ rest → object_reading at mid ≡ Found o
    → Adds (record { object = o; at = at }) g new → GoesOn known whole rest new (at + length (object_text o)) (before ++ record { object = o; at = at } ∷ [])
goes_on known whole mid rest g new at before o so_far text found adds =
    object_goes_on so_far.more known whole rest g new at o before
    (subst (λ (l : Bytes). length l ≤ so_far.more) text so_far.enough)
    (subst (λ (l : Bytes). (stream_framing whole).objects ≡ before ++ (stream_from (suc so_far.more) at l).objects) text so_far.framed)
    (subst (λ (l : Bytes). fault_in known (stream_framing whole) ≡ fault_in g.store (stream_from (suc so_far.more) at l)) text so_far.fault)
    (subst (λ (l : Bytes). object_reading at l ≡ Found o) text found) adds

pub reading_goes_on : (known : List Object) (old mid new : Option Bytes) (g grown : Gathered) (at : ℕ) (before : List Placed) (o : Object) → Reading known old mid g at before → Consumes mid new (object_text o)
    → IfSome mid (λ bytes. checked_at at (object_reading at bytes) ≡ Found o) → Adds (record { object = o; at = at }) g grown
    → Reading known old new grown (at + length (object_text o)) (before ++ record { object = o; at = at } ∷ [])
reading_goes_on known None mid new g grown at before o so_far took found adds = tt
reading_goes_on known (Some whole) None new g grown at before o so_far took found adds = absurd so_far
reading_goes_on known (Some whole) (Some mid) None g grown at before o so_far took found adds = absurd took
reading_goes_on known (Some whole) (Some mid) (Some rest) g grown at before o so_far took found adds =
    goes_on known whole mid rest g grown at before o so_far took (found-checked at (object_reading at mid) o found) adds

-- ---- the end

ends : (known : List Object) (whole rest : Bytes) (g : Gathered) (at : ℕ) (before : List Placed) → GoesOn known whole rest g at before → object_reading at rest ≡ NoObject
    → stream_reading known whole ≡ Ok before
ends known whole rest g at before so_far none =
    let end = stream_end so_far.more at rest none in
    let objects = so_far.framed ∙ ap (λ (f : StreamFraming). before ++ f.objects) end ∙ append-nil before in
    let faultless = so_far.fault ∙ ap (fault_in g.store) end ∙ fault-ends g.store None in
    reading-is known whole before objects faultless

pub reading_ends : (known : List Object) (old mid : Option Bytes) (g : Gathered) (at : ℕ) (before : List Placed) → Reading known old mid g at before
    → IfSome mid (λ bytes. checked_at at (object_reading at bytes) ≡ NoObject) → IfSome old (λ bytes. stream_reading known bytes ≡ Ok before)
reading_ends known None mid g at before so_far none = tt
reading_ends known (Some whole) None g at before so_far none = absurd so_far
reading_ends known (Some whole) (Some rest) g at before so_far none = ends known whole rest g at before so_far (none-checked at (object_reading at rest) none)

pub reads_all : (known : List Object) (old : Option Bytes) (g : Gathered) (before : List Placed) → AreAdded known g before → IfSome old (λ bytes. stream_reading known bytes ≡ Ok before)
    → IfSome old (λ bytes. Reads known bytes (Ok (g.store, g.arrivals)))
reads_all known None g before added reads = tt
reads_all known (Some whole) g before added reads = (before, reads, added.listed, added.store)
