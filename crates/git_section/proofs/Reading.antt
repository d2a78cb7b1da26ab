-- What the answer of a reading says, and the answers of `read_commits`.
use Rattle.std.proofs.Common.{◌≡◌, ◌≢◌, ◌≤◌, ◌<◌, Bool, true, false, true≢false, List, [], length, Result, Ok, Err, Some, refl, sym, ap, subst, ◌∙◌, arith}
use Rattle.std.proofs.lemmas.List.{length-map}
use Rattle.text_model.specs.Text.{Bytes}
use Rattle.text_model.specs.Id.{Id}
use Rattle.text_model.specs.Fault.{Refusal}
use Rattle.text_model.proofs.Options.{none_some}
use Rattle.bridge_io.specs.Causes.{Rose}
use Rattle.bridge_text.specs.Refusals.{refusal_value}
use Rattle.git_model.specs.Tree.{has_distinct}
use Rattle.git_model.specs.Object.{Object, objects_after_all}
use Rattle.git_model.specs.Stream.{Placed, stream_reading}
use Rattle.git_store.specs.Known.{AreKnown}
use Rattle.git_batch.specs.declared.arrival.ObjectArrival.{ObjectArrival}
use Rattle.git_batch.specs.Arrivals.{Reads, refused, arrival_of, commits_among}
use Rattle.git_batch.specs.declared.stream_fault.StreamFault.{StreamFault}
use Rattle.git_batch.specs.declared.stream_fault.StreamFault.TheVariants.{Refused}
use Rattle.git_batch.specs.StreamFaults.{IsFault}
use Rattle.view_model.specs.View.{CommitView}
use Rattle.view_model.specs.Dump.{objects_in}
use Rattle.state_model.specs.Kept.{git_dump}
use Rattle.state_model.specs.Saved.{AreCommitsSaved}
use Rattle.dump_law.proofs.StreamRead.{git-brings}
use Rattle.git_section.specs.Sections.{IsRead, objects_of, ids_of, brings_once}
use Rattle.git_section.proofs.Distinct.{distinct_new}
use Rattle.git_section.proofs.Listed.{same_commits}
use Rattle.git_section.proofs.Once.{after_all, distinct_after}

-- a count that never rises has no fault
pub never_rose : Rose 0 0 → ⊥
never_rose r = omega (arith, r.raised (λ e. omega (arith, e)))

-- ---- what was read

module _ (known : List Object) (left bytes : Bytes) (read : List Object × List ObjectArrival) (none : known ≡ []) (all : left ≡ bytes) (r : Reads known left (Ok read)) where
  reads : stream_reading [] bytes ≡ Ok r.0
  reads = sym (λ i. stream_reading (none i) (all i)) ∙ r.1

  holds : read.0 ≡ objects_after_all [] (objects_of r.0)
  holds = r.3 ∙ ap (λ (os : List Object). objects_after_all os (objects_of r.0)) none

  came : length read.1 ≡ length (objects_of r.0)
  came = ap (λ (l : List ObjectArrival). length l) r.2 ∙ length-map r.0 arrival_of ∙ sym (length-map r.0 (λ (p : Placed). p.object))

  -- as many are known as came
  pub section_read : (ids : List Id) → AreKnown read.0 → length read.1 ≤ length read.0 → ids ≡ commits_among read.1 → IsRead bytes (record { store = read.0; ids = ids })
  section_read ids are once listed = record {
    placed = r.0;
    reads = reads;
    holds = holds ∙ after_all [] (objects_of r.0) (omega (arith, came, once, ap (λ (os : List Object). length os) holds));
    ids = listed ∙ ap commits_among r.2 ∙ same_commits r.0;
    known = are;
  }

  -- fewer are known than came
  pub comes_twice : length read.0 < length read.1 → brings_once (stream_reading [] bytes) ≡ false
  comes_twice fewer = ap brings_once reads ∙ by (has_distinct (ids_of (objects_of r.0))) refl
    where
      by : (t : Bool) → has_distinct (ids_of (objects_of r.0)) ≡ t → t ≡ false
      by true e = absurd (omega (arith, came, fewer, ap (λ (os : List Object). length os) (holds ∙ distinct_after [] (objects_of r.0) e)))
      by false e = refl

refused_is : (r : Result (List Placed) Refusal) (why : Refusal) → refused r ≡ Some why → brings_once r ≡ false
refused_is (Ok placed) why e = absurd (none_some e)
refused_is (Err other) why e = refl

pub nothing_read : (known : List Object) (left bytes : Bytes) (fault : StreamFault) (why : _) → known ≡ [] → left ≡ bytes → fault ≡ Refused why → IsFault (refused (stream_reading known left)) fault → brings_once (stream_reading [] bytes) ≡ false
nothing_read known left bytes fault why none all is h =
    sym (λ i. brings_once (stream_reading (none i) (all i)))
    ∙ refused_is (stream_reading known left) (refusal_value why) (subst (λ (e : StreamFault). IsFault (refused (stream_reading known left)) e) is h)

-- bytes that are refused, or bring an object twice, are no dump
pub no_dump : (bytes : Bytes) → brings_once (stream_reading [] bytes) ≡ false → (cs : List CommitView) → AreCommitsSaved cs → git_dump cs ≢ bytes
no_dump bytes none cs saved dump =
    let brings = git-brings cs saved in
    let once : brings_once (stream_reading [] bytes) ≡ true =
    ap (λ (l : Bytes). brings_once (stream_reading [] l)) (sym dump) ∙ ap brings_once brings.1 ∙ ap (λ (os : List Object). has_distinct (ids_of os)) brings.2 ∙ distinct_new (objects_in cs) in
    true≢false (sym once ∙ none)
