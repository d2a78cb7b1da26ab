-- How far a reading has come.
use Rattle.std.proofs.Common.{◌≡◌, ℕ, zero, suc, ◌+◌, ◌<◌, ◌≤◌, ◌^◌, Bool, true, false, not, List, [], ◌∷◌, ◌++◌, length, map, Option, None, Some, Result, Ok, Err, IfSome, refl, sym, ap, ◌∙◌, subst, arith, length-append}
use Rattle.std.specs.Io.KnownBytes.{Consumes, IsAtEnd}
use Rattle.text_model.specs.Text.{Bytes}
use Rattle.text_model.specs.Id.{Id}
use Rattle.text_model.specs.Path.{is_fit_path}
use Rattle.text_model.specs.Fault.{Refusal, refusal_at}
use Rattle.text_model.specs.Fault as fault
use Rattle.text_model.proofs.Options.{none_some, some_is}
use Rattle.hg_model.specs.Chunk.{field_of, chunk_text, magic_text, chunk_fault, magic_fault, trailing_fault}
use Rattle.hg_model.specs.Bundle.{Place, InGroup, AtPath, Framing, framed_end, framing_from, bundle_framing, length_limit, is_short_at, is_path, place_after, place_after_empty, put_item, BundleEntry, entry_of}
use Rattle.hg_model.specs.Revision.{Group, Changesets, FilesAt, Revision, known_after, knows, known_after_all}
use Rattle.hg_model.specs.Reading.{Arrival, EntryText, put_arrival, arrivals_from, bundle_reading, base_of, entry_fault, entry_text, revision_by, text_or_empty}
use Rattle.hg_model.proofs.ChunkLemmas.{length-chunk}
use Rattle.hg_model.proofs.FramingLemmas.{framing_at, framing_refused, framing_empty, framing_item, framing_behind_magic}
use Rattle.hg_store.specs.Known.{text_of}
use Rattle.hg_chunk.specs.declared.fault.ChunkFault.{ChunkFault}
use Rattle.hg_chunk.specs.Faults as framing
use Rattle.hg_bundle.specs.declared.fault.BundleFault.{BundleFault}
use Rattle.hg_bundle.specs.declared.fault.BundleFault.TheVariants.{Refused, Read, Memory}
use Rattle.hg_bundle.specs.declared.arrival.Arrival as listed
use Rattle.hg_bundle.specs.declared.gather.Gathered.{Gathered}
use Rattle.hg_bundle.specs.Faults.{IsFault, IsJudgement, bundle_fault}
use Rattle.hg_bundle.specs.Arrivals.{Reads, arrival_of, revisions_of, refused}
use Rattle.hg_bundle.specs.Entry.{base_for, text_for}
use Rattle.hg_bundle.specs.Listing.{next_place}
use Rattle.hg_bundle.specs.Steps.{Adds, Begins, Steps, step_refusal, entry_bytes, entry_revision}
use Rattle.hg_bundle.proofs.Progress.{refused_by}

abbrev pub Answer : Type 0
Answer = Result (List Arrival) Refusal

abbrev pub arrivals_of : List Revision → Bytes → ℕ → Framing → Answer
arrivals_of known previous sum f = arrivals_from known previous sum f.items f.bad

abbrev pub put_arrivals : List Arrival → Answer → Answer
put_arrivals [] later = later
put_arrivals (a ∷ arrivals) later = put_arrival a (put_arrivals arrivals later)

abbrev pub is_first : Option Id → Bool
is_first None = true
is_first (Some node) = false

-- the text before, where an entry of the group came before
abbrev pub IsPrevious : List Revision → Option Id → Option Place → Bytes → Type 0
IsPrevious known None next previous = Unit {0}
IsPrevious known (Some node) None previous = Unit {0}
IsPrevious known (Some node) (Some AtPath) previous = Unit {0}
IsPrevious known (Some node) (Some (InGroup group)) previous = text_of known group node ≡ Some previous

-- The whole input brings what came so far and then what the rest brings. A framing of the rest takes `more` chunks at least.
pub record ReadsOn (whole rest : Bytes) (start : List Revision) (g : Gathered) (at : ℕ) (next : Option Place) : Type 0 where
  pub more : ℕ
  pub enough : length rest ≤ more
  pub previous : Bytes
  pub came : List Arrival
  pub is_previous : IsPrevious g.store g.last next previous
  pub reads : bundle_reading start whole ≡ put_arrivals came (arrivals_of g.store previous g.sum (framing_at (suc more) (is_first g.last) at next rest))
  pub listed : g.arrivals ≡ map arrival_of came
  pub known : g.store ≡ known_after_all start (revisions_of came)

-- the same where the source tells its bytes
abbrev pub Reading : Option Bytes → Option Bytes → List Revision → Gathered → ℕ → Option Place → Type 0
Reading None rest start g at next = Unit {0}
Reading (Some whole) None start g at next = ⊥
Reading (Some whole) (Some rest) start g at next = ReadsOn whole rest start g at next

pub length-field : (payload : Bytes) (most : ℕ) → field_of payload ≤ most → most ≤ 2 ^ 27 → length payload < 2 ^ 31
length-field [] most within small = omega arith
length-field (byte ∷ bytes) most within small = omega (arith, within, small)

-- ---- arrivals

put-Err : (came : List Arrival) (why : Refusal) → put_arrivals came (Err why) ≡ Err why
put-Err [] why = refl
put-Err (a ∷ came) why = ap (put_arrival a) (put-Err came why)

put-Ok : (came : List Arrival) → put_arrivals came (Ok []) ≡ Ok came
put-Ok [] = refl
put-Ok (a ∷ came) = ap (put_arrival a) (put-Ok came)

put-push : (came : List Arrival) (a : Arrival) (later : Answer) → put_arrivals came (put_arrival a later) ≡ put_arrivals (came ++ a ∷ []) later
put-push [] a later = refl
put-push (x ∷ came) a later = ap (put_arrival x) (put-push came a later)

pub known-push : (start : List Revision) (came : List Arrival) (a : Arrival) → known_after_all start (revisions_of (came ++ a ∷ [])) ≡ known_after (known_after_all start (revisions_of came)) a.revision
known-push start [] a = refl
known-push start (x ∷ came) a = known-push (known_after start x.revision) came a

pub listed-push : (came : List Arrival) (a : Arrival) → map arrival_of (came ++ a ∷ []) ≡ map arrival_of came ++ arrival_of a ∷ []
listed-push [] a = refl
listed-push (x ∷ came) a = ap (λ (l : List listed.Arrival). arrival_of x ∷ l) (listed-push came a)

pub reading_is : (start : List Revision) (bytes : Bytes) → bundle_reading start bytes ≡ arrivals_of start [] 0 (bundle_framing bytes)
unfolding bundle_reading
reading_is start bytes = refl

pub ends_Ok : (known : List Revision) (previous : Bytes) (sum : ℕ) → arrivals_of known previous sum (framed_end None) ≡ Ok []
unfolding arrivals_from
ends_Ok known previous sum = refl

pub ends_Err : (known : List Revision) (previous : Bytes) (sum : ℕ) (why : Refusal) → arrivals_of known previous sum (framed_end (Some why)) ≡ Err why
unfolding arrivals_from
ends_Err known previous sum why = refl

-- ---- one item

pub path_item : (known : List Revision) (previous : Bytes) (sum : ℕ) (first : Bool) (at : ℕ) (payload : Bytes) (f : Framing) → is_fit_path payload ≡ true
    → arrivals_of known previous sum (put_item (record { place = AtPath; first = first; at = at; payload = payload }) f) ≡ arrivals_of known [] sum f
unfolding arrivals_from
path_item known previous sum first at payload f fit = rw fit refl

pub path_unfit : (known : List Revision) (previous : Bytes) (sum : ℕ) (first : Bool) (at : ℕ) (payload : Bytes) (f : Framing) → is_fit_path payload ≡ false
    → arrivals_of known previous sum (put_item (record { place = AtPath; first = first; at = at; payload = payload }) f) ≡ Err (refusal_at fault.PathUnfit at)
unfolding arrivals_from
path_unfit known previous sum first at payload f fit = rw fit refl

-- the answer for an entry and what follows it, where the entry's text is this one
abbrev pub answer_with : List Revision → ℕ → Group → ℕ → BundleEntry → Framing → EntryText → Answer
answer_with known sum group at e f text =
    put_arrival (record { revision = revision_by group e (text_or_empty text); at = at; fresh = not (knows known group e.node) })
    (arrivals_of (known_after known (revision_by group e (text_or_empty text))) (text_or_empty text) (sum + length (text_or_empty text)) f)

module _ (known : List Revision) (previous : Bytes) (sum : ℕ) (group : Group) (first : Bool) (at : ℕ) (payload : Bytes) (f : Framing) where
  abbrev pub answer : Answer
  answer = arrivals_of known previous sum (put_item (record { place = InGroup group; first = first; at = at; payload = payload }) f)

  abbrev pub text_read : EntryText
  text_read = entry_text (base_of known group first previous (entry_of payload).p) (entry_of payload).delta

  pub entry_taken : is_short_at (InGroup group) payload ≡ false → entry_fault known sum group at (entry_of payload) text_read ≡ None
      → answer ≡ answer_with known sum group at (entry_of payload) f text_read
  unfolding arrivals_from
  entry_taken long none = rw (long, none, arrivals_from) refl

  pub entry_short : is_short_at (InGroup group) payload ≡ true → answer ≡ Err (refusal_at fault.HeaderShort at)
  unfolding arrivals_from
  entry_short short = rw (short, arrivals_from) refl

  pub entry_bad : (why : Refusal) → is_short_at (InGroup group) payload ≡ false → entry_fault known sum group at (entry_of payload) text_read ≡ Some why → answer ≡ Err why
  unfolding arrivals_from
  entry_bad why long is = rw (long, is, arrivals_from) refl

  module _ (text : EntryText) (is_text : text_read ≡ text) where
    pub entry_item : is_short_at (InGroup group) payload ≡ false → entry_fault known sum group at (entry_of payload) text ≡ None
        → answer ≡ answer_with known sum group at (entry_of payload) f text
    entry_item long =
        subst (λ (t : EntryText). entry_fault known sum group at (entry_of payload) t ≡ None → answer ≡ answer_with known sum group at (entry_of payload) f t) is_text (entry_taken long)

    entry_refused : (why : Refusal) → is_short_at (InGroup group) payload ≡ false → entry_fault known sum group at (entry_of payload) text ≡ Some why → answer ≡ Err why
    entry_refused why long is = entry_bad why long (ap (entry_fault known sum group at (entry_of payload)) is_text ∙ is)

base-is : (known : List Revision) (group : Group) (last : Option Id) (previous : Bytes) (parent : Id) → IsPrevious known last (Some (InGroup group)) previous
    → base_of known group (is_first last) previous parent ≡ base_for known group last parent
base-is known group None previous parent is = refl
base-is known group (Some node) previous parent is = sym is

-- the text of the entry is what the definition reads
text-is : (known : List Revision) (group : Group) (last : Option Id) (previous : Bytes) (e : BundleEntry) → IsPrevious known last (Some (InGroup group)) previous
    → entry_text (base_of known group (is_first last) previous e.p) e.delta ≡ text_for known group last e
text-is known group last previous e is = ap (λ (b : Option Bytes). entry_text b e.delta) (base-is known group last previous e.p is)

-- ---- the beginning

framed : (bytes : Bytes) (why : Refusal) → magic_fault bytes ≡ Some why → bundle_framing bytes ≡ framed_end (Some why)
unfolding bundle_framing
framed bytes why is = rw (is, bundle_framing) refl

pub magic_refused : (start : List Revision) (bytes : Bytes) (why : Refusal) → magic_fault bytes ≡ Some why → refused (bundle_reading start bytes) ≡ Some why
magic_refused start bytes why is = ap refused (reading_is start bytes ∙ ap (arrivals_of start [] 0) (framed bytes why is) ∙ ends_Err start [] 0 why)

pub magic_told : (start : List Revision) (old : Option Bytes) (e : ChunkFault) → IfSome old (λ bytes. framing.IsFault (magic_fault bytes) e)
    → IfSome old (λ bytes. IsFault (refused (bundle_reading start bytes)) (bundle_fault e))
magic_told start None e is = tt
magic_told start (Some bytes) e is = refused_by (magic_fault bytes) (refused (bundle_reading start bytes)) e (magic_refused start bytes) is

abbrev pub nothing : List Revision → Gathered
nothing start = record { store = start; arrivals = []; last = None; sum = 0 }

begins : (start : List Revision) (whole rest : Bytes) → whole ≡ magic_text ++ rest → magic_fault whole ≡ None → ReadsOn whole rest start (nothing start) 6 (Some (InGroup Changesets))
begins start whole rest text fits =
    let all : bundle_framing whole ≡ framing_from (suc (suc (suc (suc (suc (suc (length rest))))))) (InGroup Changesets) true 6 rest =
    ap bundle_framing text ∙ framing_behind_magic rest (subst (λ (l : Bytes). magic_fault l ≡ None) text fits) in record {
      more = suc (suc (suc (suc (suc (length rest)))));
      enough = omega arith;
      previous = [];
      came = [];
      is_previous = tt;
      reads = reading_is start whole ∙ ap (arrivals_of start [] 0) all;
      listed = refl;
      known = refl;
    }

pub reading_begins : (start : List Revision) (old mid : Option Bytes) → Consumes old mid magic_text → IfSome old (λ bytes. magic_fault bytes ≡ None)
    → Reading old mid start (nothing start) 6 (Some (InGroup Changesets))
reading_begins start None mid took fits = tt
reading_begins start (Some whole) None took fits = absurd took
reading_begins start (Some whole) (Some rest) took fits = begins start whole rest took fits

-- ---- a chunk that is refused

module _ (whole : Bytes) (start : List Revision) (g : Gathered) (at : ℕ) (place : Place) where
  refused_at_chunk : (rest : Bytes) → ReadsOn whole rest start g at (Some place) → (why : Refusal) → chunk_fault (length_limit place) at rest ≡ Some why
      → refused (bundle_reading start whole) ≡ Some why
  refused_at_chunk rest so_far why is =
      ap refused (so_far.reads
      ∙ ap (λ (f : Framing). put_arrivals so_far.came (arrivals_of g.store so_far.previous g.sum f)) (framing_refused so_far.more place (is_first g.last) at rest why is)
      ∙ ap (put_arrivals so_far.came) (ends_Err g.store so_far.previous g.sum why) ∙ put-Err so_far.came why)

pub chunk_told : (start : List Revision) (old mid : Option Bytes) (g : Gathered) (at : ℕ) (place : Place) (e : ChunkFault) → Reading old mid start g at (Some place)
    → IfSome mid (λ bytes. framing.IsFault (chunk_fault (length_limit place) at bytes) e) → IfSome old (λ bytes. IsFault (refused (bundle_reading start bytes)) (bundle_fault e))
chunk_told start None mid g at place e so_far is = tt
chunk_told start (Some whole) None g at place e so_far is = absurd so_far
chunk_told start (Some whole) (Some rest) g at place e so_far is =
    refused_by (chunk_fault (length_limit place) at rest) (refused (bundle_reading start whole)) e (refused_at_chunk whole start g at place rest so_far) is

-- ---- a chunk that is taken

module _ (whole rest : Bytes) (start : List Revision) (g new : Gathered) (at : ℕ) where
  empty_from : (more : ℕ) (place : Place) (mid : Bytes) (so_far : ReadsOn whole mid start g at (Some place)) → so_far.more ≡ more → mid ≡ chunk_text [] ++ rest
      → chunk_fault (length_limit place) at mid ≡ None → Begins g new → ReadsOn whole rest start new (at + 4) (place_after_empty place)
  empty_from zero place mid so_far is text fits b = absurd (omega (arith, so_far.enough, is, ap (λ (l : Bytes). length l) text, length-append (chunk_text []) rest, length-chunk []))
  empty_from (suc more) place mid so_far is text fits b = record {
    more = more;
    enough = omega (arith, so_far.enough, is, ap (λ (l : Bytes). length l) text, length-append (chunk_text []) rest, length-chunk []);
    previous = so_far.previous;
    came = so_far.came;
    is_previous = subst (λ (l : Option Id). IsPrevious new.store l (place_after_empty place) so_far.previous) (sym b.last) (none (place_after_empty place));
    reads = so_far.reads
        ∙ (λ i. put_arrivals so_far.came (arrivals_of (sym b.store i) so_far.previous (sym b.sum i) (framing_at (suc (is i)) (is_first g.last) at (Some place) (text i))))
        ∙ ap (λ (f : Framing). put_arrivals so_far.came (arrivals_of new.store so_far.previous new.sum f))
        (framing_empty (suc more) place (is_first g.last) at rest (subst (λ (l : Bytes). chunk_fault (length_limit place) at l ≡ None) text fits))
        ∙ (λ i. put_arrivals so_far.came (arrivals_of new.store so_far.previous new.sum (framing_at (suc more) (is_first (sym b.last i)) (at + 4) (place_after_empty place) rest)));
    listed = b.arrivals ∙ so_far.listed;
    known = b.store ∙ so_far.known;
  }
    where
      none : (next : Option Place) → IsPrevious new.store None next so_far.previous
      none next = tt

  module _ (byte : ℕ) (bytes : Bytes) (small : field_of (byte ∷ bytes) < 2 ^ 31) where
    path_from : (more : ℕ) (mid : Bytes) (so_far : ReadsOn whole mid start g at (Some AtPath)) → so_far.more ≡ more → mid ≡ chunk_text (byte ∷ bytes) ++ rest
        → chunk_fault (length_limit AtPath) at mid ≡ None → is_fit_path (byte ∷ bytes) ≡ true → Begins g new
        → ReadsOn whole rest start new (at + (length (byte ∷ bytes) + 4)) (Some (InGroup (FilesAt (byte ∷ bytes))))
    path_from zero mid so_far is text fits fit b =
        absurd (omega (arith, so_far.enough, is, ap (λ (l : Bytes). length l) text, length-append (chunk_text (byte ∷ bytes)) rest, length-chunk (byte ∷ bytes)))
    path_from (suc more) mid so_far is text fits fit b =
        let behind = framing_from (suc more) (InGroup (FilesAt (byte ∷ bytes))) true (at + (length (byte ∷ bytes) + 4)) rest in record {
          more = more;
          enough = omega (arith, so_far.enough, is, ap (λ (l : Bytes). length l) text, length-append (chunk_text (byte ∷ bytes)) rest, length-chunk (byte ∷ bytes));
          previous = [];
          came = so_far.came;
          is_previous = subst (λ (l : Option Id). IsPrevious new.store l (Some (InGroup (FilesAt (byte ∷ bytes)))) []) (sym b.last) none;
          reads = so_far.reads
              ∙ (λ i. put_arrivals so_far.came (arrivals_of (sym b.store i) so_far.previous (sym b.sum i) (framing_at (suc (is i)) (is_first g.last) at (Some AtPath) (text i))))
              ∙ ap (λ (f : Framing). put_arrivals so_far.came (arrivals_of new.store so_far.previous new.sum f))
              (framing_item (suc more) AtPath (is_first g.last) at byte bytes rest small (subst (λ (l : Bytes). chunk_fault (length_limit AtPath) at l ≡ None) text fits))
              ∙ ap (put_arrivals so_far.came) (path_item new.store so_far.previous new.sum (is_first g.last) at (byte ∷ bytes) behind fit)
              ∙ (λ i. put_arrivals so_far.came (arrivals_of new.store [] new.sum (framing_at (suc more) (is_first (sym b.last i)) (at + (length (byte ∷ bytes) + 4)) (Some (InGroup (FilesAt (byte ∷ bytes)))) rest)));
          listed = b.arrivals ∙ so_far.listed;
          known = b.store ∙ so_far.known;
        }
      where
        none : IsPrevious new.store None (Some (InGroup (FilesAt (byte ∷ bytes)))) []
        none = tt

    entry_from : (more : ℕ) (group : Group) (mid : Bytes) (so_far : ReadsOn whole mid start g at (Some (InGroup group))) → so_far.more ≡ more → mid ≡ chunk_text (byte ∷ bytes) ++ rest
        → chunk_fault (length_limit (InGroup group)) at mid ≡ None → is_short_at (InGroup group) (byte ∷ bytes) ≡ false → Adds group at (entry_of (byte ∷ bytes)) g new
        → ReadsOn whole rest start new (at + (length (byte ∷ bytes) + 4)) (Some (InGroup group))
    entry_from zero group mid so_far is text fits long adds =
        absurd (omega (arith, so_far.enough, is, ap (λ (l : Bytes). length l) text, length-append (chunk_text (byte ∷ bytes)) rest, length-chunk (byte ∷ bytes)))
    entry_from (suc more) group mid so_far is text fits long adds =
        let e = entry_of (byte ∷ bytes) in
        let behind = framing_from (suc more) (InGroup group) false (at + (length (byte ∷ bytes) + 4)) rest in
        let a : Arrival = record { revision = entry_revision g group e; at = at; fresh = not (knows g.store group e.node) } in record {
          more = more;
          enough = omega (arith, so_far.enough, is, ap (λ (l : Bytes). length l) text, length-append (chunk_text (byte ∷ bytes)) rest, length-chunk (byte ∷ bytes));
          previous = entry_bytes g group e;
          came = so_far.came ++ a ∷ [];
          is_previous = subst (λ (l : Option Id). IsPrevious new.store l (Some (InGroup group)) (entry_bytes g group e)) (sym adds.last) (some e.node group (entry_bytes g group e) adds.text);
          reads = so_far.reads
              ∙ (λ i. put_arrivals so_far.came (arrivals_of g.store so_far.previous g.sum (framing_at (suc (is i)) (is_first g.last) at (Some (InGroup group)) (text i))))
              ∙ ap (λ (f : Framing). put_arrivals so_far.came (arrivals_of g.store so_far.previous g.sum f))
              (framing_item (suc more) (InGroup group) (is_first g.last) at byte bytes rest small (subst (λ (l : Bytes). chunk_fault (length_limit (InGroup group)) at l ≡ None) text fits))
              ∙ ap (put_arrivals so_far.came) (entry_item g.store so_far.previous g.sum group (is_first g.last) at (byte ∷ bytes) behind (text_for g.store group g.last e)
              (text-is g.store group g.last so_far.previous e so_far.is_previous) long adds.faultless)
              ∙ put-push so_far.came a (arrivals_of (known_after g.store (entry_revision g group e)) (entry_bytes g group e) (g.sum + length (entry_bytes g group e)) behind)
              ∙ (λ i. put_arrivals (so_far.came ++ a ∷ []) (arrivals_of (sym adds.store i) (entry_bytes g group e) (sym adds.sum i) (framing_at (suc more) (is_first (sym adds.last i)) (at + (length (byte ∷ bytes) + 4)) (Some (InGroup group)) rest)));
          listed = adds.arrivals ∙ ap (λ (l : List listed.Arrival). l ++ arrival_of a ∷ []) so_far.listed ∙ sym (listed-push so_far.came a);
          known = adds.store ∙ ap (λ (l : List Revision). known_after l (entry_revision g group e)) so_far.known ∙ sym (known-push start so_far.came a);
        }
      where
        some : (node : Id) (group : Group) (text : Bytes) → text_of new.store group node ≡ Some text → IsPrevious new.store (Some node) (Some (InGroup group)) text
        some node group text is = is

goes_on : (whole mid rest : Bytes) (start : List Revision) (g new : Gathered) (at : ℕ) (place : Place) (payload : Bytes) → ReadsOn whole mid start g at (Some place)
    → mid ≡ chunk_text payload ++ rest → chunk_fault (length_limit place) at mid ≡ None → field_of payload < 2 ^ 31 → Steps place at payload g new
    → ReadsOn whole rest start new (at + (length payload + 4)) (next_place place payload)
goes_on whole mid rest start g new at place [] so_far text fits small steps = empty_from whole rest start g new at so_far.more place mid so_far refl text fits steps
goes_on whole mid rest start g new at AtPath (byte ∷ bytes) so_far text fits small steps =
    path_from whole rest start g new at byte bytes small so_far.more mid so_far refl text fits steps.0 steps.1
goes_on whole mid rest start g new at (InGroup group) (byte ∷ bytes) so_far text fits small steps =
    entry_from whole rest start g new at byte bytes small so_far.more group mid so_far refl text fits steps.0 steps.1

pub reading_goes_on : (start : List Revision) (old mid rest : Option Bytes) (g new : Gathered) (at : ℕ) (place : Place) (payload : Bytes) → Reading old mid start g at (Some place)
    → Consumes mid rest (chunk_text payload) → IfSome mid (λ bytes. chunk_fault (length_limit place) at bytes ≡ None) → field_of payload < 2 ^ 31
    → Steps place at payload g new → Reading old rest start new (at + (length payload + 4)) (next_place place payload)
reading_goes_on start None mid rest g new at place payload so_far took fits small steps = tt
reading_goes_on start (Some whole) None rest g new at place payload so_far took fits small steps = absurd so_far
reading_goes_on start (Some whole) (Some mid) None g new at place payload so_far took fits small steps = absurd took
reading_goes_on start (Some whole) (Some mid) (Some rest) g new at place payload so_far took fits small steps =
    goes_on whole mid rest start g new at place payload so_far took fits small steps

-- ---- a chunk at which the input is refused

module _ (whole mid rest : Bytes) (start : List Revision) (g : Gathered) (at byte : ℕ) (bytes : Bytes) (text : mid ≡ chunk_text (byte ∷ bytes) ++ rest)
    (small : field_of (byte ∷ bytes) < 2 ^ 31) (why : Refusal) where
  -- the whole input is refused as an item is
  item_refused : (place : Place) (so_far : ReadsOn whole mid start g at (Some place)) → chunk_fault (length_limit place) at mid ≡ None
      → ((f : Framing) → arrivals_of g.store so_far.previous g.sum (put_item (record { place = place; first = is_first g.last; at = at; payload = byte ∷ bytes }) f) ≡ Err why)
      → refused (bundle_reading start whole) ≡ Some why
  item_refused place so_far fits is =
      ap refused (so_far.reads
      ∙ (λ i. put_arrivals so_far.came (arrivals_of g.store so_far.previous g.sum (framing_at (suc so_far.more) (is_first g.last) at (Some place) (text i))))
      ∙ ap (λ (f : Framing). put_arrivals so_far.came (arrivals_of g.store so_far.previous g.sum f))
      (framing_item so_far.more place (is_first g.last) at byte bytes rest small (subst (λ (l : Bytes). chunk_fault (length_limit place) at l ≡ None) text fits))
      ∙ ap (put_arrivals so_far.came) (is (framing_from so_far.more (place_after place (byte ∷ bytes)) (is_path place) (at + (length (byte ∷ bytes) + 4)) rest))
      ∙ put-Err so_far.came why)

  path_refused : (fit : Bool) → is_fit_path (byte ∷ bytes) ≡ fit → ReadsOn whole mid start g at (Some AtPath) → chunk_fault (length_limit AtPath) at mid ≡ None
      → step_refusal AtPath at (byte ∷ bytes) g ≡ Some why → refused (bundle_reading start whole) ≡ Some why
  path_refused true fit so_far fits is = absurd (none_some (sym (rw fit refl) ∙ is))
  path_refused false fit so_far fits is =
      let same : refusal_at fault.PathUnfit at ≡ why = some_is (sym (rw fit refl) ∙ is) in
      item_refused AtPath so_far fits (λ f. path_unfit g.store so_far.previous g.sum (is_first g.last) at (byte ∷ bytes) f fit ∙ ap Err same)

  group_refused : (short : Bool) (group : Group) → is_short_at (InGroup group) (byte ∷ bytes) ≡ short → ReadsOn whole mid start g at (Some (InGroup group))
      → chunk_fault (length_limit (InGroup group)) at mid ≡ None → step_refusal (InGroup group) at (byte ∷ bytes) g ≡ Some why → refused (bundle_reading start whole) ≡ Some why
  group_refused true group short so_far fits is =
      let same : refusal_at fault.HeaderShort at ≡ why = some_is (sym (rw short refl) ∙ is) in
      item_refused (InGroup group) so_far fits
      (λ f. entry_short g.store so_far.previous g.sum group (is_first g.last) at (byte ∷ bytes) f short ∙ ap Err same)
  group_refused false group short so_far fits is =
      let e = entry_of (byte ∷ bytes) in
      item_refused (InGroup group) so_far fits
      (λ f. entry_refused g.store so_far.previous g.sum group (is_first g.last) at (byte ∷ bytes) f (text_for g.store group g.last e)
      (text-is g.store group g.last so_far.previous e so_far.is_previous) why short (sym (rw short refl) ∙ is))

step_refused : (whole mid rest : Bytes) (start : List Revision) (g : Gathered) (at : ℕ) (place : Place) (payload : Bytes) (why : Refusal) → ReadsOn whole mid start g at (Some place)
    → mid ≡ chunk_text payload ++ rest → chunk_fault (length_limit place) at mid ≡ None → field_of payload < 2 ^ 31 → step_refusal place at payload g ≡ Some why
    → refused (bundle_reading start whole) ≡ Some why
step_refused whole mid rest start g at place [] why so_far text fits small is = absurd (none_some is)
step_refused whole mid rest start g at AtPath (byte ∷ bytes) why so_far text fits small is =
    path_refused whole mid rest start g at byte bytes text small why (is_fit_path (byte ∷ bytes)) refl so_far fits is
step_refused whole mid rest start g at (InGroup group) (byte ∷ bytes) why so_far text fits small is =
    group_refused whole mid rest start g at byte bytes text small why (is_short_at (InGroup group) (byte ∷ bytes)) group refl so_far fits is

step_fault : (whole mid rest : Bytes) (start : List Revision) (g : Gathered) (at : ℕ) (place : Place) (payload : Bytes) (e : BundleFault) → ReadsOn whole mid start g at (Some place)
    → mid ≡ chunk_text payload ++ rest → chunk_fault (length_limit place) at mid ≡ None → field_of payload < 2 ^ 31 → IsJudgement (step_refusal place at payload g) e
    → IsFault (refused (bundle_reading start whole)) e
step_fault whole mid rest start g at place payload (Refused refusal) so_far text fits small is = step_refused whole mid rest start g at place payload _ so_far text fits small is
step_fault whole mid rest start g at place payload Read so_far text fits small is = tt
step_fault whole mid rest start g at place payload Memory so_far text fits small is = tt

pub step_told : (start : List Revision) (old mid rest : Option Bytes) (g : Gathered) (at : ℕ) (place : Place) (payload : Bytes) (e : BundleFault) → Reading old mid start g at (Some place)
    → Consumes mid rest (chunk_text payload) → IfSome mid (λ bytes. chunk_fault (length_limit place) at bytes ≡ None) → field_of payload < 2 ^ 31
    → IsJudgement (step_refusal place at payload g) e → IfSome old (λ bytes. IsFault (refused (bundle_reading start bytes)) e)
step_told start None mid rest g at place payload e so_far took fits small is = tt
step_told start (Some whole) None rest g at place payload e so_far took fits small is = absurd so_far
step_told start (Some whole) (Some mid) None g at place payload e so_far took fits small is = absurd took
step_told start (Some whole) (Some mid) (Some rest) g at place payload e so_far took fits small is =
    step_fault whole mid rest start g at place payload e so_far took fits small is

-- ---- the end

pub end_told : (start : List Revision) (old mid : Option Bytes) (g : Gathered) (at : ℕ) (e : ChunkFault) → Reading old mid start g at None
    → IfSome mid (λ bytes. framing.IsFault (trailing_fault at bytes) e) → IfSome old (λ bytes. IsFault (refused (bundle_reading start bytes)) (bundle_fault e))
end_told start None mid g at e so_far is = tt
end_told start (Some whole) None g at e so_far is = absurd so_far
end_told start (Some whole) (Some rest) g at e so_far is = refused_by (trailing_fault at rest) (refused (bundle_reading start whole)) e trailing is
  where
    trailing : (why : Refusal) → trailing_fault at rest ≡ Some why → refused (bundle_reading start whole) ≡ Some why
    trailing why is =
        ap refused (so_far.reads
        ∙ ap (λ (o : Option Refusal). put_arrivals so_far.came (arrivals_of g.store so_far.previous g.sum (framed_end o))) is
        ∙ ap (put_arrivals so_far.came) (ends_Err g.store so_far.previous g.sum why) ∙ put-Err so_far.came why)

ends : (whole rest : Bytes) (start : List Revision) (g : Gathered) (at : ℕ) → ReadsOn whole rest start g at None → rest ≡ [] → Reads start whole (Ok (g.store, g.arrivals))
ends whole rest start g at so_far none = (
  so_far.came,
  so_far.reads
      ∙ ap (λ (l : Bytes). put_arrivals so_far.came (arrivals_of g.store so_far.previous g.sum (framed_end (trailing_fault at l)))) none
      ∙ ap (put_arrivals so_far.came) (ends_Ok g.store so_far.previous g.sum) ∙ put-Ok so_far.came,
  so_far.listed,
  so_far.known,
)

pub reading_ends : (start : List Revision) (old mid : Option Bytes) (g : Gathered) (at : ℕ) → Reading old mid start g at None → IsAtEnd mid
    → IfSome old (λ bytes. Reads start bytes (Ok (g.store, g.arrivals)))
reading_ends start None mid g at so_far none = tt
reading_ends start (Some whole) None g at so_far none = absurd so_far
reading_ends start (Some whole) (Some rest) g at so_far none = ends whole rest start g at so_far none
