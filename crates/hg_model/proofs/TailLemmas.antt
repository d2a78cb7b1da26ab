-- The rest of a bundle, from any place: bytes that are framed without a fault are one within the limits.
use Rattle.std.proofs.Common.{◌≡◌, ◌≢◌, ℕ, zero, suc, ◌+◌, ◌<◌, ◌≤◌, Bool, true, false, if◌then◌else◌, List, [], ◌∷◌, ◌++◌, length, drop, Option, None, Some, refl, sym, ap, ◌∙◌, subst, arith, append-nil, length-append}
use Rattle.std.proofs.lemmas.Bool.Decides.{nat_tests}
use Rattle.text_model.specs.Lists.{Each}
use Rattle.text_model.specs.Text.{Bytes, IsBytes}
use Rattle.text_model.specs.Fault.{Refusal, input_limit}
use Rattle.text_model.proofs.ByteLemmas.{IsBytes-drop}
use Rattle.hg_model.specs.Chunk.{field_of, chunk_text, chunk_fault, first_payload, trailing_fault, or_else}
use Rattle.hg_model.specs.Bundle.{BundleEntry, FileGroup, entry_payload, group_text, IsBundleEntry, IsSize, AreShort, delta_limit, path_limit, Place, InGroup, AtPath, framed_end, framing_from, framing_fault, length_limit, place_after_empty, entry_of, is_short_at}
use Rattle.hg_model.specs.Revision.{Group, Changesets, Manifests, FilesAt}
use Rattle.hg_model.proofs.ChunkLemmas.{length-chunk}
use Rattle.hg_model.proofs.FramingLemmas.{framing_at, framing_refused, framing_empty, framing_item}
use Rattle.hg_model.proofs.ListingLemmas.{group_text-nil, group_text-cons, files_text, files_text-cons}
use Rattle.hg_model.proofs.TakenLemmas.{chunk_begins}
use Rattle.hg_model.proofs.BundleEntryLemmas.{entry_payload-of, entry_of-is}

-- entries, and file groups, that a bundle within the limits may have
pub record AreEntries (es : List BundleEntry) : Type 0 where
  pub are : Each (λ e. IsBundleEntry e × IsSize (entry_payload e)) es
  pub short : AreShort es

pub record AreFiles (fs : List FileGroup) : Type 0 where
  pub are : Each (λ f. (f.path ≢ []) × IsSize f.path × Each (λ e. IsBundleEntry e × IsSize (entry_payload e)) f.entries) fs
  pub short : Each (λ f. (field_of f.path ≤ path_limit) × AreShort f.entries) fs

-- what is still to come of a bundle: entries of the group that is read, manifests where it is the changesets, and file groups
pub record Tail : Type 0 where
  pub entries : List BundleEntry
  pub manifests : List BundleEntry
  pub files : List FileGroup

abbrev pub behind_group : Group → List BundleEntry → List FileGroup → Bytes
behind_group Changesets manifests files = group_text manifests ++ files_text files
behind_group Manifests manifests files = files_text files
behind_group (FilesAt path) manifests files = files_text files

abbrev pub tail_text : Place → Tail → Bytes
tail_text (InGroup g) t = group_text t.entries ++ behind_group g t.manifests t.files
tail_text AtPath t = files_text t.files

-- the bytes at an offset, where something stands at a place, are the rest of a bundle within the limits
pub record IsTail (place : Place) (at : ℕ) (bytes : Bytes) (t : Tail) : Type 0 where
  pub text : bytes ≡ tail_text place t
  pub entries : AreEntries t.entries
  pub manifests : AreEntries t.manifests
  pub files : AreFiles t.files
  pub within : at + length bytes ≤ input_limit

-- what a framing without a fault shows, if it takes fewer chunks than this
abbrev pub Backs : ℕ → Type 0
Backs more = (place : Place) (first : Bool) (at : ℕ) (bytes : Bytes) → IsBytes bytes → length bytes < more → framing_fault (framing_from more place first at bytes) ≡ None
    → (t : Tail) × IsTail place at bytes t

no_entries : AreEntries []
no_entries = record { are = tt; short = tt }

no_files : AreFiles []
no_files = record { are = tt; short = tt }

no_trailing : (at : ℕ) (rest : Bytes) → framing_fault (framed_end (trailing_fault at rest)) ≡ None → rest ≡ []
no_trailing at [] sound = refl
no_trailing at (byte ∷ bytes) sound = absurd cc

-- the offset behind a chunk, and the rest, are within the input
longer_within : (at : ℕ) (payload rest : Bytes) → (at + (length payload + 4)) + length rest ≤ input_limit → at + length (chunk_text payload ++ rest) ≤ input_limit
longer_within at payload rest within = omega (arith, length-append (chunk_text payload) rest, length-chunk payload)

-- the empty chunk that ends a group stands before what follows the group
end_text : (rest behind : Bytes) → rest ≡ behind → chunk_text [] ++ rest ≡ group_text [] ++ behind
end_text rest behind same = ap (λ (l : Bytes). chunk_text [] ++ l) same ∙ ap (λ (l : Bytes). l ++ behind) (sym group_text-nil)

no_refusal : (why : Refusal) → framing_fault (framed_end (Some why)) ≡ None → ⊥
no_refusal why sound = cc

-- an empty chunk
empty_back : (more : ℕ) (place : Place) (at : ℕ) (rest : Bytes) → Backs more → IsBytes rest → length rest < more → at + 4 ≤ input_limit
    → framing_fault (framing_at more true (at + 4) (place_after_empty place) rest) ≡ None → (t : Tail) × IsTail place at (chunk_text [] ++ rest) t
empty_back more (InGroup Changesets) at rest ih are enough fits sound =
    let back = ih (InGroup Manifests) true (at + 4) rest are enough sound in (
      record { entries = []; manifests = back.0.entries; files = back.0.files },
      record {
        text = end_text rest _ back.1.text;
        entries = no_entries;
        manifests = back.1.entries;
        files = back.1.files;
        within = longer_within at [] rest back.1.within;
      },
    )
empty_back more (InGroup Manifests) at rest ih are enough fits sound =
    let back = ih AtPath true (at + 4) rest are enough sound in (
      record { entries = []; manifests = []; files = back.0.files },
      record {
        text = end_text rest _ back.1.text;
        entries = no_entries;
        manifests = no_entries;
        files = back.1.files;
        within = longer_within at [] rest back.1.within;
      },
    )
empty_back more (InGroup (FilesAt path)) at rest ih are enough fits sound =
    let back = ih AtPath true (at + 4) rest are enough sound in (
      record { entries = []; manifests = []; files = back.0.files },
      record {
        text = end_text rest _ back.1.text;
        entries = no_entries;
        manifests = no_entries;
        files = back.1.files;
        within = longer_within at [] rest back.1.within;
      },
    )
empty_back more AtPath at rest ih are enough fits sound =
    let none = no_trailing (at + 4) rest sound in (
      record { entries = []; manifests = []; files = [] },
      record {
        text = ap (λ (l : Bytes). chunk_text [] ++ l) none ∙ append-nil (chunk_text []);
        entries = no_entries;
        manifests = no_entries;
        files = no_files;
        within = omega (arith, fits, length-append (chunk_text []) rest, length-chunk [], ap length none);
      },
    )

-- a framing without a fault behind an item
item_sound : (is_bad : Bool) (why : Refusal) (later bad : Option Refusal) → or_else (if is_bad then Some why else later) bad ≡ None → (is_bad ≡ false) × (or_else later bad ≡ None)
item_sound true why later bad sound = absurd cc
item_sound false why later bad sound = (refl, sound)

is_long : (g : Group) (payload : Bytes) → is_short_at (InGroup g) payload ≡ false → 80 ≤ length payload
is_long g payload long = grind (arith, nat_tests)

entry_text : (payload rest : Bytes) (es : List BundleEntry) (behind : Bytes) → rest ≡ group_text es ++ behind → chunk_text payload ++ rest ≡ group_text (entry_of payload ∷ es) ++ behind
entry_text payload rest es behind same =
    ap (λ (l : Bytes). chunk_text payload ++ l) same
    ∙ ap (λ (l : Bytes). chunk_text l ++ (group_text es ++ behind)) (sym (entry_payload-of payload))
    ∙ sym (group_text-cons (entry_of payload) es behind)

-- an entry
entry_back : (more : ℕ) (g : Group) (at : ℕ) (payload rest : Bytes) → Backs more → IsBytes rest → length rest < more → field_of payload ≤ delta_limit → 80 ≤ length payload
    → framing_fault (framing_from more (InGroup g) false (at + (length payload + 4)) rest) ≡ None → (t : Tail) × IsTail (InGroup g) at (chunk_text payload ++ rest) t
entry_back more g at payload rest ih are enough fits long sound =
    let back = ih (InGroup g) false (at + (length payload + 4)) rest are enough sound in
    let entry = entry_of payload in
    let same : field_of (entry_payload entry) ≤ delta_limit = rw (entry_payload-of payload) fits in (
      record { entries = entry ∷ back.0.entries; manifests = back.0.manifests; files = back.0.files },
      record {
        text = entry_text payload rest back.0.entries _ back.1.text;
        entries = record { are = ((entry_of-is payload long, omega (arith, same)), back.1.entries.are); short = (same, back.1.entries.short) };
        manifests = back.1.manifests;
        files = back.1.files;
        within = longer_within at payload rest back.1.within;
      },
    )

-- a path
path_back : (more : ℕ) (at : ℕ) (path rest : Bytes) → Backs more → IsBytes rest → length rest < more → field_of path ≤ path_limit → path ≢ []
    → framing_fault (framing_from more (InGroup (FilesAt path)) true (at + (length path + 4)) rest) ≡ None → (t : Tail) × IsTail AtPath at (chunk_text path ++ rest) t
path_back more at path rest ih are enough fits some sound =
    let back = ih (InGroup (FilesAt path)) true (at + (length path + 4)) rest are enough sound in
    let group : FileGroup = record { path = path; entries = back.0.entries } in (
      record { entries = []; manifests = []; files = group ∷ back.0.files },
      record {
        text = ap (λ (l : Bytes). chunk_text path ++ l) back.1.text ∙ sym (files_text-cons group back.0.files);
        entries = no_entries;
        manifests = no_entries;
        files = record { are = ((some, omega (arith, fits), back.1.entries.are), back.1.files.are); short = ((fits, back.1.entries.short), back.1.files.short) };
        within = longer_within at path rest back.1.within;
      },
    )

-- a chunk
chunk_back : (more : ℕ) (place : Place) (first : Bool) (at : ℕ) (payload rest : Bytes) → Backs more → IsBytes rest → length rest < more
    → chunk_fault (length_limit place) at (chunk_text payload ++ rest) ≡ None → field_of payload ≤ length_limit place → at + (length payload + 4) ≤ input_limit
    → framing_fault (framing_from (suc more) place first at (chunk_text payload ++ rest)) ≡ None → (t : Tail) × IsTail place at (chunk_text payload ++ rest) t
chunk_back more place first at [] rest ih are enough fits field within sound =
    empty_back more place at rest ih are enough within (sym (ap framing_fault (framing_empty more place first at rest fits)) ∙ sound)
chunk_back more (InGroup g) first at (byte ∷ bytes) rest ih are enough fits field within sound =
    let next = framing_item more (InGroup g) first at byte bytes rest (omega (arith, field)) fits in
    let behind = item_sound (is_short_at (InGroup g) (byte ∷ bytes)) _ _ _ (sym (ap framing_fault next) ∙ sound) in
    entry_back more g at (byte ∷ bytes) rest ih are enough field (is_long g (byte ∷ bytes) behind.0) behind.1
chunk_back more AtPath first at (byte ∷ bytes) rest ih are enough fits field within sound =
    let next = framing_item more AtPath first at byte bytes rest (omega (arith, field)) fits in
    path_back more at (byte ∷ bytes) rest ih are enough field (λ e. cc) (sym (ap framing_fault next) ∙ sound)

-- the next chunk is refused, or there is one
next_back : (more : ℕ) (place : Place) (first : Bool) (at : ℕ) (bytes : Bytes) (why : Option Refusal) → Backs more → IsBytes bytes → length bytes < suc more → chunk_fault (length_limit place) at bytes ≡ why
    → framing_fault (framing_from (suc more) place first at bytes) ≡ None → (t : Tail) × IsTail place at bytes t
next_back more place first at bytes (Some why) ih are enough judged sound = absurd (no_refusal why (sym (ap framing_fault (framing_refused more place first at bytes why judged)) ∙ sound))
next_back more place first at bytes None ih are enough judged sound =
    let chunk = chunk_begins (length_limit place) at bytes are judged in
    let payload = first_payload bytes in
    let rest = drop (length payload + 4) bytes in
    let size : length bytes ≡ (length payload + 4) + length rest = ap length chunk.text ∙ length-append (chunk_text payload) rest ∙ ap (λ (n : ℕ). n + length rest) (length-chunk payload) in
    subst (λ (l : Bytes). (t : Tail) × IsTail place at l t) (sym chunk.text)
    (chunk_back more place first at payload rest ih (IsBytes-drop (length payload + 4) bytes are) (omega (arith, size))
    (subst (λ (l : Bytes). chunk_fault (length_limit place) at l ≡ None) chunk.text judged) chunk.field chunk.within
    (subst (λ (l : Bytes). framing_fault (framing_from (suc more) place first at l) ≡ None) chunk.text sound))

pub backs : (more : ℕ) → Backs more
backs zero place first at bytes are enough sound = absurd (omega arith)
backs (suc more) place first at bytes are enough sound = next_back more place first at bytes (chunk_fault (length_limit place) at bytes) (backs more) are enough refl sound
