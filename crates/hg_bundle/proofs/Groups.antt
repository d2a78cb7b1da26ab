-- A bundle that was read: what each of its groups brings.
use Rattle.std.proofs.Common.{◌≡◌, ◌≢◌, ℕ, zero, suc, ◌+◌, ◌<◌, ◌≤◌, ◌^◌, Bool, true, false, not, List, [], ◌∷◌, ◌++◌, length, map, Option, None, Some, Ok, IfSome, refl, sym, ap, ◌∙◌, subst, arith, append-nil, length-append}
use Rattle.std.proofs.lemmas.List.{map-append}
use Rattle.std.specs.Int.{bytes_high_first}
use Rattle.text_model.specs.Lists.{Each}
use Rattle.text_model.specs.Text.{Bytes, IsBytes}
use Rattle.text_model.specs.Fault.{Refusal, input_limit}
use Rattle.text_model.proofs.ByteLemmas.{IsBytes-at, IsBytes-front, IsBytes-rest}
use Rattle.text_model.proofs.Options.{none_some}
use Rattle.hg_model.specs.Chunk.{field_of, chunk_text, magic_text, chunk_fault, magic_fault}
use Rattle.hg_model.specs.Delta.{Patches}
use Rattle.hg_model.specs.Bundle.{Place, InGroup, AtPath, Framing, framed_end, put_item, framing_from, bundle_framing, listing_fault, bundle_text, BundleEntry, FileGroup, Bundle, entry_payload, group_text, IsBundleEntry, IsSize, IsBundle, IsWithinLimits, AreShort, delta_limit, path_limit, length_limit, place_after, place_after_empty, is_path}
use Rattle.hg_model.specs.Revision.{Group, Changesets, Manifests, FilesAt, Revision, knows, known_after, known_after_all}
use Rattle.hg_model.specs.Reading.{Arrival, base_of, AreTextsFrom, AreTextsOf, revision_by, bundle_reading}
use Rattle.hg_model.proofs.BundleEntryLemmas.{length-payload, entry_of-payload}
use Rattle.hg_model.proofs.ChunkLemmas.{length-chunk}
use Rattle.hg_model.proofs.DeltaLemmas.{Patches-delta_reading}
use Rattle.hg_model.proofs.FramingLemmas.{framing_at, framing_empty, framing_item, framing_behind_magic}
use Rattle.hg_model.proofs.ListingLemmas.{group_text-cons, group_text-nil, files_text, files_text-cons, bundle_text-parts}
use Rattle.hg_model.proofs.BundleLemmas.{listed_bundle}
use Rattle.hg_model.proofs.TakenLemmas.{chunk_none}
use Rattle.hg_bundle.specs.declared.arrival.Arrival as listed
use Rattle.hg_bundle.specs.Arrivals.{Reads, arrival_of, revisions_of, refused}
use Rattle.hg_bundle.specs.Brought.{revisions_with, AreOfGroup, AreOfFiles, AreListed, BringsBundle}
use Rattle.hg_bundle.proofs.Reading.{arrivals_of, ends_Ok, ends_Err, reading_is, magic_refused}
use Rattle.hg_bundle.proofs.Taken.{IsTaken, Brings, entry_brings, path_brings, err_ok, same_ok, all_taken}

-- ---- the bytes of an entry

delta_bytes : (e : BundleEntry) (rest : Bytes) → IsBytes (chunk_text (entry_payload e) ++ rest) → IsBytes e.delta
unfolding chunk_text
delta_bytes e rest are =
    IsBytes-rest e.link _ (IsBytes-rest e.q _ (IsBytes-rest e.p _ (IsBytes-rest e.node _ (IsBytes-rest (bytes_high_first 4 (field_of (entry_payload e))) (entry_payload e) (IsBytes-front (chunk_text (entry_payload e)) rest are)))))

-- ---- one chunk

pub framing_payload : (n : ℕ) (place : Place) (first : Bool) (at : ℕ) (payload rest : Bytes) → 0 < length payload → field_of payload < 2 ^ 31
    → chunk_fault (length_limit place) at (chunk_text payload ++ rest) ≡ None
    → framing_from (suc n) place first at (chunk_text payload ++ rest)
    ≡ put_item (record { place = place; first = first; at = at; payload = payload }) (framing_from n (place_after place payload) (is_path place) (at + (length payload + 4)) rest)
framing_payload n place first at [] rest some small fits = absurd (omega arith)
framing_payload n place first at (byte ∷ bytes) rest some small fits = framing_item n place first at byte bytes rest small fits

-- ---- a group

-- the texts of a group, or of the rest of one behind an entry with a text
abbrev pub AreTextsAt : List Revision → Group → Bool → Bytes → List BundleEntry → List Bytes → Type 0
AreTextsAt known group true previous entries texts = AreTextsOf known group entries texts
AreTextsAt known group false previous entries texts = AreTextsFrom previous entries texts

texts_end : (known : List Revision) (group : Group) (first : Bool) (previous : Bytes) → AreTextsAt known group first previous [] []
texts_end known group true previous = refl
texts_end known group false previous = tt

texts_go_on : (known : List Revision) (group : Group) (first : Bool) (previous base text : Bytes) (e : BundleEntry) (es : List BundleEntry) (ts : List Bytes)
    → base_of known group first previous e.p ≡ Some base → Patches base e.delta text → AreTextsFrom text es ts → AreTextsAt known group first previous (e ∷ es) (text ∷ ts)
texts_go_on known group true previous base text e es ts is patches later = (base, is, (patches, later))
texts_go_on known group false previous base text e es ts is patches later = (subst (λ (b : Bytes). Patches b e.delta text) (same is) patches, later)
  where
    same : Some previous ≡ Some base → base ≡ previous
    same h = cc

patches_by : (known : List Revision) (previous : Bytes) (sum : ℕ) (group : Group) (first : Bool) (e : BundleEntry) (text : Bytes) (t : IsTaken known previous sum group first e text)
    → IsBytes e.delta → Patches t.base e.delta text
patches_by known previous sum group first e text t are =
    subst (λ (x : Bytes). Patches t.base e.delta x) (sym t.makes) (Patches-delta_reading t.base e.delta t.hunks (IsBytes-at e.delta are) t.reads).0

-- Arrivals are those of a group's entries, and the others come from what stands behind it.
pub record GroupBrings (known : List Revision) (group : Group) (first : Bool) (previous : Bytes) (entries : List BundleEntry) (next : Option Place) (rest : Bytes) (arrivals : List Arrival) : Type 0 where
  pub texts : List Bytes
  pub made : AreTextsAt known group first previous entries texts
  pub came : List Arrival
  pub later : List Arrival
  pub all : arrivals ≡ came ++ later
  pub are : revisions_of came ≡ revisions_with group entries texts
  pub more : ℕ
  pub at : ℕ
  pub before : Bytes
  pub sum : ℕ
  pub enough : length rest ≤ more
  pub within : at + length rest ≤ input_limit
  pub goes : arrivals_of (known_after_all known (revisions_of came)) before sum (framing_at (suc more) true at next rest) ≡ Ok later

-- behind the empty chunk that ends a group
group_ends : (fuel : ℕ) (known : List Revision) (previous : Bytes) (sum : ℕ) (group : Group) (first : Bool) (at : ℕ) (rest : Bytes) (arrivals : List Arrival)
    → length (chunk_text [] ++ rest) ≤ fuel → at + length (chunk_text [] ++ rest) ≤ input_limit
    → arrivals_of known previous sum (framing_from (suc fuel) (InGroup group) first at (chunk_text [] ++ rest)) ≡ Ok arrivals
    → GroupBrings known group first previous [] (place_after_empty (InGroup group)) rest arrivals
group_ends zero known previous sum group first at rest arrivals enough within ok = absurd (omega (arith, length-append (chunk_text []) rest, length-chunk []))
group_ends (suc more) known previous sum group first at rest arrivals enough within ok =
    let size = length-append (chunk_text []) rest in
    let next = framing_empty (suc more) (InGroup group) first at rest (chunk_none delta_limit at [] rest (omega arith) (omega arith) within) in record {
      texts = [];
      made = texts_end known group first previous;
      came = [];
      later = arrivals;
      all = refl;
      are = refl;
      more = more;
      at = at + 4;
      before = previous;
      sum = sum;
      enough = omega (arith, size, length-chunk []);
      within = omega (arith, size, length-chunk []);
      goes = sym (ap (arrivals_of known previous sum) next) ∙ ok;
    }

-- an entry before the rest of its group
entry_before : (known : List Revision) (group : Group) (first : Bool) (previous : Bytes) (sum at : ℕ) (e : BundleEntry) (es : List BundleEntry) (next : Option Place) (rest : Bytes) (f : Framing)
    (arrivals : List Arrival) → IsBytes e.delta → (b : Brings known previous sum group first at e f arrivals)
    → GroupBrings (known_after known (revision_by group e b.text)) group false b.text es next rest b.later
    → GroupBrings known group first previous (e ∷ es) next rest arrivals
entry_before known group first previous sum at e es next rest f arrivals bytes b g =
    let r = revision_by group e b.text in
    let a : Arrival = record { revision = r; at = at; fresh = not (knows known group e.node) } in record {
      texts = b.text ∷ g.texts;
      made = texts_go_on known group first previous b.is.base b.text e es g.texts b.is.is_base (patches_by known previous sum group first e b.text b.is bytes) g.made;
      came = a ∷ g.came;
      later = g.later;
      all = b.all ∙ ap (λ (l : List Arrival). a ∷ l) g.all;
      are = ap (λ (l : List Revision). r ∷ l) g.are;
      more = g.more;
      at = g.at;
      before = g.before;
      sum = g.sum;
      enough = g.enough;
      within = g.within;
      goes = g.goes;
    }

group_brings : (fuel : ℕ) (known : List Revision) (previous : Bytes) (sum : ℕ) (group : Group) (first : Bool) (at : ℕ) (es : List BundleEntry) (rest : Bytes) (arrivals : List Arrival)
    → Each (λ e. IsBundleEntry e × IsSize (entry_payload e)) es → AreShort es → IsBytes (group_text es ++ rest)
    → length (group_text es ++ rest) ≤ fuel → at + length (group_text es ++ rest) ≤ input_limit
    → arrivals_of known previous sum (framing_from (suc fuel) (InGroup group) first at (group_text es ++ rest)) ≡ Ok arrivals
    → GroupBrings known group first previous es (place_after_empty (InGroup group)) rest arrivals
group_brings fuel known previous sum group first at [] rest arrivals are short bytes enough within ok =
    let text : group_text [] ++ rest ≡ chunk_text [] ++ rest = ap (λ (l : Bytes). l ++ rest) group_text-nil in
    group_ends fuel known previous sum group first at rest arrivals (rw text at enough) (rw text at within) (rw text at ok)
group_brings zero known previous sum group first at (e ∷ es) rest arrivals are short bytes enough within ok =
    absurd (omega (arith, ap length (group_text-cons e es rest), length-append (chunk_text (entry_payload e)) (group_text es ++ rest), length-chunk (entry_payload e)))
group_brings (suc fuel) known previous sum group first at (e ∷ es) rest arrivals are short bytes enough within ok =
    let text = group_text-cons e es rest in
    let tail = group_text es ++ rest in
    let payload = entry_payload e in
    let size = length-append (chunk_text payload) tail in
    let chunk = length-chunk payload in
    let longer = ap length text in
    let inside : at + length (chunk_text payload ++ tail) ≤ input_limit = omega (arith, longer, within) in
    let behind = framing_from (suc fuel) (InGroup group) false (at + (length payload + 4)) tail in
    let framed = framing_payload (suc fuel) (InGroup group) first at payload tail (omega (arith, length-payload e are.0.0)) (omega (arith, short.0)) (chunk_none delta_limit at payload tail short.0 (omega arith) inside) in
    let all = subst (λ (l : Bytes). IsBytes l) text bytes in
    let item = sym (ap (λ (l : Bytes). arrivals_of known previous sum (framing_from (suc (suc fuel)) (InGroup group) first at l)) text ∙ ap (arrivals_of known previous sum) framed) ∙ ok in
    let b = subst (λ (x : BundleEntry). Brings known previous sum group first at x behind arrivals) (entry_of-payload e are.0.0)
    (entry_brings known previous sum group first at payload behind arrivals item).1 in
    entry_before known group first previous sum at e es (place_after_empty (InGroup group)) rest behind arrivals (delta_bytes e tail all) b
    (group_brings fuel _ _ _ group false (at + (length payload + 4)) es rest b.later are.1 short.1 (IsBytes-rest (chunk_text payload) tail all)
    (omega (arith, longer, size, chunk, enough)) (omega (arith, longer, size, chunk, within)) b.goes)

-- ---- the groups of files

no_more : (known : List Revision) (previous : Bytes) (sum : ℕ) (arrivals : List Arrival) (o : Option Refusal) → arrivals_of known previous sum (framed_end o) ≡ Ok arrivals → arrivals ≡ []
no_more known previous sum arrivals None ok = sym (same_ok [] arrivals (sym (ends_Ok known previous sum) ∙ ok))
no_more known previous sum arrivals (Some why) ok = absurd (err_ok (sym (ends_Err known previous sum why) ∙ ok))

files_bring : (fuel : ℕ) (known : List Revision) (previous : Bytes) (sum at : ℕ) (fs : List FileGroup) (arrivals : List Arrival)
    → Each (λ f. (f.path ≢ []) × IsSize f.path × Each (λ e. IsBundleEntry e × IsSize (entry_payload e)) f.entries) fs
    → Each (λ f. (field_of f.path ≤ path_limit) × AreShort f.entries) fs → IsBytes (files_text fs)
    → length (files_text fs) ≤ fuel → at + length (files_text fs) ≤ input_limit
    → arrivals_of known previous sum (framing_from (suc fuel) AtPath true at (files_text fs)) ≡ Ok arrivals
    → AreOfFiles known fs (revisions_of arrivals)
files_bring fuel known previous sum at [] arrivals are short bytes enough within ok =
    let text : files_text [] ≡ chunk_text [] ++ [] = sym (append-nil (chunk_text [])) in
    let next = framing_empty fuel AtPath true at [] (chunk_none path_limit at [] [] (omega arith) (omega arith) (rw text at within)) in
    ap revisions_of (no_more known previous sum arrivals _ (sym (ap (λ (l : Bytes). arrivals_of known previous sum (framing_from (suc fuel) AtPath true at l)) text ∙ ap (arrivals_of known previous sum) next) ∙ ok))
files_bring zero known previous sum at (f ∷ fs) arrivals are short bytes enough within ok =
    absurd (omega (arith, ap length (files_text-cons f fs), length-append (chunk_text f.path) (group_text f.entries ++ files_text fs), length-chunk f.path))
files_bring (suc fuel) known previous sum at (f ∷ fs) arrivals are short bytes enough within ok =
    let text = files_text-cons f fs in
    let tail = group_text f.entries ++ files_text fs in
    let size = length-append (chunk_text f.path) tail in
    let chunk = length-chunk f.path in
    let longer = ap length text in
    let inside : at + length (chunk_text f.path ++ tail) ≤ input_limit = omega (arith, longer, within) in
    let behind = framing_from (suc fuel) (InGroup (FilesAt f.path)) true (at + (length f.path + 4)) tail in
    let framed = framing_payload (suc fuel) AtPath true at f.path tail (some f.path are.0.0) (omega (arith, short.0.0)) (chunk_none path_limit at f.path tail short.0.0 (omega arith) inside) in
    let all = subst (λ (l : Bytes). IsBytes l) text bytes in
    let item = sym (ap (λ (l : Bytes). arrivals_of known previous sum (framing_from (suc (suc fuel)) AtPath true at l)) text ∙ ap (arrivals_of known previous sum) framed) ∙ ok in
    let path = path_brings known previous sum true at f.path behind arrivals item in
    let tail_bytes = IsBytes-rest (chunk_text f.path) tail all in
    let g = group_brings fuel known [] sum (FilesAt f.path) true (at + (length f.path + 4)) f.entries (files_text fs) arrivals are.0.2 short.0.1 tail_bytes
    (omega (arith, longer, size, chunk, enough)) (omega (arith, longer, size, chunk, within)) path.1 in (
      revisions_of g.came,
      revisions_of g.later,
      ap revisions_of g.all ∙ map-append (λ (a : Arrival). a.revision) g.came g.later,
      path.0,
      record { texts = g.texts; made = g.made; are = g.are },
      files_bring g.more _ g.before g.sum g.at fs g.later are.1 short.1 (IsBytes-rest (group_text f.entries) (files_text fs) tail_bytes) g.enough g.within g.goes,
    )
  where
    some : (path : Bytes) → path ≢ [] → 0 < length path
    some [] is = absurd (is refl)
    some (byte ∷ bytes) is = omega arith

-- ---- a whole bundle

behind_magic : (known : List Revision) (bytes rest : Bytes) (arrivals : List Arrival) → bytes ≡ magic_text ++ rest → bundle_reading known bytes ≡ Ok arrivals
    → arrivals_of known [] 0 (framing_from (suc (suc (suc (suc (suc (suc (length rest))))))) (InGroup Changesets) true 6 rest) ≡ Ok arrivals
behind_magic known bytes rest arrivals text ok = by (magic_fault bytes) refl
  where
    refused_ok : (why : Refusal) → refused (bundle_reading known bytes) ≡ Some why → ⊥
    refused_ok why is = none_some (sym (ap refused ok) ∙ is)

    by : (why : Option Refusal) → magic_fault bytes ≡ why
        → arrivals_of known [] 0 (framing_from (suc (suc (suc (suc (suc (suc (length rest))))))) (InGroup Changesets) true 6 rest) ≡ Ok arrivals
    by (Some why) is = absurd (refused_ok why (magic_refused known bytes why is))
    by None is =
        let all : bundle_framing bytes ≡ framing_from (suc (suc (suc (suc (suc (suc (length rest))))))) (InGroup Changesets) true 6 rest =
        ap bundle_framing text ∙ framing_behind_magic rest (subst (λ (l : Bytes). magic_fault l ≡ None) text is) in
        sym (reading_is known bytes ∙ ap (arrivals_of known [] 0) all) ∙ ok

-- what the groups of a bundle bring
pub record GroupsBring (known : List Revision) (b : Bundle) (arrivals : List Arrival) : Type 0 where
  pub changesets : List Revision
  pub manifests : List Revision
  pub files : List Revision
  pub all : revisions_of arrivals ≡ changesets ++ (manifests ++ files)
  pub are_changesets : AreOfGroup known Changesets b.changesets changesets
  pub are_manifests : AreOfGroup (known_after_all known changesets) Manifests b.manifests manifests
  pub are_files : AreOfFiles (known_after_all (known_after_all known changesets) manifests) b.files files

groups_bring : (known : List Revision) (b : Bundle) (rest : Bytes) (arrivals : List Arrival) → IsBundle (bundle_text b) b → IsWithinLimits (bundle_text b) b → IsBytes rest
    → rest ≡ group_text b.changesets ++ (group_text b.manifests ++ files_text b.files) → 6 + length rest ≤ input_limit
    → arrivals_of known [] 0 (framing_from (suc (suc (suc (suc (suc (suc (length rest))))))) (InGroup Changesets) true 6 rest) ≡ Ok arrivals
    → GroupsBring known b arrivals
groups_bring known b rest arrivals is within bytes text size ok =
    let behind = group_text b.manifests ++ files_text b.files in
    let longer = ap length text in
    let all = subst (λ (l : Bytes). IsBytes l) text bytes in
    let fuel : ℕ = suc (suc (suc (suc (suc (length rest))))) in
    let start = sym (ap (λ (l : Bytes). arrivals_of known [] 0 (framing_from (suc fuel) (InGroup Changesets) true 6 l)) text) ∙ ok in
    let changesets = group_brings fuel known [] 0 Changesets true 6 b.changesets behind arrivals is.changesets within.changesets all (omega (arith, longer)) (omega (arith, longer, size)) start in
    let later = IsBytes-rest (group_text b.changesets) behind all in
    let manifests = group_brings changesets.more _ changesets.before changesets.sum Manifests true changesets.at b.manifests (files_text b.files) changesets.later is.manifests within.manifests later
    changesets.enough changesets.within changesets.goes in
    let files = files_bring manifests.more _ manifests.before manifests.sum manifests.at b.files manifests.later is.files within.files (IsBytes-rest (group_text b.manifests) (files_text b.files) later)
    manifests.enough manifests.within manifests.goes in record {
      changesets = revisions_of changesets.came;
      manifests = revisions_of manifests.came;
      files = revisions_of manifests.later;
      all = ap revisions_of (changesets.all ∙ ap (λ (l : List Arrival). changesets.came ++ l) manifests.all)
          ∙ map-append (λ (a : Arrival). a.revision) changesets.came (manifests.came ++ manifests.later)
          ∙ ap (λ (l : List Revision). revisions_of changesets.came ++ l) (map-append (λ (a : Arrival). a.revision) manifests.came manifests.later);
      are_changesets = record { texts = changesets.texts; made = changesets.made; are = changesets.are };
      are_manifests = record { texts = manifests.texts; made = manifests.made; are = manifests.are };
      are_files = files;
    }

-- what was read is what a bundle brings
pub brings_bundle : (known : List Revision) (bytes : Bytes) (arrivals : List Arrival) (store : List Revision) (list : List listed.Arrival) → IsBytes bytes
    → bundle_reading known bytes ≡ Ok arrivals → list ≡ map arrival_of arrivals → store ≡ known_after_all known (revisions_of arrivals) → BringsBundle known bytes store list
brings_bundle known bytes arrivals store list are ok is_list added =
    let f = bundle_framing bytes in
    let every = all_taken known [] 0 f.items f.bad arrivals (omega arith) (sym (reading_is known bytes) ∙ ok) in
    let sound : listing_fault bytes ≡ None = rw every.long every.sound in
    let b = listed_bundle bytes are sound in
    let text = b.1.spells in
    let rest = group_text (b.0).changesets ++ (group_text (b.0).manifests ++ files_text (b.0).files) in
    let whole : bytes ≡ magic_text ++ rest = text ∙ bundle_text-parts b.0 in
    let g = groups_bring known b.0 rest arrivals (subst (λ (l : Bytes). IsBundle l b.0) text b.1) (subst (λ (l : Bytes). IsWithinLimits l b.0) text b.2)
    (IsBytes-rest magic_text rest (subst (λ (l : Bytes). IsBytes l) whole are)) refl (omega (arith, ap length whole, b.2.input)) (behind_magic known bytes rest arrivals whole ok) in record {
      bundle = b.0;
      is = b.1;
      within = b.2;
      revisions = revisions_of arrivals;
      are = record {
        changesets = g.changesets;
        manifests = g.manifests;
        files = g.files;
        all = g.all;
        are_changesets = g.are_changesets;
        are_manifests = g.are_manifests;
        are_files = g.are_files;
        additions = every.additions;
      };
      added = added;
      listed = subst (λ (l : List listed.Arrival). AreListed known (revisions_of arrivals) l) (sym is_list) every.listed;
    }

-- the same where the source tells its bytes
pub brings_told : (known : List Revision) (old : Option Bytes) (store : List Revision) (list : List listed.Arrival) → IfSome old IsBytes → IfSome old (λ bytes. Reads known bytes (Ok (store, list)))
    → IfSome old (λ bytes. BringsBundle known bytes store list)
brings_told known None store list are reads = tt
brings_told known (Some bytes) store list are reads = brings_bundle known bytes reads.0 store list are reads.1 reads.2 reads.3
