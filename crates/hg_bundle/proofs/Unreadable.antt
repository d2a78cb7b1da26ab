-- What a bundle brings is read, so bytes that are refused bring nothing.
use Rattle.std.proofs.Common.{◌≡◌, ◌≢◌, ℕ, zero, suc, ◌+◌, ◌<◌, ◌≤◌, Bool, true, false, not, List, [], ◌∷◌, ◌++◌, length, Option, None, Some, Result, Ok, Err, IfSome, IfErr, refl, sym, ap, ◌∙◌, subst, arith, append-nil, length-append}
use Rattle.std.specs.Prelude.{option_map}
use Rattle.std.proofs.lemmas.Bool.Decides.{nat_tests}
use Rattle.text_model.specs.Lists.{Each}
use Rattle.text_model.specs.Text.{Bytes}
use Rattle.text_model.specs.Fault.{Refusal, input_limit}
use Rattle.text_model.proofs.Options.{none_some}
use Rattle.hg_model.specs.Chunk.{field_of, chunk_text, magic_text, magic_fault}
use Rattle.hg_model.specs.Delta.{Patches}
use Rattle.hg_model.specs.Bundle.{Place, InGroup, AtPath, Framing, put_item, framing_from, bundle_framing, bundle_text, BundleEntry, FileGroup, Bundle, entry_payload, entry_of, group_text, IsBundleEntry, IsSize, IsBundle, IsWithinLimits, AreShort, delta_limit, path_limit, length_limit, is_short_at, place_after_empty}
use Rattle.hg_model.specs.Revision.{Group, Changesets, Manifests, FilesAt, Revision, knows, known_after, addition_fault, known_after_all}
use Rattle.hg_model.specs.Reading.{Arrival, Is, put_arrival, base_of, AreTextsFrom, AreTextsOf, entry_fault, entry_text, text_by, revision_by, sum_limit, text_limit, with_place, bundle_reading}
use Rattle.hg_model.proofs.BundleEntryLemmas.{length-payload, entry_of-payload}
use Rattle.hg_model.proofs.ChunkLemmas.{length-chunk}
use Rattle.hg_model.proofs.DeltaLemmas.{delta_reading-Patches}
use Rattle.hg_model.proofs.FramingLemmas.{framing_at, framing_empty, framing_behind_magic}
use Rattle.hg_model.proofs.FramingLemmas as framing
use Rattle.hg_model.proofs.ListingLemmas.{group_text-cons, group_text-nil, files_text, files_text-cons, bundle_text-parts, bundle_listed}
use Rattle.hg_model.proofs.TakenLemmas.{chunk_none}
use Rattle.hg_bundle.specs.declared.fault.BundleFault.{BundleFault}
use Rattle.hg_bundle.specs.declared.fault.BundleFault.TheVariants.{Refused, Read, Memory}
use Rattle.hg_bundle.specs.Faults.{IsFault}
use Rattle.hg_bundle.specs.declared.arrival.Arrival as listed
use Rattle.hg_bundle.specs.Arrivals.{Reads, revisions_of, refused}
use Rattle.hg_bundle.specs.Brought.{revisions_with, AreOfFiles, AreAdditions, AreOfBundle, IsUnreadable, TellsUnreadable}
use Rattle.hg_bundle.proofs.EntryLemmas.{within_limits}
use Rattle.hg_bundle.proofs.Progress.{is_small}
use Rattle.hg_bundle.proofs.Reading.{arrivals_of, ends_Ok, reading_is, entry_item, path_item}
use Rattle.hg_bundle.proofs.Groups.{AreTextsAt, framing_payload}

-- nothing is refused, and these revisions arrive
abbrev IsRead : List Revision → Bytes → ℕ → Framing → List Revision → Type 0
IsRead known previous sum f rs = (arrivals : List Arrival) × (arrivals_of known previous sum f ≡ Ok arrivals) × (revisions_of arrivals ≡ rs)

read_as : (known : List Revision) (previous : Bytes) (sum : ℕ) (f g : Framing) (rs : List Revision) → f ≡ g → IsRead known previous sum g rs → IsRead known previous sum f rs
read_as known previous sum f g rs is read = (read.0, ap (arrivals_of known previous sum) is ∙ read.1, read.2)

within_sum : (known : List Revision) (sum : ℕ) (rs : List Revision) → AreAdditions known sum rs → sum ≤ sum_limit
within_sum known sum [] are = are
within_sum known sum (r ∷ rs) are = omega (arith, within_sum (known_after known r) (sum + length r.text) rs are.2)

long_enough : (g : Group) (payload : Bytes) → 80 ≤ length payload → is_short_at (InGroup g) payload ≡ false
long_enough g payload long = grind (arith, nat_tests)

-- ---- an entry

-- an entry whose revision with a text can be added
pub record CanAdd (known : List Revision) (previous : Bytes) (sum : ℕ) (group : Group) (first : Bool) (e : BundleEntry) (text : Bytes) : Type 0 where
  pub base : Bytes
  pub is_base : base_of known group first previous e.p ≡ Some base
  pub patches : Patches base e.delta text
  pub faultless : addition_fault known (revision_by group e text) ≡ None
  pub short : length text ≤ text_limit group
  pub within : sum + length text ≤ sum_limit

payload_read : (known : List Revision) (previous : Bytes) (sum : ℕ) (group : Group) (first : Bool) (at : ℕ) (payload : Bytes) (f : Framing) (text : Bytes)
    → is_short_at (InGroup group) payload ≡ false → CanAdd known previous sum group first (entry_of payload) text
    → (rs : List Revision) → IsRead (known_after known (revision_by group (entry_of payload) text)) text (sum + length text) f rs
    → IsRead known previous sum (put_item (record { place = InGroup group; first = first; at = at; payload = payload }) f) (revision_by group (entry_of payload) text ∷ rs)
payload_read known previous sum group first at payload f text long can rs later =
    let e = entry_of payload in
    let is_text : entry_text (base_of known group first previous e.p) e.delta ≡ Is text =
    ap (λ (o : Option Bytes). entry_text o e.delta) can.is_base ∙ ap (text_by can.base) (delta_reading-Patches can.base e.delta text can.patches) ∙ ap Is (sym can.patches.result) in
    let none : entry_fault known sum group at e (Is text) ≡ None =
    within_limits known sum group at e text can.within can.short ∙ ap (option_map (with_place e.node at)) can.faultless in
    let a : Arrival = record { revision = revision_by group e text; at = at; fresh = not (knows known group e.node) } in
    (a ∷ later.0, entry_item known previous sum group first at payload f (Is text) is_text long none ∙ ap (put_arrival a) later.1, ap (λ (l : List Revision). revision_by group e text ∷ l) later.2)

entry_read : (fuel : ℕ) (known : List Revision) (previous : Bytes) (sum : ℕ) (group : Group) (first : Bool) (at : ℕ) (e : BundleEntry) (rest text : Bytes) → IsBundleEntry e
    → field_of (entry_payload e) ≤ delta_limit → at + length (chunk_text (entry_payload e) ++ rest) ≤ input_limit → CanAdd known previous sum group first e text
    → (rs : List Revision) → IsRead (known_after known (revision_by group e text)) text (sum + length text) (framing_from fuel (InGroup group) false (at + (length (entry_payload e) + 4)) rest) rs
    → IsRead known previous sum (framing_from (suc fuel) (InGroup group) first at (chunk_text (entry_payload e) ++ rest)) (revision_by group e text ∷ rs)
entry_read fuel known previous sum group first at e rest text is fits within can rs later =
    let payload = entry_payload e in
    let size = length-payload e is in
    let behind = framing_from fuel (InGroup group) false (at + (length payload + 4)) rest in
    let framed = framing_payload fuel (InGroup group) first at payload rest (omega (arith, size)) (omega (arith, fits)) (chunk_none delta_limit at payload rest fits (omega arith) within) in
    let item = subst
    (λ (x : BundleEntry). CanAdd known previous sum group first x text → IsRead (known_after known (revision_by group x text)) text (sum + length text) behind rs
    → IsRead known previous sum (put_item (record { place = InGroup group; first = first; at = at; payload = payload }) behind) (revision_by group x text ∷ rs))
    (entry_of-payload e is) (λ now before. payload_read known previous sum group first at payload behind text (long_enough group payload (omega (arith, size))) now rs before) in
    read_as known previous sum _ _ _ framed (item can later)

-- ---- a group

first_made : (known : List Revision) (group : Group) (first : Bool) (previous : Bytes) (e : BundleEntry) (es : List BundleEntry) (t : Bytes) (ts : List Bytes)
    → AreTextsAt known group first previous (e ∷ es) (t ∷ ts) → (base : Bytes) × (base_of known group first previous e.p ≡ Some base) × Patches base e.delta t × AreTextsFrom t es ts
first_made known group true previous e es t ts made = (made.0, made.1, made.2.0, made.2.1)
first_made known group false previous e es t ts made = (previous, refl, made.0, made.1)

no_texts : (known : List Revision) (group : Group) (first : Bool) (previous : Bytes) (e : BundleEntry) (es : List BundleEntry) → AreTextsAt known group first previous (e ∷ es) [] → ⊥
no_texts known group true previous e es made = made.2
no_texts known group false previous e es made = made

-- what stands behind a group is read
abbrev GoesOn : List Revision → Option Place → Bytes → List Revision → Type 0
GoesOn known next rest later =
    (more at : ℕ) (previous : Bytes) (sum : ℕ) → length rest ≤ more → at + length rest ≤ input_limit → AreAdditions known sum later → IsRead known previous sum (framing_at (suc more) true at next rest) later

group_end_read : (fuel : ℕ) (known : List Revision) (previous : Bytes) (sum : ℕ) (place : Place) (first : Bool) (at : ℕ) (rest : Bytes) (later : List Revision)
    → length (chunk_text [] ++ rest) ≤ fuel → at + length (chunk_text [] ++ rest) ≤ input_limit → AreAdditions known sum later → GoesOn known (place_after_empty place) rest later
    → IsRead known previous sum (framing_from (suc fuel) place first at (chunk_text [] ++ rest)) later
group_end_read zero known previous sum place first at rest later enough within are goes = absurd (omega (arith, length-append (chunk_text []) rest, length-chunk []))
group_end_read (suc more) known previous sum place first at rest later enough within are goes =
    let size = length-append (chunk_text []) rest in
    read_as known previous sum _ _ _ (framing_empty (suc more) place first at rest (chunk_none (length_limit place) at [] rest (omega arith) (is_small place (length_limit place) (omega arith)) within))
    (goes more (at + 4) previous sum (omega (arith, size, length-chunk [])) (omega (arith, size, length-chunk [])) are)

group_read : (fuel : ℕ) (known : List Revision) (previous : Bytes) (sum : ℕ) (group : Group) (first : Bool) (at : ℕ) (es : List BundleEntry) (texts : List Bytes) (rest : Bytes) (later : List Revision)
    → AreTextsAt known group first previous es texts → Each (λ e. IsBundleEntry e × IsSize (entry_payload e)) es → AreShort es
    → length (group_text es ++ rest) ≤ fuel → at + length (group_text es ++ rest) ≤ input_limit
    → AreAdditions known sum (revisions_with group es texts ++ later) → GoesOn (known_after_all known (revisions_with group es texts)) (place_after_empty (InGroup group)) rest later
    → IsRead known previous sum (framing_from (suc fuel) (InGroup group) first at (group_text es ++ rest)) (revisions_with group es texts ++ later)
group_read fuel known previous sum group first at [] texts rest later made are short enough within additions goes =
    let text : group_text [] ++ rest ≡ chunk_text [] ++ rest = ap (λ (l : Bytes). l ++ rest) group_text-nil in
    read_as known previous sum _ _ _ (ap (framing_from (suc fuel) (InGroup group) first at) text)
    (group_end_read fuel known previous sum (InGroup group) first at rest later (rw text at enough) (rw text at within) additions goes)
group_read fuel known previous sum group first at (e ∷ es) [] rest later made are short enough within additions goes = absurd (no_texts known group first previous e es made)
group_read zero known previous sum group first at (e ∷ es) (t ∷ ts) rest later made are short enough within additions goes =
    absurd (omega (arith, ap length (group_text-cons e es rest), length-append (chunk_text (entry_payload e)) (group_text es ++ rest), length-chunk (entry_payload e)))
group_read (suc fuel) known previous sum group first at (e ∷ es) (t ∷ ts) rest later made are short enough within additions goes =
    let text = group_text-cons e es rest in
    let tail = group_text es ++ rest in
    let payload = entry_payload e in
    let size = length-append (chunk_text payload) tail in
    let chunk = length-chunk payload in
    let longer = ap length text in
    let m = first_made known group first previous e es t ts made in
    let r = revision_by group e t in
    let can : CanAdd known previous sum group first e t = record {
      base = m.0;
      is_base = m.1;
      patches = m.2;
      faultless = additions.0;
      short = additions.1;
      within = within_sum (known_after known r) (sum + length t) (revisions_with group es ts ++ later) additions.2;
    } in
    read_as known previous sum _ _ _ (ap (framing_from (suc (suc fuel)) (InGroup group) first at) text)
    (entry_read (suc fuel) known previous sum group first at e tail t are.0.0 short.0 (omega (arith, longer, within)) can (revisions_with group es ts ++ later)
    (group_read fuel (known_after known r) t (sum + length t) group false (at + (length payload + 4)) es ts rest later m.3 are.1 short.1
    (omega (arith, longer, size, chunk, enough)) (omega (arith, longer, size, chunk, within)) additions.2 goes))

-- ---- the groups of files

files_read : (fuel : ℕ) (known : List Revision) (previous : Bytes) (sum at : ℕ) (fs : List FileGroup) (revisions : List Revision) → AreOfFiles known fs revisions
    → Each (λ f. (f.path ≢ []) × IsSize f.path × Each (λ e. IsBundleEntry e × IsSize (entry_payload e)) f.entries) fs
    → Each (λ f. (field_of f.path ≤ path_limit) × AreShort f.entries) fs
    → length (files_text fs) ≤ fuel → at + length (files_text fs) ≤ input_limit → AreAdditions known sum revisions
    → IsRead known previous sum (framing_from (suc fuel) AtPath true at (files_text fs)) revisions
files_read fuel known previous sum at [] revisions of are short enough within additions =
    let text : files_text [] ≡ chunk_text [] ++ [] = sym (append-nil (chunk_text [])) in
    read_as known previous sum _ _ _ (ap (framing_from (suc fuel) AtPath true at) text)
    (group_end_read fuel known previous sum AtPath true at [] revisions (rw text at enough) (rw text at within) additions (λ more next before total room fits all. ([], ends_Ok known before total, sym of)))
files_read zero known previous sum at (f ∷ fs) revisions of are short enough within additions =
    absurd (omega (arith, ap length (files_text-cons f fs), length-append (chunk_text f.path) (group_text f.entries ++ files_text fs), length-chunk f.path))
files_read (suc fuel) known previous sum at (f ∷ fs) revisions of are short enough within additions =
    let text = files_text-cons f fs in
    let tail = group_text f.entries ++ files_text fs in
    let size = length-append (chunk_text f.path) tail in
    let chunk = length-chunk f.path in
    let longer = ap length text in
    let inside : at + length (chunk_text f.path ++ tail) ≤ input_limit = omega (arith, longer, within) in
    let behind = framing_from (suc fuel) (InGroup (FilesAt f.path)) true (at + (length f.path + 4)) tail in
    let framed = framing_payload (suc fuel) AtPath true at f.path tail (some f.path are.0.0) (omega (arith, short.0.0)) (chunk_none path_limit at f.path tail short.0.0 (omega arith) inside) in
    let group = of.4 in
    let front = revisions_with (FilesAt f.path) f.entries group.texts in
    let all : AreAdditions known sum (front ++ of.1) = subst (λ (l : List Revision). AreAdditions known sum l) (of.2 ∙ ap (λ (l : List Revision). l ++ of.1) group.are) additions in
    let others : AreOfFiles (known_after_all known front) fs of.1 = subst (λ (l : List Revision). AreOfFiles (known_after_all known l) fs of.1) group.are of.5 in
    let read = group_read fuel known [] sum (FilesAt f.path) true (at + (length f.path + 4)) f.entries group.texts (files_text fs) of.1 group.made are.0.2 short.0.1
    (omega (arith, longer, size, chunk, enough)) (omega (arith, longer, size, chunk, within)) all
    (λ more next before total room fits later. files_read more (known_after_all known front) before total next fs of.1 others are.1 short.1 room fits later) in
    read_as known previous sum _ _ _ (ap (framing_from (suc (suc fuel)) AtPath true at) text ∙ framed)
    (read.0, path_item known previous sum true at f.path behind of.3 ∙ read.1, read.2 ∙ sym (of.2 ∙ ap (λ (l : List Revision). l ++ of.1) group.are))
  where
    some : (path : Bytes) → path ≢ [] → 0 < length path
    some [] is = absurd (is refl)
    some (byte ∷ bytes) is = omega arith

-- ---- a whole bundle

groups_read : (known : List Revision) (b : Bundle) (rest : Bytes) (revisions : List Revision) → IsBundle (bundle_text b) b → IsWithinLimits (bundle_text b) b → AreOfBundle known b revisions
    → rest ≡ group_text b.changesets ++ (group_text b.manifests ++ files_text b.files) → 6 + length rest ≤ input_limit
    → IsRead known [] 0 (framing_from (suc (suc (suc (suc (suc (suc (length rest))))))) (InGroup Changesets) true 6 rest) revisions
groups_read known b rest revisions is within of text size =
    let behind = group_text b.manifests ++ files_text b.files in
    let longer = ap length text in
    let fuel : ℕ = suc (suc (suc (suc (suc (length rest))))) in
    let first = revisions_with Changesets b.changesets of.are_changesets.texts in
    let after = known_after_all known first in
    let second = revisions_with Manifests b.manifests of.are_manifests.texts in
    let made : AreTextsOf after Manifests b.manifests of.are_manifests.texts =
    subst (λ (l : List Revision). AreTextsOf (known_after_all known l) Manifests b.manifests of.are_manifests.texts) of.are_changesets.are of.are_manifests.made in
    let files : AreOfFiles (known_after_all after second) b.files of.files =
    subst (λ (l : List Revision). AreOfFiles (known_after_all after l) b.files of.files) of.are_manifests.are
    (subst (λ (l : List Revision). AreOfFiles (known_after_all (known_after_all known l) of.manifests) b.files of.files) of.are_changesets.are of.are_files) in
    let whole : revisions ≡ first ++ (second ++ of.files) = of.all ∙ (λ i. of.are_changesets.are i ++ (of.are_manifests.are i ++ of.files)) in
    let all : AreAdditions known 0 (first ++ (second ++ of.files)) = subst (λ (l : List Revision). AreAdditions known 0 l) whole of.additions in
    subst (λ (l : List Revision). IsRead known [] 0 (framing_from (suc fuel) (InGroup Changesets) true 6 rest) l) (sym whole)
    (read_as known [] 0 _ _ _ (ap (framing_from (suc fuel) (InGroup Changesets) true 6) text)
    (group_read fuel known [] 0 Changesets true 6 b.changesets of.are_changesets.texts behind (second ++ of.files) of.are_changesets.made is.changesets within.changesets
    (omega (arith, longer)) (omega (arith, longer, size)) all
    (λ more at before total room fits later. group_read more after before total Manifests true at b.manifests of.are_manifests.texts (files_text b.files) of.files made is.manifests within.manifests room fits later
    (λ left next before_files total_files space within_files last. files_read left (known_after_all after second) before_files total_files next b.files of.files files is.files within.files space within_files last))))

-- what a bundle brings is read
pub bundle_read : (known : List Revision) (bytes : Bytes) (b : Bundle) (revisions : List Revision) → IsBundle bytes b → IsWithinLimits bytes b → AreOfBundle known b revisions
    → (arrivals : List Arrival) × (bundle_reading known bytes ≡ Ok arrivals) × (revisions_of arrivals ≡ revisions)
bundle_read known bytes b revisions is within of =
    by (group_text b.changesets ++ (group_text b.manifests ++ files_text b.files)) refl (magic_fault bytes) refl
  where
    by : (rest : Bytes) → rest ≡ group_text b.changesets ++ (group_text b.manifests ++ files_text b.files) → (why : Option Refusal) → magic_fault bytes ≡ why
        → (arrivals : List Arrival) × (bundle_reading known bytes ≡ Ok arrivals) × (revisions_of arrivals ≡ revisions)
    by rest text (Some why) refused = absurd (none_some (sym (bundle_listed bytes b is within).0 ∙ framing.magic_refused bytes why refused))
    by rest text None fits =
        let whole : bytes ≡ magic_text ++ rest = is.spells ∙ bundle_text-parts b ∙ ap (λ (l : Bytes). magic_text ++ l) (sym text) in
        let all : bundle_framing bytes ≡ framing_from (suc (suc (suc (suc (suc (suc (length rest))))))) (InGroup Changesets) true 6 rest =
        ap bundle_framing whole ∙ framing_behind_magic rest (subst (λ (l : Bytes). magic_fault l ≡ None) whole fits) in
        let read = groups_read known b rest revisions (subst (λ (l : Bytes). IsBundle l b) is.spells is) (subst (λ (l : Bytes). IsWithinLimits l b) is.spells within) of text
        (omega (arith, ap length whole, within.input)) in
        (read.0, reading_is known bytes ∙ ap (arrivals_of known [] 0) all ∙ read.1, read.2)

unreadable : (known : List Revision) (bytes : Bytes) (why : Refusal) → refused (bundle_reading known bytes) ≡ Some why → IsUnreadable known bytes
unreadable known bytes why is_refused b revisions is within of =
    none_some (sym (ap refused (bundle_read known bytes b revisions is within of).1) ∙ is_refused)

tells : (known : List Revision) (e : BundleFault) (bytes : Bytes) → IsFault (refused (bundle_reading known bytes)) e → TellsUnreadable known e bytes
tells known (Refused refusal) bytes is = unreadable known bytes _ is
tells known Read bytes is = tt
tells known Memory bytes is = tt

-- the same of an answer, where the source tells its bytes
pub tells_unreadable : (known : List Revision) (old : Option Bytes) (result : Result (List Revision × List listed.Arrival) BundleFault) → IfSome old (λ bytes. Reads known bytes result)
    → IfErr result (λ e. IfSome old (TellsUnreadable known e))
tells_unreadable known None (Ok read) is = tt
tells_unreadable known None (Err e) is = tt
tells_unreadable known (Some bytes) (Ok read) is = tt
tells_unreadable known (Some bytes) (Err e) is = tells known e bytes is
