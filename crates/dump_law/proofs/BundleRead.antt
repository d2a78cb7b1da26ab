-- What the reading of a written bundle brings: the revisions that were written. Where nothing was known before, the first entry of a group has no first parent.
use Rattle.std.proofs.Common.{◌≡◌, ◌≢◌, ◌<◌, ◌≤◌, ◌+◌, ◌^◌, ℕ, zero, suc, Bool, true, false, true≢false, List, [], ◌∷◌, ◌++◌, length, map, Option, Some, None, Ok, refl, sym, ap, subst, ◌∙◌, arith, append-nil, length-append}
use Rattle.std.specs.Prelude.{bytes_eq, option_map, unwrap_or, ⊤}
use Rattle.std.specs.List.{flat_map, filter_map}
use Rattle.std.proofs.lemmas.List.{map-append}
use Rattle.std.proofs.lemmas.Bool.{or_left, or_right}
use Rattle.std.proofs.lemmas.Slice.Eq.{bytes_eq-Decides}
use Rattle.text_model.specs.Lists.{Each, first_of_each, in_order}
use Rattle.text_model.specs.Text.{Bytes, is_below}
use Rattle.text_model.specs.Fault.{Refusal}
use Rattle.text_model.specs.Id.{Id, is_null}
use Rattle.text_model.proofs.Elements.{each_in, none_all}
use Rattle.text_model.proofs.Options.{some_is, none_some, some_none}
use Rattle.text_model.proofs.OrderLemmas.{below-other, has_id-In}
use Rattle.text_model.proofs.TestLemmas.{bytes_eq-self}
use Rattle.hg_model.specs.Chunk.{field_of, chunk_text, magic_text, chunk_fault, magic_fault}
use Rattle.hg_model.specs.Delta.{Hunk, Hunks, delta_reading, patched_text, whole_delta}
use Rattle.hg_model.specs.Bundle.{Place, InGroup, AtPath, Framing, framed_end, framing_from, BundleEntry, entry_payload, group_text, IsBundleEntry, length_limit, place_after_empty, bundle_text}
use Rattle.hg_model.specs.Revision.{Group, Changesets, Manifests, FilesAt, Revision, is_of, revision_of, knows, same_group, known_after, known_after_all}
use Rattle.hg_model.specs.Reading.{Arrival, base_of, first_base, revision_by, bundle_reading}
use Rattle.hg_model.proofs.ChunkLemmas.{length-chunk}
use Rattle.hg_model.proofs.BundleEntryLemmas.{length-payload, entry_of-payload}
use Rattle.hg_model.proofs.DeltaLemmas.{delta_reading-Patches, Patches-whole_delta}
use Rattle.hg_model.proofs.FramingLemmas.{framing_at, framing_refused, framing_empty, framing_behind_magic}
use Rattle.hg_model.proofs.ListingLemmas.{group_text-cons, group_text-nil, files_text, files_text-cons, bundle_text-parts}
use Rattle.view_model.specs.Dump.{of_group, path_of_group, paths_in, written_from, written_group, written_file, written_bundle}
use Rattle.hg_bundle.specs.Arrivals.{refused, revisions_of}
use Rattle.hg_bundle.proofs.Reading.{arrivals_of, ends_Ok, ends_Err, reading_is, magic_refused}
use Rattle.hg_bundle.proofs.Groups.{framing_payload}
use Rattle.hg_bundle.proofs.Taken.{Brings, entry_brings, path_brings, err_ok, same_ok}
use Rattle.path_law.proofs.Order.{has, IsUp, AreApart, up-in_order, apart-first}
use Rattle.hg_dump.proofs.OnceLemmas.{Each-filter}
use Rattle.hg_dump_law.specs.Taken.{in_bundle_order}
use Rattle.dump_law.proofs.Bundles.{delta-long}
use Rattle.dump_law.proofs.Brought.{IsSound, all_of_group, path-there, has-paths, paths-named}

-- ---- chunks that aren't refused

field-small : (payload : Bytes) → field_of payload ≤ length payload + 4
field-small [] = omega arith
field-small (b ∷ bytes) = omega arith

not_refused : (known : List Revision) (previous : Bytes) (sum fuel : ℕ) (place : Place) (first : Bool) (at : ℕ) (bytes : Bytes) (arrivals : List Arrival)
    → arrivals_of known previous sum (framing_from (suc fuel) place first at bytes) ≡ Ok arrivals → chunk_fault (length_limit place) at bytes ≡ None
not_refused known previous sum fuel place first at bytes arrivals ok = by (chunk_fault (length_limit place) at bytes) refl
  where
    by : (o : Option Refusal) → chunk_fault (length_limit place) at bytes ≡ o → chunk_fault (length_limit place) at bytes ≡ None
    by None e = e
    by (Some why) e = absurd (err_ok (sym (ap (arrivals_of known previous sum) (framing_refused fuel place first at bytes why e) ∙ ends_Err known previous sum why) ∙ ok))

-- ---- one entry

-- the entry of a revision behind a text
abbrev entry_for : Bytes → Revision → BundleEntry
entry_for base r = record { node = r.node; p = r.p; q = r.q; link = r.link; delta = whole_delta (length base) r.text }

written-cons : (base : Bytes) (r : Revision) (rs : List Revision) → written_from base (r ∷ rs) ≡ entry_for base r ∷ written_from r.text rs
unfolding written_from
written-cons base r rs = refl

written-nil : (base : Bytes) → written_from base [] ≡ []
unfolding written_from
written-nil base = refl

-- over the base that it was written for, a delta makes the text that was written
text-made : (base text : Bytes) (hunks : List Hunk) → length base < 2 ^ 32 → length text < 2 ^ 32 → delta_reading (length base) (whole_delta (length base) text) ≡ Hunks hunks → patched_text base hunks ≡ text
text-made base text hunks b t reads =
    let p = Patches-whole_delta base text b t in
    ap (λ (hs : List Hunk). patched_text base hs) (same hunks p.hunks (sym reads ∙ delta_reading-Patches base (whole_delta (length base) text) text p)) ∙ sym p.result
  where
    same : (xs ys : List Hunk) → Hunks xs ≡ Hunks ys → xs ≡ ys
    same xs ys e = cc

-- the base over which the first revision is read is the one for which it was written
abbrev HasBase : List Revision → Group → Bool → Bytes → Bytes → List Revision → Type 0
HasBase known group first previous base [] = ⊤
HasBase known group first previous base (r ∷ rs) = (b : Bytes) → base_of known group first previous r.p ≡ Some b → (b ≡ base) × (length base < 2 ^ 32)

-- some base was found for it
abbrev IsBased : List Revision → Group → Bool → Bytes → List Revision → Type 0
IsBased known group first previous [] = ⊤
IsBased known group first previous (r ∷ rs) = (b : Bytes) × (base_of known group first previous r.p ≡ Some b)

-- ---- the revisions of a group

-- Arrivals are those of revisions, and the others come from what stands behind them.
record ReadsGroup (known rs : List Revision) (next : Option Place) (rest : Bytes) (arrivals : List Arrival) : Type 0 where
  pub came : List Arrival
  pub later : List Arrival
  pub all : arrivals ≡ came ++ later
  pub are : revisions_of came ≡ rs
  pub more : ℕ
  pub at : ℕ
  pub before : Bytes
  pub sum : ℕ
  pub enough : length rest ≤ more
  pub goes : arrivals_of (known_after_all known rs) before sum (framing_at (suc more) true at next rest) ≡ Ok later

group_ends : (fuel : ℕ) (known : List Revision) (previous : Bytes) (sum : ℕ) (group : Group) (first : Bool) (at : ℕ) (rest : Bytes) (arrivals : List Arrival)
    → length (chunk_text [] ++ rest) ≤ fuel → arrivals_of known previous sum (framing_from (suc fuel) (InGroup group) first at (chunk_text [] ++ rest)) ≡ Ok arrivals
    → ReadsGroup known [] (place_after_empty (InGroup group)) rest arrivals
group_ends zero known previous sum group first at rest arrivals enough ok = absurd (omega (arith, length-append (chunk_text []) rest, length-chunk []))
group_ends (suc more) known previous sum group first at rest arrivals enough ok =
    let next = framing_empty (suc more) (InGroup group) first at rest (not_refused known previous sum (suc more) (InGroup group) first at (chunk_text [] ++ rest) arrivals ok) in record {
      came = [];
      later = arrivals;
      all = refl;
      are = refl;
      more = more;
      at = at + 4;
      before = previous;
      sum = sum;
      enough = omega (arith, length-append (chunk_text []) rest, length-chunk []);
      goes = sym (ap (arrivals_of known previous sum) next) ∙ ok;
    }

-- an entry brings the revision for which it was written
record BringsOne (known : List Revision) (previous : Bytes) (sum : ℕ) (group : Group) (first : Bool) (r : Revision) (f : Framing) (arrivals : List Arrival) : Type 0 where
  pub arrival : Arrival
  pub is : arrival.revision ≡ r
  pub later : List Arrival
  pub all : arrivals ≡ arrival ∷ later
  pub goes : arrivals_of (known_after known r) r.text (sum + length r.text) f ≡ Ok later
  pub based : (b : Bytes) × (base_of known group first previous r.p ≡ Some b)

brings-one : (known : List Revision) (previous : Bytes) (sum : ℕ) (group : Group) (first : Bool) (at : ℕ) (base : Bytes) (r : Revision) (f : Framing) (arrivals : List Arrival)
    → r.group ≡ group → length r.text < 2 ^ 32 → HasBase known group first previous base (r ∷ [])
    → Brings known previous sum group first at (entry_for base r) f arrivals → BringsOne known previous sum group first r f arrivals
brings-one known previous sum group first at base r f arrivals in_group small has_base b =
    let based = has_base b.is.base b.is.is_base in
    let reads : delta_reading (length base) (whole_delta (length base) r.text) ≡ Hunks b.is.hunks = subst (λ (l : Bytes). delta_reading (length l) (whole_delta (length base) r.text) ≡ Hunks b.is.hunks) based.0 b.is.reads in
    let text : b.text ≡ r.text = b.is.makes ∙ ap (λ (l : Bytes). patched_text l b.is.hunks) based.0 ∙ text-made base r.text b.is.hunks based.1 small reads in
    let one : revision_by group (entry_for base r) b.text ≡ r = (λ i. record { group = sym in_group i; node = r.node; p = r.p; q = r.q; link = r.link; text = text i }) in
    record {
      arrival = _;
      is = one;
      later = b.later;
      all = b.all;
      goes = sym (λ i. arrivals_of (known_after known (one i)) (text i) (sum + length (text i)) f) ∙ b.goes;
      based = (b.is.base, b.is.is_base);
    }

reads_from : (fuel : ℕ) (known : List Revision) (previous : Bytes) (sum : ℕ) (group : Group) (first : Bool) (at : ℕ) (base : Bytes) (rs : List Revision) (rest : Bytes) (arrivals : List Arrival)
    → Each (λ r. r.group ≡ group) rs → Each IsSound rs → HasBase known group first previous base rs
    → length (group_text (written_from base rs) ++ rest) < 2 ^ 31 → length (group_text (written_from base rs) ++ rest) ≤ fuel
    → arrivals_of known previous sum (framing_from (suc fuel) (InGroup group) first at (group_text (written_from base rs) ++ rest)) ≡ Ok arrivals
    → ReadsGroup known rs (place_after_empty (InGroup group)) rest arrivals × IsBased known group first previous rs
reads_from fuel known previous sum group first at base [] rest arrivals in_group sound has_base small enough ok =
    let text : group_text (written_from base []) ++ rest ≡ chunk_text [] ++ rest = ap (λ es. group_text es ++ rest) (written-nil base) ∙ ap (λ (l : Bytes). l ++ rest) group_text-nil in
    (group_ends fuel known previous sum group first at rest arrivals (subst (λ (l : Bytes). length l ≤ fuel) text enough) (subst (λ (l : Bytes). arrivals_of known previous sum (framing_from (suc fuel) (InGroup group) first at l) ≡ Ok arrivals) text ok), tt)
reads_from zero known previous sum group first at base (r ∷ rs) rest arrivals in_group sound has_base small enough ok =
    let e = entry_for base r in
    let tail = group_text (written_from r.text rs) ++ rest in
    let text = ap (λ es. group_text es ++ rest) (written-cons base r rs) ∙ group_text-cons e (written_from r.text rs) rest in
    absurd (omega (arith, enough, ap (λ (l : Bytes). length l) text, length-append (chunk_text (entry_payload e)) tail, length-chunk (entry_payload e)))
reads_from (suc fuel) known previous sum group first at base (r ∷ rs) rest arrivals in_group sound has_base small enough ok =
    let e = entry_for base r in
    let payload = entry_payload e in
    let tail = group_text (written_from r.text rs) ++ rest in
    let text = ap (λ es. group_text es ++ rest) (written-cons base r rs) ∙ group_text-cons e (written_from r.text rs) rest in
    let longer = ap (λ (l : Bytes). length l) text in
    let size = length-append (chunk_text payload) tail in
    let chunk = length-chunk payload in
    let is : IsBundleEntry e = record { node = sound.0.0.0.0; p = sound.0.0.1.0; q = sound.0.0.2.0; link = sound.0.0.3.0 } in
    let wide = length-payload e is in
    let here = subst (λ (l : Bytes). arrivals_of known previous sum (framing_from (suc (suc fuel)) (InGroup group) first at l) ≡ Ok arrivals) text ok in
    let behind = framing_from (suc fuel) (InGroup group) false (at + (length payload + 4)) tail in
    let item = framing_payload (suc fuel) (InGroup group) first at payload tail (omega (arith, wide)) (omega (arith, small, field-small payload, longer, size, chunk))
    (not_refused known previous sum (suc fuel) (InGroup group) first at (chunk_text payload ++ tail) arrivals here) in
    let brings = subst (λ (x : BundleEntry). Brings known previous sum group first at x behind arrivals) (entry_of-payload e is)
    (entry_brings known previous sum group first at payload behind arrivals (sym (ap (arrivals_of known previous sum) item) ∙ here)).1 in
    let one = brings-one known previous sum group first at base r behind arrivals in_group.0 (omega (arith, small, longer, size, chunk, wide, delta-long (length base) r.text)) has_base brings in
    let others = (reads_from fuel (known_after known r) r.text (sum + length r.text) group false (at + (length payload + 4)) r.text rs rest one.later in_group.1 sound.1
    (same_base (known_after known r) r.text rs (omega (arith, small, longer, size, chunk, wide, delta-long (length base) r.text)))
    (omega (arith, small, longer, size)) (omega (arith, enough, longer, size, chunk)) one.goes).0 in (
      record {
        came = one.arrival ∷ others.came;
        later = others.later;
        all = one.all ∙ ap (λ (l : List Arrival). one.arrival ∷ l) others.all;
        are = (λ i. one.is i ∷ others.are i);
        more = others.more;
        at = others.at;
        before = others.before;
        sum = others.sum;
        enough = others.enough;
        goes = others.goes;
      },
      one.based,
    )
  where
    same_base : (k : List Revision) (base : Bytes) (l : List Revision) → length base < 2 ^ 32 → HasBase k group false base base l
    same_base k base [] h = tt
    same_base k base (x ∷ l) h = λ b is. (sym (some_is is), h)

-- the first of a group has no first parent
abbrev pub HasNoFirst : List Revision → Type 0
HasNoFirst [] = ⊤
HasNoFirst (r ∷ rs) = is_null r.p ≡ true

reads_group : (fuel : ℕ) (known : List Revision) (previous : Bytes) (sum : ℕ) (group : Group) (at : ℕ) (all rs : List Revision) (rest : Bytes) (arrivals : List Arrival)
    → Each (λ r. r.group ≡ group) rs → Each IsSound rs → ((node : Id) → revision_of known group node ≡ None)
    → length (group_text (written_group all group rs) ++ rest) < 2 ^ 31 → length (group_text (written_group all group rs) ++ rest) ≤ fuel
    → arrivals_of known previous sum (framing_from (suc fuel) (InGroup group) true at (group_text (written_group all group rs) ++ rest)) ≡ Ok arrivals
    → ReadsGroup known rs (place_after_empty (InGroup group)) rest arrivals × HasNoFirst rs
unfolding written_group
reads_group fuel known previous sum group at all [] rest arrivals in_group sound none small enough ok =
    let nil = written-nil [] in (
      (reads_from fuel known previous sum group true at [] [] rest arrivals tt tt tt
          (subst (λ es. length (group_text es ++ rest) < 2 ^ 31) (sym nil) small) (subst (λ es. length (group_text es ++ rest) ≤ fuel) (sym nil) enough)
          (subst (λ es. arrivals_of known previous sum (framing_from (suc fuel) (InGroup group) true at (group_text es ++ rest)) ≡ Ok arrivals) (sym nil) ok)).0,
      tt,
    )
reads_group fuel known previous sum group at all (r ∷ rs) rest arrivals in_group sound none small enough ok =
    let base = unwrap_or (first_base all group r.p) [] in
    let read = reads_from fuel known previous sum group true at base (r ∷ rs) rest arrivals in_group sound (has_base (is_null r.p) refl) small enough ok in
    (read.0, first (is_null r.p) refl read.1)
  where
    no_base : is_null r.p ≡ false → (b : Bytes) → first_base known group r.p ≡ Some b → ⊥
    no_base e b is = none_some (ap (λ (o : Option Revision). option_map (λ (x : Revision). x.text) o) (sym (none r.p)) ∙ sym (rw e refl) ∙ is)

    has_base : (t : Bool) → is_null r.p ≡ t → (b : Bytes) → first_base known group r.p ≡ Some b → (b ≡ unwrap_or (first_base all group r.p) []) × (length (unwrap_or (first_base all group r.p) []) < 2 ^ 32)
    has_base true e b is = rw e (some_is (sym is ∙ rw e refl), omega arith)
    has_base false e b is = absurd (no_base e b is)

    first : (t : Bool) → is_null r.p ≡ t → (b : Bytes) × (first_base known group r.p ≡ Some b) → is_null r.p ≡ true
    first true e based = e
    first false e based = absurd (no_base e based.0 based.1)

-- ---- what isn't known

none_last : (group : Group) (node : Id) (ks : List Revision) (x : Revision) → same_group group x.group ≡ false → revision_of ks group node ≡ None → revision_of (ks ++ x ∷ []) group node ≡ None
none_last group node [] x other none = rw other refl
none_last group node (k ∷ ks) x other none = by (is_of group node k) refl (none_last group node ks x other)
  where
    by : (t : Bool) → is_of group node k ≡ t → (revision_of ks group node ≡ None → revision_of (ks ++ x ∷ []) group node ≡ None) → revision_of (k ∷ ks ++ x ∷ []) group node ≡ None
    by true e later = absurd (some_none (rw e at none))
    by false e later = rw e (later (rw e at none))

none_after : (group : Group) (node : Id) (known xs : List Revision) → Each (λ x. same_group group x.group ≡ false) xs → revision_of known group node ≡ None → revision_of (known_after_all known xs) group node ≡ None
none_after group node known [] others none = none
none_after group node known (x ∷ xs) others none = none_after group node (known_after known x) xs others.1 (by (knows known x.group x.node) refl)
  where
    by : (t : Bool) → knows known x.group x.node ≡ t → revision_of (known_after known x) group node ≡ None
    by true e = rw e none
    by false e = rw e (none_last group node known x others.0 none)

pub not_same : (g h : Group) → same_group g h ≡ false → (xs : List Revision) → Each (λ x. x.group ≡ h) xs → Each (λ x. same_group g x.group ≡ false) xs
not_same g h e [] are = tt
not_same g h e (x ∷ xs) are = (ap (same_group g) are.0 ∙ e, not_same g h e xs are.1)

-- ---- the files

abbrev files_at : List Revision → List Bytes → List Revision
files_at rs paths = flat_map (λ path. of_group (FilesAt path) rs) paths

abbrev NoneKnown : List Revision → List Bytes → Type 0
NoneKnown known paths = (path : Bytes) → has paths path ≡ true → (node : Id) → revision_of known (FilesAt path) node ≡ None

no_more : (known : List Revision) (previous : Bytes) (sum : ℕ) (arrivals : List Arrival) (o : Option Refusal) → arrivals_of known previous sum (framed_end o) ≡ Ok arrivals → arrivals ≡ []
no_more known previous sum arrivals None ok = sym (same_ok [] arrivals (sym (ends_Ok known previous sum) ∙ ok))
no_more known previous sum arrivals (Some why) ok = absurd (err_ok (sym (ends_Err known previous sum why) ∙ ok))

some_path : (path : Bytes) → path ≢ [] → 0 < length path
some_path [] is = absurd (is refl)
some_path (byte ∷ bytes) is = omega arith

-- behind the revisions of a path nothing is known of the others
none_behind : (known : List Revision) (rs : List Revision) (path : Bytes) (paths : List Bytes) → AreApart (path ∷ paths) → NoneKnown known (path ∷ paths) → NoneKnown (known_after_all known (of_group (FilesAt path) rs)) paths
none_behind known rs path paths apart none q there node =
    none_after (FilesAt q) node known (of_group (FilesAt path) rs) (not_same (FilesAt q) (FilesAt path) (other (bytes_eq q path) refl) (of_group (FilesAt path) rs) (all_of_group (FilesAt path) rs))
    (none q (or_right (bytes_eq q path) (has paths q) there) node)
  where
    other : (t : Bool) → bytes_eq q path ≡ t → bytes_eq q path ≡ false
    other false e = e
    other true e = absurd (true≢false (sym (subst (λ (x : Bytes). has paths x ≡ true) ((bytes_eq-Decides q path).0 e) there) ∙ apart.0))

record ReadsFiles (rs : List Revision) (paths : List Bytes) (arrivals : List Arrival) : Type 0 where
  pub are : revisions_of arrivals ≡ files_at rs paths
  pub firsts : Each (λ path. HasNoFirst (of_group (FilesAt path) rs)) paths

reads_files : (fuel : ℕ) (known : List Revision) (previous : Bytes) (sum at : ℕ) (all rs : List Revision) (paths : List Bytes) (arrivals : List Arrival)
    → Each IsSound rs → Each (λ path. path ≢ []) paths → AreApart paths → NoneKnown known paths
    → length (files_text (map (written_file all rs) paths)) < 2 ^ 31 → length (files_text (map (written_file all rs) paths)) ≤ fuel
    → arrivals_of known previous sum (framing_from (suc fuel) AtPath true at (files_text (map (written_file all rs) paths))) ≡ Ok arrivals
    → ReadsFiles rs paths arrivals
reads_files fuel known previous sum at all rs [] arrivals sound some apart none small enough ok =
    let text : files_text [] ≡ chunk_text [] ++ [] = sym (append-nil (chunk_text [])) in
    let here = subst (λ (l : Bytes). arrivals_of known previous sum (framing_from (suc fuel) AtPath true at l) ≡ Ok arrivals) text ok in
    let next = framing_empty fuel AtPath true at [] (not_refused known previous sum fuel AtPath true at (chunk_text [] ++ []) arrivals here) in
    record { are = ap revisions_of (no_more known previous sum arrivals _ (sym (ap (arrivals_of known previous sum) next) ∙ here)); firsts = tt }
reads_files zero known previous sum at all rs (path ∷ paths) arrivals sound some apart none small enough ok =
    let f = written_file all rs path in
    let fs = map (written_file all rs) paths in
    absurd (omega (arith, enough, ap (λ (l : Bytes). length l) (files_text-cons f fs), length-append (chunk_text path) (group_text f.entries ++ files_text fs), length-chunk path))
reads_files (suc fuel) known previous sum at all rs (path ∷ paths) arrivals sound some apart none small enough ok =
    let f = written_file all rs path in
    let fs = map (written_file all rs) paths in
    let mine = of_group (FilesAt path) rs in
    let text = files_text-cons f fs in
    let tail = group_text f.entries ++ files_text fs in
    let size = length-append (chunk_text path) tail in
    let chunk = length-chunk path in
    let longer = ap (λ (l : Bytes). length l) text in
    let here = subst (λ (l : Bytes). arrivals_of known previous sum (framing_from (suc (suc fuel)) AtPath true at l) ≡ Ok arrivals) text ok in
    let behind = framing_from (suc fuel) (InGroup (FilesAt path)) true (at + (length path + 4)) tail in
    let framed = framing_payload (suc fuel) AtPath true at path tail (some_path path some.0) (omega (arith, small, field-small path, longer, size, chunk))
    (not_refused known previous sum (suc fuel) AtPath true at (chunk_text path ++ tail) arrivals here) in
    let fit = path_brings known previous sum true at path behind arrivals (sym (ap (arrivals_of known previous sum) framed) ∙ here) in
    let g = reads_group fuel known [] sum (FilesAt path) (at + (length path + 4)) all mine (files_text fs) arrivals (all_of_group (FilesAt path) rs) (Each-filter IsSound (λ r. same_group (FilesAt path) r.group) rs sound)
    (none path (or_left (bytes_eq path path) (has paths path) (bytes_eq-self path))) (omega (arith, small, longer, size)) (omega (arith, enough, longer, size, chunk)) fit.1 in
    let others = reads_files g.0.more (known_after_all known mine) g.0.before g.0.sum g.0.at all rs paths g.0.later sound some.1 apart.1 (none_behind known rs path paths apart none)
    (omega (arith, small, longer, size, length-append (group_text f.entries) (files_text fs))) g.0.enough g.0.goes in
    record {
      are = ap revisions_of g.0.all ∙ map-append (λ (a : Arrival). a.revision) g.0.came g.0.later ∙ (λ i. g.0.are i ++ others.are i);
      firsts = (g.1, others.firsts);
    }

-- ---- the paths

pub paths-apart : (rs : List Revision) → AreApart (paths_in rs)
unfolding paths_in
paths-apart rs = apart (in_order is_below (first_of_each bytes_eq (filter_map (λ r. path_of_group r.group) rs))) (up-in_order _ (apart-first (filter_map (λ r. path_of_group r.group) rs)))
  where
    apart : (xs : List Bytes) → IsUp xs → AreApart xs
    apart [] up = tt
    apart (x ∷ xs) up = (none_all (bytes_eq x) xs (λ y i. below-other x y (each_in (λ z. is_below x z ≡ true) xs y up.0 i)), apart xs up.1)

-- ---- the whole

pub record ReadsWritten (rs : List Revision) (arrivals : List Arrival) : Type 0 where
  pub are : revisions_of arrivals ≡ in_bundle_order rs
  pub firsts : (group : Group) → HasNoFirst (of_group group rs)

module _ (all rs : List Revision) (sound : Each IsSound rs) (arrivals : List Arrival) where
  abbrev written_tail : Bytes
  written_tail = group_text (written_group all Changesets (of_group Changesets rs)) ++ (group_text (written_group all Manifests (of_group Manifests rs)) ++ files_text (map (written_file all rs) (paths_in rs)))

  reads_tail : (fuel : ℕ) → length written_tail < 2 ^ 31 → length written_tail ≤ fuel
      → arrivals_of [] [] 0 (framing_from (suc fuel) (InGroup Changesets) true 6 written_tail) ≡ Ok arrivals → ReadsWritten rs arrivals
  unfolding in_bundle_order
  reads_tail fuel small enough ok =
      let cs = of_group Changesets rs in
      let ms = of_group Manifests rs in
      let files = files_text (map (written_file all rs) (paths_in rs)) in
      let behind = group_text (written_group all Manifests ms) ++ files in
      let of : (group : Group) → Each IsSound (of_group group rs) = λ group. Each-filter IsSound (λ r. same_group group r.group) rs sound in
      let c = reads_group fuel [] [] 0 Changesets 6 all cs behind arrivals (all_of_group Changesets rs) (of Changesets) (λ node. refl) small enough ok in
      let m = reads_group c.0.more (known_after_all [] cs) c.0.before c.0.sum Manifests c.0.at all ms files c.0.later (all_of_group Manifests rs) (of Manifests)
      (λ node. none_after Manifests node [] cs (not_same Manifests Changesets refl cs (all_of_group Changesets rs)) refl)
      (omega (arith, small, length-append (group_text (written_group all Changesets cs)) behind)) c.0.enough c.0.goes in
      let f = reads_files m.0.more (known_after_all (known_after_all [] cs) ms) m.0.before m.0.sum m.0.at all rs (paths_in rs) m.0.later sound (paths-named rs sound) (paths-apart rs)
      (λ path there node. none_after (FilesAt path) node (known_after_all [] cs) ms (not_same (FilesAt path) Manifests refl ms (all_of_group Manifests rs))
      (none_after (FilesAt path) node [] cs (not_same (FilesAt path) Changesets refl cs (all_of_group Changesets rs)) refl))
      (omega (arith, small, length-append (group_text (written_group all Changesets cs)) behind, length-append (group_text (written_group all Manifests ms)) files)) m.0.enough m.0.goes in
      record {
        are = ap revisions_of (c.0.all ∙ ap (λ (l : List Arrival). c.0.came ++ l) m.0.all)
            ∙ map-append (λ (a : Arrival). a.revision) c.0.came (m.0.came ++ m.0.later)
            ∙ (λ i. c.0.are i ++ (map-append (λ (a : Arrival). a.revision) m.0.came m.0.later ∙ (λ j. m.0.are j ++ f.are j)) i);
        firsts = λ group. first group c.1 m.1 f.firsts;
      }
    where
      first : (group : Group) → HasNoFirst (of_group Changesets rs) → HasNoFirst (of_group Manifests rs) → Each (λ path. HasNoFirst (of_group (FilesAt path) rs)) (paths_in rs) → HasNoFirst (of_group group rs)
      first Changesets c m f = c
      first Manifests c m f = m
      first (FilesAt path) c m f = by (has (paths_in rs) path) refl
        where
          by : (t : Bool) → has (paths_in rs) path ≡ t → HasNoFirst (of_group (FilesAt path) rs)
          by true e = each_in (λ p. HasNoFirst (of_group (FilesAt p) rs)) (paths_in rs) path f (has_id-In (paths_in rs) path e)
          by false e = subst HasNoFirst (sym (path-there rs path (sym (has-paths rs path) ∙ e))) tt

ok_none : (why : Refusal) (bytes : Bytes) (arrivals : List Arrival) → bundle_reading [] bytes ≡ Ok arrivals → magic_fault bytes ≡ Some why → ⊥
ok_none why bytes arrivals ok e = none_some (sym (ap refused ok) ∙ magic_refused [] bytes why e)

-- what a bundle brings that was written over any revisions, and is read where nothing is known
pub reads_written : (all rs : List Revision) → Each IsSound rs → length (bundle_text (written_bundle all rs)) < 2 ^ 31 → (arrivals : List Arrival) → bundle_reading [] (bundle_text (written_bundle all rs)) ≡ Ok arrivals → ReadsWritten rs arrivals
unfolding written_bundle
reads_written all rs sound small arrivals ok = by (magic_fault bytes) refl
  where
    bytes : Bytes
    bytes = bundle_text (written_bundle all rs)

    tail : Bytes
    tail = written_tail all rs sound arrivals

    parts : bytes ≡ magic_text ++ tail
    parts = bundle_text-parts (written_bundle all rs)

    read : magic_fault (magic_text ++ tail) ≡ None → ReadsWritten rs arrivals
    read fine =
        let size = length-append magic_text tail in
        let whole = ap (λ (l : Bytes). length l) parts in
        let here : arrivals_of [] [] 0 (framing_from (length (magic_text ++ tail)) (InGroup Changesets) true 6 tail) ≡ Ok arrivals =
        sym (ap (arrivals_of [] [] 0) (framing_behind_magic tail fine)) ∙ sym (reading_is [] (magic_text ++ tail)) ∙ ap (bundle_reading []) (sym parts) ∙ ok in
        reads_tail all rs sound arrivals (5 + length tail) (omega (arith, small, whole, size)) (omega arith)
        (subst (λ (n : ℕ). arrivals_of [] [] 0 (framing_from n (InGroup Changesets) true 6 tail) ≡ Ok arrivals) (omega (arith, size)) here)

    by : (o : Option Refusal) → magic_fault bytes ≡ o → ReadsWritten rs arrivals
    by None e = read (sym (ap magic_fault parts) ∙ e)
    by (Some why) e = absurd (ok_none why bytes arrivals ok e)
