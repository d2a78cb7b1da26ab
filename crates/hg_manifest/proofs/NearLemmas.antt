-- The first line of a manifest's text, and what stands behind it.
use Rattle.std.proofs.Common.{◌≡◌, ◌≤◌, ◌+◌, ◌-◌, ℕ, true, List, [], ◌∷◌, ◌++◌, length, map, take, drop, Option, Some, None, option_map, refl, sym, ap, subst, ◌∙◌, arith}
use Rattle.std.specs.Prelude.{slice_get}
use Rattle.std.proofs.lemmas.Bool.{and_parts, and_from}
use Rattle.std.proofs.lemmas.List.{length-append, map-append, take-append-drop, take_at, drop_at}
use Rattle.std.proofs.lemmas.Grind.{flat_map-append}
use Rattle.std.proofs.lemmas.Option.{slice_get-map}
use Rattle.text_model.specs.Text.{Bytes}
use Rattle.text_model.specs.Id.{IsId}
use Rattle.text_model.specs.Lists.{Each}
use Rattle.text_model.proofs.EachLemmas.{Each-front}
use Rattle.text_model.proofs.Elements.{each_at, drop_next}
use Rattle.text_model.proofs.Options.{some_is, none_some}
use Rattle.hg_model.specs.Manifest.{ManifestEntry, entry_text, manifest_text, rises_above, IsManifest, IsManifestText}
use Rattle.hg_model.proofs.ManifestLemmas.{rises_from, rises-is, manifest_text-cons}
use Rattle.hg_manifest.specs.declared.entry.Entry.{Entry}
use Rattle.hg_manifest.specs.Values.{manifest_entry}
use Rattle.hg_manifest.specs.Near.{IsFit, StartsWithLines}

rises-behind : (last : Bytes) (es : List ManifestEntry) → rises_from (Some last) es ≡ true → rises_from None es ≡ true
rises-behind last [] up = refl
rises-behind last (e ∷ es) up = (and_parts _ (rises_from (Some e.path) es) up).1

IsManifest-behind : (e : ManifestEntry) (es : List ManifestEntry) → IsManifest (e ∷ es) → IsManifest es
IsManifest-behind e es is =
    (is.0.1, rises-is es ∙ rises-behind e.path es (sym (rises-is (e ∷ es)) ∙ is.1))

-- the entries without the first are those of the text without the first line
pub record IsBehind (entries : List Entry) (lines : Bytes) (e : Entry) (at : ℕ) : Type 0 where
  pub within : at ≤ length lines
  pub first : map manifest_entry entries ≡ manifest_entry e ∷ map manifest_entry (drop 1 entries)
  pub line : take at lines ≡ entry_text (manifest_entry e)
  pub fit : IsFit (manifest_entry e)
  pub behind : IsManifestText (drop at lines) (map manifest_entry (drop 1 entries))

is_behind : (x : Entry) (xs : List Entry) (lines : Bytes) (at : ℕ) → IsManifestText lines (map manifest_entry (x ∷ xs)) → (IsId x.node → at ≡ length (entry_text (manifest_entry x))) → IsBehind (x ∷ xs) lines x at
is_behind x xs lines at is measures =
    let long = measures is.0.0.0.2 in
    let whole : lines ≡ entry_text (manifest_entry x) ++ manifest_text (map manifest_entry xs) = is.1 ∙ manifest_text-cons (manifest_entry x) (map manifest_entry xs) in
    record {
      within = omega (arith, long, ap (λ (l : Bytes). length l) whole, length-append (entry_text (manifest_entry x)) (manifest_text (map manifest_entry xs)));
      first = refl;
      line = ap (take at) whole ∙ take_at (entry_text (manifest_entry x)) (manifest_text (map manifest_entry xs)) at (sym long);
      fit = is.0.0.0;
      behind = (IsManifest-behind (manifest_entry x) (map manifest_entry xs) is.0, ap (drop at) whole ∙ drop_at (entry_text (manifest_entry x)) (manifest_text (map manifest_entry xs)) at (sym long));
    }

pub first-behind : (entries : List Entry) (lines : Bytes) (e : Entry) (at : ℕ) → IsManifestText lines (map manifest_entry entries) → slice_get entries 0 ≡ Some e → (IsId e.node → at ≡ length (entry_text (manifest_entry e))) → IsBehind entries lines e at
first-behind [] lines e at is some measures = absurd (none_some some)
first-behind (x ∷ xs) lines e at is some measures =
    subst (λ (y : Entry). (IsId y.node → at ≡ length (entry_text (manifest_entry y))) → IsBehind (x ∷ xs) lines y at) (some_is some) (is_behind x xs lines at is) measures

-- ---- many lines at once

rises-front : (last : Option Bytes) (es fs : List ManifestEntry) → rises_from last (es ++ fs) ≡ true → rises_from last es ≡ true
rises-front last [] fs up = refl
rises-front last (e ∷ es) fs up =
    let parts = and_parts (rises_above last e.path) (rises_from (Some e.path) (es ++ fs)) up in
    and_from (rises_above last e.path) (rises_from (Some e.path) es) parts.0 (rises-front (Some e.path) es fs parts.1)

IsManifest-front : (es fs : List ManifestEntry) → IsManifest (es ++ fs) → IsManifest es
IsManifest-front es fs is = (Each-front IsFit es fs is.0, rises-is es ∙ rises-front None es fs (sym (rises-is (es ++ fs)) ∙ is.1))

IsManifest-rest : (es fs : List ManifestEntry) → IsManifest (es ++ fs) → IsManifest fs
IsManifest-rest [] fs is = is
IsManifest-rest (e ∷ es) fs is = IsManifest-rest es fs (IsManifest-behind e (es ++ fs) is)

manifest_text-append : (es fs : List ManifestEntry) → manifest_text (es ++ fs) ≡ manifest_text es ++ manifest_text fs
unfolding manifest_text
manifest_text-append es fs = flat_map-append entry_text es fs

-- the first entries with their text, and the others with theirs
pub record IsCut (lines : Bytes) (front behind : List ManifestEntry) : Type 0 where
  pub starts : StartsWithLines lines front (manifest_text behind)
  pub front_is : IsManifest front
  pub behind_is : IsManifest behind

pub is_cut : (lines : Bytes) (front behind : List ManifestEntry) → IsManifestText lines (front ++ behind) → IsCut lines front behind
is_cut lines front behind is = record {
  starts = (is.1 ∙ manifest_text-append front behind, Each-front IsFit front behind is.0.0);
  front_is = IsManifest-front front behind is.0;
  behind_is = IsManifest-rest front behind is.0;
}

-- the entries of a list in two parts
pub cut_entries : (entries : List Entry) (count : ℕ) → map manifest_entry entries ≡ map manifest_entry (take count entries) ++ map manifest_entry (drop count entries)
cut_entries entries count = ap (map manifest_entry) (sym (take-append-drop count entries)) ∙ map-append manifest_entry (take count entries) (drop count entries)

-- the two parts of the entries of a manifest
pub cut_parts : (entries : List Entry) (lines : Bytes) (count : ℕ) → IsManifestText lines (map manifest_entry entries) → (front behind : List Entry) → front ≡ take count entries → behind ≡ drop count entries
    → IsCut lines (map manifest_entry front) (map manifest_entry behind)
cut_parts entries lines count is front behind front_is behind_is =
    let whole : map manifest_entry entries ≡ map manifest_entry front ++ map manifest_entry behind = cut_entries entries count ∙ (λ i. map manifest_entry (sym front_is i) ++ map manifest_entry (sym behind_is i)) in
    is_cut lines (map manifest_entry front) (map manifest_entry behind) (subst (IsManifestText lines) whole is)

-- where the text is cut, if so much of it stands behind
pub record IsCutAt (lines : Bytes) (front behind : List ManifestEntry) (at : ℕ) : Type 0 where
  pub within : at ≤ length lines
  pub text : IsManifestText (take at lines) front
  pub rest : IsManifestText (drop at lines) behind

pub is_cut_at : (lines : Bytes) (front behind : List ManifestEntry) (left : ℕ) → IsCut lines front behind → left ≡ length (manifest_text behind) → IsCutAt lines front behind (length lines - left)
is_cut_at lines front behind left cut is =
    let whole = cut.starts.0 in
    let long : length lines ≡ length (manifest_text front) + length (manifest_text behind) = ap length whole ∙ length-append (manifest_text front) (manifest_text behind) in
    let at : length (manifest_text front) ≡ length lines - left = omega (arith, long, is) in
    record {
      within = omega arith;
      text = (cut.front_is, ap (take (length lines - left)) whole ∙ take_at (manifest_text front) (manifest_text behind) (length lines - left) at);
      rest = (cut.behind_is, ap (drop (length lines - left)) whole ∙ drop_at (manifest_text front) (manifest_text behind) (length lines - left) at);
    }

-- how long the lines are from a place on, and from the next one on
pub line_behind : (entries : List Entry) (i : ℕ) (e : Entry) → slice_get entries i ≡ Some e → Each IsFit (map manifest_entry entries) → (rest : Bytes) (len : ℕ)
    → (IsId e.node → len ≡ length (entry_text (manifest_entry e)))
    → length (manifest_text (map manifest_entry (drop i entries)) ++ rest) ≡ len + length (manifest_text (map manifest_entry (drop (i + 1) entries)) ++ rest)
line_behind entries i e at fits rest len measures =
    let fit = each_at IsFit (map manifest_entry entries) i (manifest_entry e) (slice_get-map manifest_entry entries i ∙ ap (option_map manifest_entry) at) fits in
    let text : Bytes = manifest_text (map manifest_entry (drop (i + 1) entries)) in
    let whole : manifest_text (map manifest_entry (drop i entries)) ≡ entry_text (manifest_entry e) ++ text =
    ap (λ (es : List Entry). manifest_text (map manifest_entry es)) (drop_next entries i e at) ∙ manifest_text-cons (manifest_entry e) (map manifest_entry (drop (i + 1) entries)) in
    let long = measures fit.2 in
    omega (arith, long, ap (λ (t : Bytes). length (t ++ rest)) whole, length-append (entry_text (manifest_entry e) ++ text) rest, length-append (entry_text (manifest_entry e)) text, length-append text rest)
