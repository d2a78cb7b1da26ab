-- Manifests line by line: the entries that a text has, and its first fault.
use Rattle.std.proofs.Common.{◌≡◌, ◌+◌, ◌&&◌, ℕ, Bool, true, false, not, List, [], ◌∷◌, ◌++◌, length, map, Option, Some, None, refl, sym, ap, subst, ◌∙◌, IsTrue, flat_map, append-nil}
use Rattle.std.specs.Prelude.{if◌then◌else◌}
use Rattle.std.proofs.lemmas.Bool.{and_parts, and_from, false≢true}
use Rattle.std.proofs.lemmas.List.Concat.{flat_map-append}
use Rattle.text_model.specs.Lists.{Each, rises}
use Rattle.text_model.specs.Text.{Bytes, IsBytes, is_below, whole_lines}
use Rattle.text_model.specs.Id.{IsId}
use Rattle.text_model.specs.Path.{is_fit_path}
use Rattle.text_model.proofs.ByteLemmas.{IsBytes-front, IsBytes-rest}
use Rattle.text_model.proofs.EachLemmas.{Each-push}
use Rattle.text_model.proofs.LineLemmas.{whole_lines-none, whole_lines-whole}
use Rattle.text_model.proofs.Options.{some_none}
use Rattle.hg_model.specs.Manifest.{ManifestEntry, entry_text, manifest_text, IsManifest, IsManifestText, ManifestFault, BadLine, UnfitPath, last_path, rises_above, entry_of_line, entry_fault, path_of_line, lines_fault, manifest_fault}
use Rattle.hg_model.proofs.EntryLemmas.{entry_of_line-text, entry_of_line-takes, at_nul, path_of_line-text, whole_lines-text, is_fit_path-plain}

-- ---- paths that rise

-- the path before what follows the entries
abbrev pub path_after : Option Bytes → List ManifestEntry → Option Bytes
path_after last [] = last
path_after last (e ∷ es) = path_after (Some e.path) es

-- each path is above the one before it, the first above this one
abbrev pub rises_from : Option Bytes → List ManifestEntry → Bool
rises_from last [] = true
rises_from last (e ∷ es) = rises_above last e.path && rises_from (Some e.path) es

pub last_path-is : (es : List ManifestEntry) → last_path es ≡ path_after None es
last_path-is [] = refl
last_path-is (e ∷ []) = refl
last_path-is (e ∷ f ∷ es) = last_path-is (f ∷ es)

pub rises-is : (es : List ManifestEntry) → rises is_below (map (λ e. e.path) es) ≡ rises_from None es
rises-is [] = refl
rises-is (e ∷ []) = refl
rises-is (e ∷ f ∷ es) = ap (λ (b : Bool). is_below e.path f.path && b) (rises-is (f ∷ es))

path_after-push : (last : Option Bytes) (es : List ManifestEntry) (e : ManifestEntry) → path_after last (es ++ e ∷ []) ≡ Some e.path
path_after-push last [] e = refl
path_after-push last (f ∷ es) e = path_after-push (Some f.path) es e

pub last_path-push : (es : List ManifestEntry) (e : ManifestEntry) → last_path (es ++ e ∷ []) ≡ Some e.path
last_path-push es e = last_path-is (es ++ e ∷ []) ∙ path_after-push None es e

rises_from-push : (last : Option Bytes) (es : List ManifestEntry) (e : ManifestEntry) → rises_from last es ≡ true → rises_above (path_after last es) e.path ≡ true → rises_from last (es ++ e ∷ []) ≡ true
rises_from-push last [] e h k = and_from (rises_above last e.path) true k refl
rises_from-push last (f ∷ es) e h k =
    let parts = and_parts (rises_above last f.path) (rises_from (Some f.path) es) h in
    and_from (rises_above last f.path) (rises_from (Some f.path) (es ++ e ∷ [])) parts.0 (rises_from-push (Some f.path) es e parts.1 k)

-- ---- one entry more

abbrev pub IsEntry : ManifestEntry → Type 0
IsEntry e = IsTrue (is_fit_path e.path) × IsBytes e.path × IsId e.node

pub IsManifest-push : (es : List ManifestEntry) (e : ManifestEntry) → IsManifest es → IsEntry e → IsTrue (rises_above (last_path es) e.path) → IsManifest (es ++ e ∷ [])
IsManifest-push es e is fits above = (
  Each-push IsEntry es e is.0 fits,
  rises-is (es ++ e ∷ []) ∙ rises_from-push None es e (sym (rises-is es) ∙ is.1) (ap (λ (last : Option Bytes). rises_above last e.path) (sym (last_path-is es)) ∙ above),
)

pub manifest_text-push : (es : List ManifestEntry) (e : ManifestEntry) → manifest_text (es ++ e ∷ []) ≡ manifest_text es ++ entry_text e
unfolding manifest_text
manifest_text-push es e = flat_map-append entry_text es (e ∷ []) ∙ ap (λ (x : Bytes). flat_map entry_text es ++ x) (append-nil (entry_text e))

-- ---- one line

if_true : {A : Type 0} (t : Bool) (x y : A) → t ≡ true → (if t then x else y) ≡ x
if_true true x y h = refl
if_true false x y h = absurd (false≢true h)

if_false : {A : Type 0} (t : Bool) (x y : A) → t ≡ false → (if t then x else y) ≡ y
if_false true x y h = absurd (false≢true (sym h))
if_false false x y h = refl

pub entry_fault-fits : (last : Option Bytes) (at : ℕ) (e : ManifestEntry) → rises_above last e.path ≡ true → is_fit_path e.path ≡ true → entry_fault last at (Some e) ≡ None
entry_fault-fits last at e above fit =
    if_false (not (rises_above last e.path)) (Some (BadLine at)) (if is_fit_path e.path then None else Some (UnfitPath at)) (ap not above) ∙ if_true (is_fit_path e.path) None (Some (UnfitPath at)) fit

pub entry_fault-falls : (last : Option Bytes) (at : ℕ) (e : ManifestEntry) → rises_above last e.path ≡ false → entry_fault last at (Some e) ≡ Some (BadLine at)
entry_fault-falls last at e below =
    if_true (not (rises_above last e.path)) (Some (BadLine at)) (if is_fit_path e.path then None else Some (UnfitPath at)) (ap not below)

pub entry_fault-unfit : (last : Option Bytes) (at : ℕ) (e : ManifestEntry) → rises_above last e.path ≡ true → is_fit_path e.path ≡ false → entry_fault last at (Some e) ≡ Some (UnfitPath at)
entry_fault-unfit last at e above unfit =
    if_false (not (rises_above last e.path)) (Some (BadLine at)) (if is_fit_path e.path then None else Some (UnfitPath at)) (ap not above) ∙ if_false (is_fit_path e.path) None (Some (UnfitPath at)) unfit

-- a line that has a fault
pub lines_fault-bad : (last : Option Bytes) (at : ℕ) (text : Bytes) (texts : List Bytes) (why : ManifestFault) → entry_fault last at (entry_of_line text) ≡ Some why → lines_fault last at (text ∷ texts) ≡ Some why
unfolding lines_fault
lines_fault-bad last at text texts why h = rw (lines_fault, h) refl

-- a line that has none
pub lines_fault-fits : (last : Option Bytes) (at : ℕ) (text : Bytes) (texts : List Bytes) → entry_fault last at (entry_of_line text) ≡ None → lines_fault last at (text ∷ texts) ≡ lines_fault (Some (path_of_line text)) (at + length text) texts
unfolding lines_fault
lines_fault-fits last at text texts h = rw (lines_fault, h) refl

-- ---- laws of the whole text

pub manifest_text-none : manifest_text [] ≡ []
unfolding manifest_text
manifest_text-none = refl

pub manifest_text-cons : (e : ManifestEntry) (es : List ManifestEntry) → manifest_text (e ∷ es) ≡ entry_text e ++ manifest_text es
unfolding manifest_text
manifest_text-cons e es = refl

pub lines_fault-none : (last : Option Bytes) (at : ℕ) → lines_fault last at [] ≡ None
unfolding lines_fault
lines_fault-none last at = refl

-- the lines of the text of entries
lines_of-none : whole_lines (manifest_text []) ≡ []
lines_of-none = ap whole_lines manifest_text-none ∙ whole_lines-none

lines_of-cons : (e : ManifestEntry) (es : List ManifestEntry) → IsEntry e → whole_lines (manifest_text (e ∷ es)) ≡ entry_text e ∷ whole_lines (manifest_text es)
lines_of-cons e es is = ap whole_lines (manifest_text-cons e es) ∙ whole_lines-text e (manifest_text es) (is_fit_path-plain e.path is.0).no_lf is.2

no_fault_from : (last : Option Bytes) (at : ℕ) (es : List ManifestEntry) → Each IsEntry es → rises_from last es ≡ true → lines_fault last at (whole_lines (manifest_text es)) ≡ None
no_fault_from last at [] each up = ap (lines_fault last at) lines_of-none ∙ lines_fault-none last at
no_fault_from last at (e ∷ es) each up =
    let lacks = (is_fit_path-plain e.path each.0.0).no_nul in
    let parts = and_parts (rises_above last e.path) (rises_from (Some e.path) es) up in
    let fits = ap (entry_fault last at) (entry_of_line-text e lacks each.0.2) ∙ entry_fault-fits last at e parts.0 each.0.0 in
    ap (lines_fault last at) (lines_of-cons e es each.0) ∙ lines_fault-fits last at (entry_text e) (whole_lines (manifest_text es)) fits
    ∙ ap (λ (p : Bytes). lines_fault (Some p) (at + length (entry_text e)) (whole_lines (manifest_text es))) (path_of_line-text e lacks)
    ∙ no_fault_from (Some e.path) (at + length (entry_text e)) es each.1 parts.1

-- the text of a manifest has no fault
pub manifest_fault-text : (text : Bytes) (es : List ManifestEntry) → IsManifestText text es → manifest_fault text ≡ None
manifest_fault-text text es is = ap manifest_fault is.1 ∙ no_fault_from None 0 es is.0.0 (sym (rises-is es) ∙ is.0.1)

-- the values that are there
values : {A : Type 0} → List (Option A) → List A
values [] = []
values (None ∷ xs) = values xs
values (Some x ∷ xs) = x ∷ values xs

values_of : (es : List ManifestEntry) → Each IsEntry es → values (map entry_of_line (whole_lines (manifest_text es))) ≡ es
unfolding values
values_of [] each = ap (λ (lines : List Bytes). values (map entry_of_line lines)) lines_of-none
values_of (e ∷ es) each =
    ap (λ (lines : List Bytes). values (map entry_of_line lines)) (lines_of-cons e es each.0)
    ∙ ap (λ (x : Option ManifestEntry). values (x ∷ map entry_of_line (whole_lines (manifest_text es)))) (entry_of_line-text e (is_fit_path-plain e.path each.0.0).no_nul each.0.2)
    ∙ ap (λ (x : List ManifestEntry). e ∷ x) (values_of es each.1)

-- a text is that of one manifest
pub one_manifest : (text : Bytes) (es fs : List ManifestEntry) → IsManifestText text es → IsManifestText text fs → es ≡ fs
one_manifest text es fs e f =
    sym (values_of es e.0.0) ∙ ap (λ (x : Bytes). values (map entry_of_line (whole_lines x))) (sym e.1 ∙ f.1) ∙ values_of fs f.0.0

-- the entries of lines that have no fault
record Entries (last : Option Bytes) (lines : List Bytes) : Type 0 where
  pub entries : List ManifestEntry
  pub each : Each IsEntry entries
  pub up : rises_from last entries ≡ true
  pub whole : flat_map (λ l. l) lines ≡ manifest_text entries

-- what an entry without a fault is
record Fitting (last : Option Bytes) (e : ManifestEntry) : Type 0 where
  pub above : rises_above last e.path ≡ true
  pub fit : is_fit_path e.path ≡ true

fitting : (last : Option Bytes) (at : ℕ) (e : ManifestEntry) → entry_fault last at (Some e) ≡ None → Fitting last e
fitting last at e h = by (rises_above last e.path) (is_fit_path e.path) refl refl
  where
    by : (a b : Bool) → rises_above last e.path ≡ a → is_fit_path e.path ≡ b → Fitting last e
    by false b p q = absurd (some_none (sym (entry_fault-falls last at e p) ∙ h))
    by true false p q = absurd (some_none (sym (entry_fault-unfit last at e p q) ∙ h))
    by true true p q = record { above = p; fit = q }

no_fault_first : (last : Option Bytes) (at : ℕ) (text : Bytes) (texts : List Bytes) → lines_fault last at (text ∷ texts) ≡ None → entry_fault last at (entry_of_line text) ≡ None
no_fault_first last at text texts h = by (entry_fault last at (entry_of_line text)) refl
  where
    by : (r : Option ManifestFault) → entry_fault last at (entry_of_line text) ≡ r → entry_fault last at (entry_of_line text) ≡ None
    by None p = p
    by (Some why) p = absurd (some_none (sym (lines_fault-bad last at text texts why p) ∙ h))

entries_of : (last : Option Bytes) (at : ℕ) (lines : List Bytes) → IsBytes (flat_map (λ l. l) lines) → lines_fault last at lines ≡ None → Entries last lines
entries_of last at [] fits h = record { entries = []; each = tt; up = refl; whole = sym manifest_text-none }
entries_of last at (text ∷ texts) fits h =
    by (entry_of_line text) refl (λ p. entries_of (Some p) (at + length text) texts (IsBytes-rest text (flat_map (λ l. l) texts) fits))
  where
    first : entry_fault last at (entry_of_line text) ≡ None
    first = no_fault_first last at text texts h

    by : (r : Option ManifestEntry) → entry_of_line text ≡ r → ((p : Bytes) → lines_fault (Some p) (at + length text) texts ≡ None → Entries (Some p) texts) → Entries last (text ∷ texts)
    by None e rest = absurd (some_none (sym (ap (entry_fault last at) e) ∙ first))
    by (Some x) e rest =
        let is = fitting last at x (sym (ap (entry_fault last at) e) ∙ first) in
        let spelled = entry_of_line-takes text x e in
        let plain = is_fit_path-plain x.path is.fit in
        let path = ap path_of_line spelled.whole ∙ path_of_line-text x plain.no_nul in
        let next : lines_fault (Some x.path) (at + length text) texts ≡ None =
        ap (λ (p : Bytes). lines_fault (Some p) (at + length text) texts) (sym path) ∙ sym (lines_fault-fits last at text texts first) ∙ h in
        let others = rest x.path next in
        let bytes = IsBytes-front x.path _ (subst (λ (l : Bytes). IsBytes l) (spelled.whole ∙ at_nul x) (IsBytes-front text (flat_map (λ l. l) texts) fits)) in
        record {
          entries = x ∷ others.entries;
          each = ((is.fit, bytes, spelled.node), others.each);
          up = and_from (rises_above last x.path) (rises_from (Some x.path) others.entries) is.above others.up;
          whole = (λ i. spelled.whole i ++ others.whole i) ∙ sym (manifest_text-cons x others.entries);
        }

-- a text without a fault is that of a manifest
pub some_manifest : (text : Bytes) → IsBytes text → manifest_fault text ≡ None → (es : List ManifestEntry) × IsManifestText text es
some_manifest text fits none =
    let found = entries_of None 0 (whole_lines text) (subst (λ (l : Bytes). IsBytes l) (sym (whole_lines-whole text)) fits) none in
    (found.entries, ((found.each, rises-is found.entries ∙ found.up), sym (whole_lines-whole text) ∙ found.whole))
