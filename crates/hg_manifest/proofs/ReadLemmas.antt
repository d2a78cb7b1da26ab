-- How far a text is read: what was read, and what is left to judge.
use Rattle.std.proofs.Common.{◌≡◌, ◌+◌, ◌-◌, ◌<◌, ◌≤◌, ℕ, true, List, [], ◌∷◌, ◌++◌, length, take, drop, Option, Some, None, refl, sym, ap, subst, ◌∙◌, append_assoc, arith, map, IsTrue}
use Rattle.std.specs.Prelude.{slice_range, slice_get}
use Rattle.std.proofs.lemmas.Bool.{and_parts, and_from}
use Rattle.std.proofs.lemmas.List.{length-append, append-nil, map-append, take-append-drop, take_at, drop_at}
use Rattle.text_model.specs.Text.{Bytes, IsBytes, whole_lines}
use Rattle.hg_model.specs.Manifest.{ManifestEntry, flag_text, entry_text, manifest_text, IsManifest, IsManifestText, ManifestFault, BadLine, UnfitPath, last_path, rises_above, entry_of_line, entry_fault, path_of_line, lines_fault, manifest_fault}
use Rattle.text_model.specs.Id.{hex}
use Rattle.text_model.specs.Path.{is_fit_path}
use Rattle.hg_manifest.specs.declared.entry.Entry.{Entry}
use Rattle.hg_manifest.specs.declared.fault.ManifestFault.{ManifestFault as Fault}
use Rattle.hg_manifest.specs.declared.fault.ManifestFault.TheVariants.{Shape, PathUnfit, Memory}
use Rattle.hg_manifest.specs.Values.{manifest_entry, IsNamed, IsFault}
use Rattle.text_model.specs.Lists.{Each}
use Rattle.text_model.proofs.EachLemmas.{Each-rest}
use Rattle.text_model.proofs.Elements.{drop_next, map_take_push}
use Rattle.hg_manifest.specs.Near.{IsFit, AreFirstLines, first_rises}
use Rattle.text_model.proofs.ByteLemmas.{IsBytes-front, IsBytes-rest}
use Rattle.hg_model.proofs.EntryLemmas.{entry_of_line-text, entry_of_line-takes, at_nul, path_of_line-text, whole_lines-text, is_fit_path-plain}
use Rattle.hg_model.proofs.ManifestLemmas.{path_after, last_path-is, rises_from, rises-is, manifest_text-cons, IsManifest-push, manifest_text-none, manifest_text-push, last_path-push, entry_fault-fits, lines_fault-bad, lines_fault-fits}

-- the entries are the lines before the rest, and the fault of the text is that of the rest
pub record IsReadTo (text : Bytes) (last : Option Bytes) (entries : List ManifestEntry) (rest : Bytes) : Type 0 where
  pub whole : text ≡ manifest_text entries ++ rest
  pub last_is : last ≡ last_path entries
  pub is : IsManifest entries
  pub fits : IsBytes rest
  pub fault : manifest_fault text ≡ lines_fault last (length text - length rest) (whole_lines rest)

pub at_start : (text : Bytes) → IsBytes text → IsReadTo text None [] text
at_start text fits = record {
  whole = ap (λ (x : Bytes). x ++ text) (sym manifest_text-none);
  last_is = refl;
  is = (tt, refl);
  fits = fits;
  fault =
      let none : length text - length text ≡ 0 = omega arith in
      ap (λ (at : ℕ). lines_fault None at (whole_lines text)) (sym none);
}

-- nothing is left
pub at_end : (text : Bytes) (last : Option Bytes) (entries : List ManifestEntry) → IsReadTo text last entries [] → IsManifestText text entries
at_end text last entries r = (r.is, r.whole ∙ append-nil (manifest_text entries))

-- the first line of the rest, and what follows it
pub record IsLineOf (rest line after : Bytes) : Type 0 where
  pub lines : whole_lines rest ≡ line ∷ whole_lines after
  pub whole : rest ≡ line ++ after
  pub some : 0 < length line

module _ (text : Bytes) (last : Option Bytes) (entries : List ManifestEntry) (rest line after : Bytes) (r : IsReadTo text last entries rest) (l : IsLineOf rest line after) where
  pub shorter : length after < length rest
  shorter = omega (arith, l.some, ap (λ (x : Bytes). length x) l.whole, length-append line after)

  fault_at : (why : ManifestFault) → entry_fault last (length text - length rest) (entry_of_line line) ≡ Some why → manifest_fault text ≡ Some why
  fault_at why h =
      let at : ℕ = length text - length rest in
      r.fault ∙ ap (lines_fault last (length text - length rest)) l.lines ∙ lines_fault-bad last (length text - length rest) line (whole_lines after) why h

  -- a fault of the line is the text's
  pub line_fault : (f : Fault) → IsNamed (entry_fault last (length text - length rest) (entry_of_line line)) f → IsFault text f
  line_fault (Shape place) h = fault_at (BadLine place) h
  line_fault (PathUnfit place) h = fault_at (UnfitPath place) h
  line_fault Memory h = tt

  -- the entry of the line
  pub line_entry : (e : ManifestEntry) → Some e ≡ entry_of_line line → is_fit_path e.path ≡ true → IsFit e
  line_entry e reads fit =
      let spelled = entry_of_line-takes line e (sym reads) in
      let both : IsBytes (line ++ after) = subst (λ (x : Bytes). IsBytes x) l.whole r.fits in
      (fit, IsBytes-front e.path _ (subst (λ (x : Bytes). IsBytes x) (spelled.whole ∙ at_nul e) (IsBytes-front line after both)), spelled.node)

  -- one entry more
  pub goes_on : (e : ManifestEntry) → Some e ≡ entry_of_line line → rises_above last e.path ≡ true → is_fit_path e.path ≡ true → IsReadTo text (Some e.path) (entries ++ e ∷ []) after
  goes_on e reads above fit =
      let spelled = entry_of_line-takes line e (sym reads) in
      let plain = is_fit_path-plain e.path fit in
      let both : IsBytes (line ++ after) = subst (λ (x : Bytes). IsBytes x) l.whole r.fits in
      let at : length text - length rest + length line ≡ length text - length after =
      omega (arith, ap (λ (x : Bytes). length x) r.whole, length-append (manifest_text entries) rest, ap (λ (x : Bytes). length x) l.whole, length-append line after) in
      let fits = ap (entry_fault last (length text - length rest)) (sym reads) ∙ entry_fault-fits last (length text - length rest) e above fit in
      let path = ap path_of_line spelled.whole ∙ path_of_line-text e plain.no_nul in
      record {
        whole =
            r.whole ∙ ap (λ (x : Bytes). manifest_text entries ++ x) (l.whole ∙ ap (λ (x : Bytes). x ++ after) spelled.whole)
            ∙ sym (append_assoc (manifest_text entries) (entry_text e) after) ∙ ap (λ (x : Bytes). x ++ after) (sym (manifest_text-push entries e));
        last_is = sym (last_path-push entries e);
        is = IsManifest-push entries e r.is (line_entry e reads fit) (ap (λ (x : Option Bytes). rises_above x e.path) (sym r.last_is) ∙ above);
        fits = IsBytes-rest line after both;
        fault =
            r.fault ∙ ap (lines_fault last (length text - length rest)) l.lines ∙ lines_fault-fits last (length text - length rest) line (whole_lines after) fits
            ∙ (λ i. lines_fault (Some (path i)) (at i) (whole_lines after));
      }

  -- the part of the text that is the path of the line
  pub path_within : (e : ManifestEntry) → Some e ≡ entry_of_line line → length text - length rest + length e.path ≤ length text
  path_within e reads =
      let spelled = entry_of_line-takes line e (sym reads) in
      let long : length line ≡ length e.path + length (0 ∷ (hex e.node ++ (flag_text e.flag ++ 10 ∷ []))) = ap (λ (x : Bytes). length x) (spelled.whole ∙ at_nul e) ∙ length-append e.path (0 ∷ (hex e.node ++ (flag_text e.flag ++ 10 ∷ []))) in
      omega (arith, long, ap (λ (x : Bytes). length x) r.whole, length-append (manifest_text entries) rest, ap (λ (x : Bytes). length x) l.whole, length-append line after)

  pub path_is : (e : ManifestEntry) → Some e ≡ entry_of_line line → slice_range text (length text - length rest) (length text - length rest + length e.path) ≡ e.path
  path_is e reads =
      let spelled = entry_of_line-takes line e (sym reads) in
      let tail : Bytes = 0 ∷ (hex e.node ++ (flag_text e.flag ++ 10 ∷ [])) in
      let at : length (manifest_text entries) ≡ length text - length rest = omega (arith, ap (λ (x : Bytes). length x) r.whole, length-append (manifest_text entries) rest) in
      let dropped : drop (length text - length rest) text ≡ rest = ap (λ (x : Bytes). drop (length text - length rest) x) r.whole ∙ drop_at (manifest_text entries) rest (length text - length rest) at in
      let begins : rest ≡ e.path ++ (0 ∷ (hex e.node ++ (flag_text e.flag ++ 10 ∷ [])) ++ after) = l.whole ∙ ap (λ (x : Bytes). x ++ after) (spelled.whole ∙ at_nul e) ∙ append_assoc e.path (0 ∷ (hex e.node ++ (flag_text e.flag ++ 10 ∷ []))) after in
      let long : length e.path ≡ length text - length rest + length e.path - (length text - length rest) = omega arith in
      ap (λ (x : Bytes). take (length text - length rest + length e.path - (length text - length rest)) x) (dropped ∙ begins)
      ∙ take_at e.path (0 ∷ (hex e.node ++ (flag_text e.flag ++ 10 ∷ [])) ++ after) (length text - length rest + length e.path - (length text - length rest)) long

-- one entry more, whose line is that of an entry which a manifest may have
pub goes_near : (text : Bytes) (last : Option Bytes) (entries : List ManifestEntry) (rest after : Bytes) (e : ManifestEntry) → IsReadTo text last entries rest → rest ≡ entry_text e ++ after → IsFit e
    → rises_above last e.path ≡ true → IsReadTo text (Some e.path) (entries ++ e ∷ []) after
goes_near text last entries rest after e r begins is above =
    let plain = is_fit_path-plain e.path is.0 in
    let long : length (entry_text e) ≡ length e.path + length (0 ∷ (hex e.node ++ (flag_text e.flag ++ 10 ∷ []))) = ap (λ (x : Bytes). length x) (at_nul e) ∙ length-append e.path (0 ∷ (hex e.node ++ (flag_text e.flag ++ 10 ∷ []))) in
    let l : IsLineOf rest (entry_text e) after = record {
      lines = ap whole_lines begins ∙ whole_lines-text e after plain.no_lf is.2;
      whole = begins;
      some = omega (arith, long);
    } in
    goes_on text last entries rest (entry_text e) after r l e (sym (entry_of_line-text e plain.no_nul is.2)) above is.0

-- many entries more, whose lines are those of entries which a manifest may have
goes_far : (text : Bytes) (last : Option Bytes) (entries : List ManifestEntry) (rest after : Bytes) (es : List ManifestEntry) → IsReadTo text last entries rest → rest ≡ manifest_text es ++ after → Each IsFit es
    → rises_from last es ≡ true → IsReadTo text (path_after last es) (entries ++ es) after
goes_far text last entries rest after [] r begins are up =
    subst (λ (xs : List ManifestEntry). IsReadTo text last xs after) (sym (append-nil entries)) (subst (IsReadTo text last entries) (begins ∙ ap (λ (x : Bytes). x ++ after) manifest_text-none) r)
goes_far text last entries rest after (e ∷ es) r begins are up =
    let parts = and_parts (rises_above last e.path) (rises_from (Some e.path) es) up in
    let first : rest ≡ entry_text e ++ (manifest_text es ++ after) = begins ∙ ap (λ (x : Bytes). x ++ after) (manifest_text-cons e es) ∙ append_assoc (entry_text e) (manifest_text es) after in
    let one = goes_near text last entries rest (manifest_text es ++ after) e r first are.0 parts.0 in
    subst (λ (xs : List ManifestEntry). IsReadTo text (path_after (Some e.path) es) xs after) (append_assoc entries (e ∷ []) es) (goes_far text (Some e.path) (entries ++ e ∷ []) (manifest_text es ++ after) after es one refl are.1 parts.1)

-- the first of them rises above the line before
up_from : (last : Option Bytes) (es : List ManifestEntry) → IsManifest es → first_rises last es ≡ true → rises_from last es ≡ true
up_from last [] is first = refl
up_from last (e ∷ es) is first = and_from (rises_above last e.path) (rises_from (Some e.path) es) first (sym (rises-is (e ∷ es)) ∙ is.1)

path-after : (last : Option Bytes) (es : List ManifestEntry) → 0 < length es → path_after last es ≡ last_path es
path-after last [] some = absurd (omega (arith, some))
path-after last (e ∷ es) some = sym (last_path-is (e ∷ es))

pub goes_near_many : (text : Bytes) (last : Option Bytes) (entries : List ManifestEntry) (rest after : Bytes) (es : List ManifestEntry) → IsReadTo text last entries rest → AreFirstLines rest es after → first_rises last es ≡ true
    → IsReadTo text (last_path es) (entries ++ es) after
goes_near_many text last entries rest after es r first above =
    subst (λ (x : Option Bytes). IsReadTo text x (entries ++ es) after) (path-after last es first.some) (goes_far text last entries rest after es r first.whole first.are.0 (up_from last es first.are above))

-- entries that may be put behind others
pub many_behind : (text : Bytes) (last : Option Bytes) (entries : List ManifestEntry) (rest after : Bytes) (es : List ManifestEntry) → IsReadTo text last entries rest → AreFirstLines rest es after → first_rises last es ≡ true
    → IsManifest (entries ++ es)
many_behind text last entries rest after es r first above = (goes_near_many text last entries rest after es r first above).is

-- fewer bytes are left
pub less_left : (rest after : Bytes) (es : List ManifestEntry) → AreFirstLines rest es after → length after < length rest
less_left rest after [] first = absurd (omega (arith, first.some))
less_left rest after (e ∷ es) first =
    let long : length (entry_text e) ≡ length e.path + length (0 ∷ (hex e.node ++ (flag_text e.flag ++ 10 ∷ []))) = ap (λ (x : Bytes). length x) (at_nul e) ∙ length-append e.path (0 ∷ (hex e.node ++ (flag_text e.flag ++ 10 ∷ []))) in
    omega (arith, long, ap (λ (x : Bytes). length x) first.whole, length-append (manifest_text (e ∷ es)) after, ap (λ (x : Bytes). length x) (manifest_text-cons e es), length-append (entry_text e) (manifest_text es))

-- ---- an entry among others

rises-here : (last : Option Bytes) (xs : List ManifestEntry) (e : ManifestEntry) (ys : List ManifestEntry) → rises_from last (xs ++ (e ∷ ys)) ≡ true → rises_above (path_after last xs) e.path ≡ true
rises-here last [] e ys up = (and_parts (rises_above last e.path) (rises_from (Some e.path) ys) up).0
rises-here last (x ∷ xs) e ys up = rises-here (Some x.path) xs e ys (and_parts (rises_above last x.path) (rises_from (Some x.path) (xs ++ (e ∷ ys))) up).1

-- an entry that is put behind those before it
pub record IsNext (before : List ManifestEntry) (e : ManifestEntry) : Type 0 where
  pub fit : IsFit e
  pub rises : IsTrue (rises_above (last_path before) e.path)

pub next-of : (before : List ManifestEntry) (e : ManifestEntry) (behind : List ManifestEntry) → IsManifest (before ++ (e ∷ behind)) → IsNext before e
next-of before e behind is = record {
  fit = (Each-rest IsFit before (e ∷ behind) is.0).0;
  rises = ap (λ (last : Option Bytes). rises_above last e.path) (last_path-is before) ∙ rises-here None before e behind (sym (rises-is (before ++ (e ∷ behind))) ∙ is.1);
}

pub next-at : (old : List ManifestEntry) (entries : List Entry) (i : ℕ) (e : Entry) → slice_get entries i ≡ Some e → IsManifest (old ++ map manifest_entry entries) → IsNext (old ++ map manifest_entry (take i entries)) (manifest_entry e)
next-at old entries i e at is =
    let xs : List ManifestEntry = map manifest_entry (take i entries) in
    let ys : List ManifestEntry = map manifest_entry (drop (i + 1) entries) in
    let whole : map manifest_entry entries ≡ xs ++ (manifest_entry e ∷ ys) = ap (map manifest_entry) (sym (take-append-drop i entries) ∙ ap (λ (es : List Entry). take i entries ++ es) (drop_next entries i e at)) ∙ map-append manifest_entry (take i entries) (e ∷ drop (i + 1) entries) in
    next-of (old ++ xs) (manifest_entry e) ys (subst IsManifest (ap (λ (es : List ManifestEntry). old ++ es) whole ∙ sym (append_assoc old xs (manifest_entry e ∷ ys))) is)

pub next-pushed : (old : List ManifestEntry) (entries : List Entry) (i : ℕ) (e : Entry) → slice_get entries i ≡ Some e → (old ++ map manifest_entry (take i entries)) ++ manifest_entry e ∷ [] ≡ old ++ map manifest_entry (take (i + 1) entries)
next-pushed old entries i e at =
    append_assoc old (map manifest_entry (take i entries)) (manifest_entry e ∷ []) ∙ ap (λ (es : List ManifestEntry). old ++ es) (sym (map_take_push manifest_entry entries i e at))

pub last-of : (entries : List Entry) (e : Entry) (front : List Entry) → entries ≡ front ++ e ∷ [] → Some (manifest_entry e).path ≡ last_path (map manifest_entry entries)
last-of entries e front whole = sym (ap (λ (es : List Entry). last_path (map manifest_entry es)) whole ∙ ap last_path (map-append manifest_entry front (e ∷ [])) ∙ last_path-push (map manifest_entry front) (manifest_entry e))

-- an entry put behind the others
pub pushed : (items new : List Entry) (e : Entry) → new ≡ items ++ e ∷ [] → IsManifest (map manifest_entry items)
    → IsFit (manifest_entry e) → IsTrue (rises_above (last_path (map manifest_entry items)) e.path) → IsManifest (map manifest_entry new)
pushed items new e same is fit above =
    let whole : map manifest_entry new ≡ map manifest_entry items ++ manifest_entry e ∷ [] = ap (map manifest_entry) same ∙ map-append manifest_entry items (e ∷ []) in
    subst (λ (es : List ManifestEntry). IsManifest es) (sym whole) (IsManifest-push (map manifest_entry items) (manifest_entry e) is fit above)
