-- The marks of a changeset view are made of bytes and ids.
use Rattle.std.proofs.Common.{◌≡◌, ◌≢◌, ℕ, Bool, true, false, List, [], ◌∷◌, ◌++◌, map, Option, Some, None, refl, sym, ap, subst, ◌∙◌}
use Rattle.std.specs.Prelude.{not, ◌&&◌, if◌then◌else◌, bytes_eq, IsTrue}
use Rattle.std.specs.List.{flat_map}
use Rattle.std.proofs.lemmas.Bool.{and_parts}
use Rattle.text_model.proofs.EachLemmas.{Each-append}
use Rattle.text_model.proofs.Options.{some_is, none_some}
use Rattle.std.proofs.lemmas.Slice.Eq.{bytes_eq-Decides}
use Rattle.text_model.specs.Lists.{Each}
use Rattle.text_model.specs.Text.{Bytes, IsBytes, has_byte}
use Rattle.text_model.specs.Path.{is_fit_path}
use Rattle.text_model.specs.Id.{Id, IsId, null, is_null}
use Rattle.hg_model.specs.Changeset.{DateLine, Plain, Raw, Extra, IsDateLine}
use Rattle.hg_model.specs.FileText.{copy_of, copy_meta, IsFile}
use Rattle.pair_model.specs.Block.{Parents}
use Rattle.pair_model.specs.User.{UserDate, user_of_line}
use Rattle.view_model.specs.View.{FileRevision, Row, IsRevision, ManifestParents, NoManifest, Over, AreManifestParents, ChangesetView, IsChangesetView}
use Rattle.pair_model.specs.Rule.{author_by, ruled_manifest, ruled_files}
use Rattle.pair_model.specs.MarkList.{Mark, File, Manifest, Files, User, Date, OneExtra, IsMark}
use Rattle.partner_model.specs.Mark.{copy_in, named_source, node_in_parents, rename_source, revision_mark, is_ruled, entry_marks, manifest_marks, same_manifest, files_marks, same_paths, user_marks, same_numbers, date_marks, commit_marks}
use Rattle.mark_law.proofs.Copies.{source_bytes, copy_is}

-- what a rename says of its revision
pub record IsNamed (ps : Parents) (r : FileRevision) (source : Bytes) : Type 0 where
  pub p : r.p ≡ null
  pub q : r.q ≡ null
  pub meta : r.meta ≡ Some (copy_meta source (node_in_parents ps source))
  pub bytes : (m : Bytes) → r.meta ≡ Some m → IsBytes m → IsBytes source

named_by : (t : Bool) (a s : Bytes) → (if t then Some a else None) ≡ Some s → (t ≡ true) × (a ≡ s)
named_by true a s e = (refl, some_is e)
named_by false a s e = absurd (none_some e)

source_of : (ps : Parents) (o : Option Bytes) (c : Option (Bytes × Id)) (s : Bytes) → copy_in o ≡ c → named_source ps c ≡ Some s
    → (m : Bytes) × (o ≡ Some m) × (copy_of m ≡ Some (s, node_in_parents ps s))
source_of ps o None s e h = absurd (none_some h)
source_of ps None (Some c) s e h = absurd (none_some e)
source_of ps (Some m) (Some c) s e h =
    let g = named_by (not (is_null c.1) && bytes_eq (node_in_parents ps c.0) c.1) c.0 s h in
    let n = (bytes_eq-Decides (node_in_parents ps c.0) c.1).0 (and_parts (not (is_null c.1)) (bytes_eq (node_in_parents ps c.0) c.1) g.0).1 in
    let k : c.1 ≡ node_in_parents ps s = sym n ∙ ap (λ x. node_in_parents ps x) g.1 in
    (m, refl, e ∙ (λ i. Some (g.1 i, k i)))

pub named : (ps : Parents) (r : FileRevision) (s : Bytes) → rename_source ps r ≡ Some s → IsNamed ps r s
named ps r s e = by (is_null r.p && is_null r.q) refl e
  where
    by : (t : Bool) → (is_null r.p && is_null r.q) ≡ t → (if t then named_source ps (copy_in r.meta) else None) ≡ Some s → IsNamed ps r s
    by false f h = absurd (none_some h)
    by true f h =
        let n = and_parts (is_null r.p) (is_null r.q) f in
        let c = source_of ps r.meta (copy_in r.meta) s refl h in
        record {
          p = (bytes_eq-Decides r.p null).0 n.0;
          q = (bytes_eq-Decides r.q null).0 n.1;
          meta = c.1 ∙ ap Some (copy_is c.0 s (node_in_parents ps s) c.2);
          bytes = λ m g is. source_bytes c.0 s (node_in_parents ps s) (subst (λ (x : List ℕ). IsBytes x) (some_is (sym g ∙ c.1)) is) c.2;
        }

pub meta_bytes : (o : Option Bytes) (body m : Bytes) → IsFile o body → o ≡ Some m → IsBytes m
meta_bytes None body m h e = absurd (none_some e)
meta_bytes (Some n) body m h e = subst (λ (x : List ℕ). IsBytes x) (some_is e) h.1

file_is : (path p q : Bytes) (o : Option Bytes) (body : Bytes) → IsBytes path → IsId p → IsId q → IsFile o body → IsMark (File path p q o)
file_is path p q None body a b c h = (a, b, c)
file_is path p q (Some m) body a b c h = (a, b, c, h.1)

revision_is : (ps : Parents) (path : Bytes) (r : FileRevision) → IsBytes path → IsRevision r → IsMark (revision_mark path r (rename_source ps r))
revision_is ps path r a h = by (rename_source ps r) refl
  where
    by : (o : Option Bytes) → rename_source ps r ≡ o → IsMark (revision_mark path r o)
    by None e = file_is path r.p r.q r.meta r.body a h.0 h.1 h.2
    by (Some s) e =
        let n = named ps r s e in
        let m = copy_meta s (node_in_parents ps s) in
        (a, n.bytes m n.meta (meta_bytes r.meta r.body m h.2 n.meta))

entry_is : (ps : Parents) (row : Row) → IsBytes row.path → IsRevision row.revision → Each IsMark (entry_marks ps row)
unfolding entry_marks
entry_is ps row a h = by (is_ruled ps row)
  where
    by : (t : Bool) → Each IsMark (if t then [] else revision_mark row.path row.revision (rename_source ps row.revision) ∷ [])
    by true = tt
    by false = (revision_is ps row.path row.revision a h, tt)

-- what is asked of the rows here
abbrev pub IsRow : Row → Type 0
IsRow row = IsBytes row.path × IsRevision row.revision

pub entries_are : (ps : Parents) (rows : List Row) → Each IsRow rows → Each IsMark (flat_map (entry_marks ps) rows)
entries_are ps [] h = tt
entries_are ps (row ∷ rows) h = Each-append IsMark (entry_marks ps row) (flat_map (entry_marks ps) rows) (entry_is ps row h.0.0 h.0.1) (entries_are ps rows h.1)

manifest_is : (m : ManifestParents) (rows : List Row) → AreManifestParents m rows → IsMark (Manifest m)
manifest_is NoManifest rows h = tt
manifest_is (Over p q) rows h = (h.0, h.1)

none_or_one : (t : Bool) (m : Mark) → IsMark m → Each IsMark (if t then [] else m ∷ [])
none_or_one true m h = tt
none_or_one false m h = (h, tt)

files_bytes : (fs : List Bytes) → Each (λ f. (f ≢ []) × (has_byte 10 f ≡ false) × IsBytes f) fs → Each IsBytes fs
files_bytes [] h = tt
files_bytes (f ∷ fs) h = (h.0.2, files_bytes fs h.1)

extras_are : (es : List Extra) → Each (λ e. (e.key ≢ []) × (has_byte 58 e.key ≡ false) × IsBytes e.key × IsBytes e.value) es → Each IsMark (map OneExtra es)
extras_are [] h = tt
extras_are (e ∷ es) h = ((h.0.2, h.0.3), extras_are es h.1)

date_are : (d : DateLine) (given : UserDate) → IsDateLine d → Each IsMark (date_marks d given)
date_are (Plain time tz es) given h =
    Each-append IsMark (if same_numbers time tz given then [] else Date time tz ∷ []) (map OneExtra es)
    (none_or_one (same_numbers time tz given) (Date time tz) (record { time_low = h.time_low; time_high = h.time_high; tz_low = h.tz_low; tz_high = h.tz_high; items = (tt, refl) }))
    (extras_are es h.items.0)
date_are (Raw text) given h = (h.0, tt)

rows_are : (rows : List Row) → Each (λ row. IsTrue (is_fit_path row.path) × IsBytes row.path × IsRevision row.revision) rows → Each IsRow rows
rows_are [] h = tt
rows_are (r ∷ rs) h = ((h.0.1, h.0.2), rows_are rs h.1)

pub view_rows : (h : ChangesetView) → IsChangesetView h → Each IsRow h.rows
view_rows h v = rows_are h.rows v.rows

pub marks_are : (ps : Parents) (h : ChangesetView) → IsChangesetView h → Each IsMark (commit_marks ps h)
unfolding commit_marks
marks_are ps h v =
    let given = user_of_line (author_by (h.fields).user (h.fields).date) in
    let e = entries_are ps h.rows (view_rows h v) in
    let m = none_or_one (same_manifest h.manifest (ruled_manifest ps h.rows)) (Manifest h.manifest) (manifest_is h.manifest h.rows v.manifest) in
    let f = none_or_one (same_paths (h.fields).files (ruled_files ps h.rows)) (Files (h.fields).files) (files_bytes (h.fields).files (v.fields).files) in
    let u = none_or_one (bytes_eq (h.fields).user given.user) (User (h.fields).user) (v.fields).user.2 in
    let d = date_are (h.fields).date given (v.fields).date in
    Each-append IsMark (flat_map (entry_marks ps) h.rows ++ manifest_marks ps h ++ files_marks ps h ++ user_marks (h.fields).user given) (date_marks (h.fields).date given)
    (Each-append IsMark (flat_map (entry_marks ps) h.rows ++ manifest_marks ps h ++ files_marks ps h) (user_marks (h.fields).user given)
    (Each-append IsMark (flat_map (entry_marks ps) h.rows ++ manifest_marks ps h) (files_marks ps h)
    (Each-append IsMark (flat_map (entry_marks ps) h.rows) (manifest_marks ps h) e m) f) u) d
