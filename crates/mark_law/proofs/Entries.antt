-- The marks of parts by what tells whether the rule gives them; and the node of a path in the parents by the entries of their manifests.
use Rattle.std.proofs.Common.{◌≡◌, ◌+◌, ℕ, Bool, true, false, List, [], ◌∷◌, ◌++◌, map, take, Option, Some, None, refl, sym, ap, ◌∙◌, bytes_eq, append-nil}
use Rattle.std.specs.Prelude.{◌↔◌, IsTrue, if◌then◌else◌, option_map, unwrap_or, slice_get}
use Rattle.std.specs.List.{find, flat_map}
use Rattle.std.specs.Option.{option_or}
use Rattle.text_model.specs.Text.{Bytes}
use Rattle.text_model.specs.Id.{Id, null}
use Rattle.text_model.proofs.Elements.{take_push, flat_map_append}
use Rattle.hg_model.specs.Manifest.{ManifestEntry}
use Rattle.view_model.specs.View.{FileRevision, file_node, Row, entry_of_row, SameRow, ChangesetView}
use Rattle.pair_model.specs.Block.{Parents}
use Rattle.pair_model.specs.Rule.{tree_row_of, revision_at, ruled_row, ruled_manifest, ruled_files}
use Rattle.pair_model.specs.MarkList.{Mark, Manifest, Files}
use Rattle.partner_model.specs.Mark.{node_in_parents, rename_source, revision_mark, is_ruled, entry_marks, manifest_marks, same_manifest, files_marks, same_paths}
use Rattle.mark_law.proofs.Decided.{one-answer, is_ruled-decides, same_manifest-decides, same_paths-decides}

-- ---- entries

-- where the test tells that the rule gives the file back, there is no mark, else the one of its revision
pub entry-by_test : (ps : Parents) (row : Row) (t : Bool) → (IsTrue t ↔ SameRow (ruled_row ps (tree_row_of row)) row)
    → entry_marks ps row ≡ (if t then [] else revision_mark row.path row.revision (rename_source ps row.revision) ∷ [])
unfolding entry_marks
entry-by_test ps row t h = ap (λ (b : Bool). if b then [] else revision_mark row.path row.revision (rename_source ps row.revision) ∷ []) (one-answer (is_ruled ps row) t (is_ruled-decides ps row) h)

-- the marks of one entry more
pub entries-more : (ps : Parents) (rows : List Row) (i : ℕ) (row : Row) → slice_get rows i ≡ Some row → flat_map (entry_marks ps) (take (i + 1) rows) ≡ flat_map (entry_marks ps) (take i rows) ++ entry_marks ps row
entries-more ps rows i row at =
    ap (flat_map (entry_marks ps)) (take_push rows i row at) ∙ flat_map_append (entry_marks ps) (take i rows) (row ∷ []) ∙ ap (λ (ms : List Mark). flat_map (entry_marks ps) (take i rows) ++ ms) (append-nil (entry_marks ps row))

-- ---- other parts

pub manifest-by_test : (ps : Parents) (h : ChangesetView) (t : Bool) → (IsTrue t ↔ h.manifest ≡ ruled_manifest ps h.rows) → manifest_marks ps h ≡ (if t then [] else Manifest h.manifest ∷ [])
manifest-by_test ps h t is = ap (λ (b : Bool). if b then [] else Manifest h.manifest ∷ []) (one-answer (same_manifest h.manifest (ruled_manifest ps h.rows)) t (same_manifest-decides h.manifest (ruled_manifest ps h.rows)) is)

pub files-by_test : (ps : Parents) (h : ChangesetView) (t : Bool) → (IsTrue t ↔ (h.fields).files ≡ ruled_files ps h.rows) → files_marks ps h ≡ (if t then [] else Files (h.fields).files ∷ [])
files-by_test ps h t is = ap (λ (b : Bool). if b then [] else Files (h.fields).files ∷ []) (one-answer (same_paths (h.fields).files (ruled_files ps h.rows)) t (same_paths-decides (h.fields).files (ruled_files ps h.rows)) is)

-- ---- the node of a path

abbrev node_of : ManifestEntry → Id
node_of e = e.node

entry-node : (rows : List Row) (path : Bytes) → option_map node_of (find (λ (e : ManifestEntry). bytes_eq e.path path) (map entry_of_row rows)) ≡ option_map file_node (revision_at rows path)
entry-node [] path = refl
entry-node (row ∷ rows) path = by (bytes_eq row.path path) refl (entry-node rows path)
  where
    by : (t : Bool) → bytes_eq row.path path ≡ t → option_map node_of (find (λ (e : ManifestEntry). bytes_eq e.path path) (map entry_of_row rows)) ≡ option_map file_node (revision_at rows path)
        → option_map node_of (find (λ (e : ManifestEntry). bytes_eq e.path path) (map entry_of_row (row ∷ rows))) ≡ option_map file_node (revision_at (row ∷ rows) path)
    by true t later = rw t refl
    by false t later = rw t later

mapped-or : (a b : Option FileRevision) → option_map file_node (option_or a b) ≡ option_or (option_map file_node a) (option_map file_node b)
mapped-or None b = refl
mapped-or (Some a) b = refl

-- The node that a path has in the first parent's manifest, or, where it is absent there, in the second's.
pub node-by_entries : (ps : Parents) (path : Bytes) (first second : List ManifestEntry) → map entry_of_row (ps.first).rows ≡ first → map entry_of_row (ps.second).rows ≡ second
    → unwrap_or (option_or (option_map node_of (find (λ (e : ManifestEntry). bytes_eq e.path path) first)) (option_map node_of (find (λ (e : ManifestEntry). bytes_eq e.path path) second))) null ≡ node_in_parents ps path
node-by_entries ps path first second f s =
    let a = ap (λ (es : List ManifestEntry). option_map node_of (find (λ (e : ManifestEntry). bytes_eq e.path path) es)) (sym f) ∙ entry-node (ps.first).rows path in
    let b = ap (λ (es : List ManifestEntry). option_map node_of (find (λ (e : ManifestEntry). bytes_eq e.path path) es)) (sym s) ∙ entry-node (ps.second).rows path in
    (λ i. unwrap_or (option_or (a i) (b i)) null) ∙ ap (λ (o : Option Id). unwrap_or o null) (sym (mapped-or (revision_at (ps.first).rows path) (revision_at (ps.second).rows path)))
