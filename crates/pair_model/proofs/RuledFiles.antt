-- The rows that the rule makes for a tree's rows, read as a tree's files again, are those files: a file whose group may write it is a plain one.
use Rattle.std.proofs.Common.{◌≡◌, Bool, true, false, true≢false, List, [], ◌∷◌, map, Option, Some, None, refl, sym, ap, ◌∙◌}
use Rattle.std.specs.Prelude.{IsTrue, bytes_eq, unwrap_or, if◌then◌else◌}
use Rattle.std.specs.Option.{option_or}
use Rattle.std.proofs.lemmas.Slice.Eq.{bytes_eq-Decides}
use Rattle.text_model.specs.Lists.{Each}
use Rattle.text_model.specs.Text.{Bytes, IsBytes}
use Rattle.text_model.specs.Id.{Id, blob_id}
use Rattle.text_model.specs.Path.{is_fit_path}
use Rattle.text_model.proofs.Options.{some_is, none_some}
use Rattle.git_model.specs.Tree.{Mode, File, GroupFile, Exec, Link, Directory, Gitlink, is_blob_mode}
use Rattle.git_model.specs.Residue.{plain_mode, plain_files}
use Rattle.view_model.specs.View.{FileRevision, IsRowId, TreeRow}
use Rattle.view_model.specs.Held.{file_row_of}
use Rattle.pair_model.specs.Block.{Parents}
use Rattle.pair_model.specs.Rule.{mode_of_flag, flag_of_mode, with_body, ruled_revision, ruled_rows, revision_at, new_revision, tree_row_of}

abbrev pub IsRow : TreeRow → Type 0
IsRow row = IsTrue (is_fit_path row.path) × IsBytes row.path × IsBytes row.content × IsRowId row.mode row.id row.content

kept : (id : Id) (e : Option FileRevision) (r : FileRevision) → with_body id e ≡ Some r → blob_id r.body ≡ id
kept id None r h = absurd (none_some h)
kept id (Some s) r h = by (bytes_eq (blob_id s.body) id) refl h
  where
    by : (t : Bool) → bytes_eq (blob_id s.body) id ≡ t → (if t then Some s else None) ≡ Some r → blob_id r.body ≡ id
    by true e h = ap (λ (x : FileRevision). blob_id x.body) (sym (some_is h)) ∙ (bytes_eq-Decides (blob_id s.body) id).0 e
    by false e h = absurd (none_some h)

one-of : (id : Id) (o p : Option FileRevision) (r : FileRevision) → ((s : FileRevision) → o ≡ Some s → blob_id s.body ≡ id)
    → ((s : FileRevision) → p ≡ Some s → blob_id s.body ≡ id) → blob_id r.body ≡ id
    → blob_id (unwrap_or (option_or o p) r).body ≡ id
one-of id None None r f g h = h
one-of id None (Some s) r f g h = g s refl
one-of id (Some s) p r f g h = f s refl

-- the revision that the rule gives has the row's blob
ruled-blob : (e1 e2 : Option FileRevision) (row : TreeRow) → row.id ≡ blob_id row.content → blob_id (ruled_revision e1 e2 row).body ≡ row.id
unfolding ruled_revision
ruled-blob e1 e2 row is = one-of row.id (with_body row.id e1) (with_body row.id e2) (new_revision e1 e2 row.content) (kept row.id e1) (kept row.id e2) (sym is)

file-again : (m : Mode) (id : Id) (content : Bytes) → is_blob_mode m ≡ true → IsRowId m id content → (mode_of_flag (flag_of_mode m) ≡ plain_mode m) × (id ≡ blob_id content)
file-again File id content file is = (refl, is)
file-again GroupFile id content file is = (refl, is)
file-again Exec id content file is = (refl, is)
file-again Link id content file is = (refl, is)
file-again Directory id content file is = absurd (true≢false (sym file))
file-again Gitlink id content file is = absurd (true≢false (sym file))

pub files-again : (ps : Parents) (rows : List TreeRow) → Each IsRow rows → map file_row_of (map tree_row_of (ruled_rows ps rows)) ≡ plain_files (map file_row_of rows)
files-again ps [] h = refl
files-again ps (row ∷ rows) h = by (is_blob_mode row.mode) refl (files-again ps rows h.1)
  where
    by : (t : Bool) → is_blob_mode row.mode ≡ t → map file_row_of (map tree_row_of (ruled_rows ps rows)) ≡ plain_files (map file_row_of rows)
        → map file_row_of (map tree_row_of (ruled_rows ps (row ∷ rows))) ≡ plain_files (map file_row_of (row ∷ rows))
    by true e rest =
        let again = file-again row.mode row.id row.content e h.0.3 in
        let blob = ruled-blob (revision_at (ps.first).rows row.path) (revision_at (ps.second).rows row.path) row again.1 in
        rw e (λ i. record { path = row.path; mode = again.0 i; id = blob i } ∷ rest i)
    by false e rest = rw e rest
