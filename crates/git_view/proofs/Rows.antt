-- The rows of a commit: those of the walk through its tree, with the contents of their blobs.
use Rattle.std.proofs.Common.{◌≡◌, ◌||◌, not, Bool, true, List, [], ◌∷◌, map, Option, Some, None, refl, sym, ap, ◌∙◌, inl, inr}
use Rattle.std.specs.Prelude.{if◌then◌else◌}
use Rattle.text_model.specs.Lists.{In, Each}
use Rattle.text_model.specs.Text.{Bytes}
use Rattle.text_model.specs.Id.{Id, blob, tree}
use Rattle.git_model.specs.Tree.{Mode, File, GroupFile, Exec, Link, Directory, Gitlink, is_directory, is_blob_mode}
use Rattle.git_model.specs.Object.{Object, object_at, AreObjects}
use Rattle.git_model.specs.Unfold.{FileRow, is_kind_there, is_object_there, is_row, is_path_below, walk, walk_fault, met_rows, tree_rows}
use Rattle.git_model.proofs.SortLemmas.{of-order}
use Rattle.tree_shape.proofs.Elements.{of-filter}
use Rattle.tree_shape.proofs.Unfolding.{unfolds}
use Rattle.view_model.specs.View.{CommitView, TreeRow}
use Rattle.view_model.specs.Held.{file_row_of, IsRowHeld, IsCommitHeld}
use Rattle.git_view.proofs.Found.{There, there}
use Rattle.git_view.proofs.Unfoldings.{one-unfolding}
use Rattle.git_view.proofs.Walks.{all-there, none-refused}

-- the content of an object, nothing where there is none
abbrev pub content_of : Option Object → Bytes
content_of None = []
content_of (Some o) = o.content

abbrev pub content_in : List Object → Id → Bytes
content_in known id = content_of (object_at known id)

-- a row that is no file has no content
abbrev pub content_by : Bool → List Object → Id → Bytes
content_by file known id = if file then content_in known id else []

abbrev pub content_for : List Object → Mode → Id → Bytes
content_for known mode id = content_by (is_blob_mode mode) known id

abbrev pub row_in : List Object → FileRow → TreeRow
row_in known row = record { path = row.path; mode = row.mode; id = row.id; content = content_for known row.mode row.id }

pub rows-again : (known : List Object) (rows : List FileRow) → map file_row_of (map (row_in known) rows) ≡ rows
rows-again known [] = refl
rows-again known (row ∷ rows) = ap (λ (l : List FileRow). row ∷ l) (rows-again known rows)

pub blob-there : (known : List Object) (v : FileRow) → is_blob_mode v.mode ≡ true → is_object_there known v ≡ true → is_kind_there blob (object_at known v.id) ≡ true
blob-there known v file h = by v.mode file h
  where
    by : (m : Mode) → is_blob_mode m ≡ true → (if is_directory m then is_kind_there tree (object_at known v.id) else not (is_blob_mode m) || is_kind_there blob (object_at known v.id)) ≡ true → is_kind_there blob (object_at known v.id) ≡ true
    by File f h = h
    by GroupFile f h = h
    by Exec f h = h
    by Link f h = h
    by Directory f h = absurd cc
    by Gitlink f h = absurd cc

-- each row of a tree that is a file is that of a blob
pub blob-of : (known : List Object) → AreObjects known → (root : Id) (row : FileRow) → walk_fault known root ≡ None → In row (tree_rows known root) → is_blob_mode row.mode ≡ true → There known blob row.id
blob-of known are root row h i file =
    let of = of-filter (is_row known) row (walk known root) (of-order is_path_below row (met_rows known root) i) in
    there known blob row.id (blob-there known row file (all-there known 0 (walk known root) row (none-refused known are root h) of.0))

pub blobs-held : (known : List Object) (rows : List FileRow) → ((row : FileRow) → In row rows → is_blob_mode row.mode ≡ true → There known blob row.id) → Each (IsRowHeld known) (map (row_in known) rows)
blobs-held known [] all = tt
blobs-held known (row ∷ rows) all = (
  record {
    blob = λ file. let of = all row (inl refl) file in (of.object, of.at, sym (ap (λ (t : Bool). content_by t known row.id) file ∙ ap content_of of.at));
    none = λ other. ap (λ (t : Bool). content_by t known row.id) other;
  },
  blobs-held known rows (λ r i. all r (inr i)),
)

-- the rows of a commit that is held are those of its tree
pub rows-are : (known : List Object) (id : Id) (c : CommitView) → AreObjects known → IsCommitHeld known id c → walk_fault known (c.value).tree_id ≡ None → map file_row_of c.rows ≡ tree_rows known (c.value).tree_id
rows-are known id c are held h =
    one-unfolding known (c.value).tree_id (map file_row_of c.rows) (tree_rows known (c.value).tree_id) held.rows (unfolds known (c.value).tree_id are (none-refused known are (c.value).tree_id h))
