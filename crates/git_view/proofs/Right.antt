-- A held commit is a right view: its tree is the root of its files.
use Rattle.std.proofs.Common.{◌≡◌, ◌≤◌, ℕ, Bool, true, false, not, List, [], ◌∷◌, map, length, Some, None, refl, sym, ap, subst, ◌∙◌, inl, inr, arith}
use Rattle.std.specs.Prelude.{IsTrue, if◌then◌else◌, is_some, nat_lt}
use Rattle.std.specs.List.{list_any}
use Rattle.std.proofs.lemmas.Bool.Decides.{nat_tests}
use Rattle.text_model.specs.Lists.{In, Each, rises}
use Rattle.text_model.specs.Text.{Bytes, IsBytes, is_below}
use Rattle.text_model.specs.Id.{Id, blob, tree, commit, blob_id, object_id}
use Rattle.text_model.specs.Path.{is_fit_path, lies_below}
use Rattle.text_model.specs.Fault.{FaultName}
use Rattle.text_model.specs.Fault as fault
use Rattle.git_model.specs.Tree.{Mode, File, GroupFile, Exec, Link, Directory, Gitlink, is_directory, is_blob_mode, tree_text, has_distinct}
use Rattle.git_model.specs.Commit.{commit_fault, parent_ids}
use Rattle.git_model.specs.Object.{Object, content_fault}
use Rattle.git_model.specs.Unfold.{FileRow, tree_rows, walk_fault}
use Rattle.git_model.specs.Shape.{leaf_of, shape_entries, root_of}
use Rattle.git_model.proofs.CommitLemmas.{parent_ids-text}
use Rattle.text_model.proofs.Options.{some_is}
use Rattle.git_store.specs.Known.{AreKnown}
use Rattle.tree_shape.specs.Sets.{IsFileRow, IsFiles}
use Rattle.tree_shape.proofs.Again.{root-again}
use Rattle.tree_shape.proofs.Unfolding.{walk-files}
use Rattle.view_model.specs.View.{CommitView, TreeRow, IsRowId, IsCommitView, leaf_of_row, root_of_rows, tree_paths, has_clash}
use Rattle.view_model.specs.Held.{file_row_of, IsBlobHeld, IsRowHeld, IsCommitHeld}
use Rattle.git_view.proofs.Found.{There, found}
use Rattle.git_view.proofs.Walks.{none-refused, apart}
use Rattle.git_view.proofs.Rows.{blob-of, rows-are}
use Rattle.git_view.proofs.Shapes.{same-entries}

-- ---- the parents

record Parents (ids : List Id) : Type 0 where
  pub few : length ids ≤ 64
  pub distinct : has_distinct ids ≡ true

parents-fit : (shape distinct : Bool) (count : ℕ) → (if shape then Some fault.ObjectShape else if not distinct then Some fault.ParentTwice else if nat_lt 64 count then Some fault.ParentLimit else None) ≡ None → (count ≤ 64) × (distinct ≡ true)
parents-fit true d n h = absurd cc
parents-fit false false n h = absurd cc
parents-fit false true n h = (few (nat_lt 64 n) refl h, refl)
  where
    few : (t : Bool) → nat_lt 64 n ≡ t → (if t then Some fault.ParentLimit else None) ≡ None → n ≤ 64
    few true t i = absurd cc
    few false t i = grind (arith, t, nat_tests)

parents-of : (content : Bytes) → content_fault commit content ≡ None → Parents (parent_ids content)
parents-of content h =
    let p = parents-fit (is_some (commit_fault content)) (has_distinct (parent_ids content)) (length (parent_ids content)) h in
    record { few = p.0; distinct = p.1 }

-- ---- the rows

abbrev IsRow : TreeRow → Type 0
IsRow row = IsTrue (is_fit_path row.path) × IsBytes row.path × IsBytes row.content × IsRowId row.mode row.id row.content

module _ (known : List Object) (are : AreKnown known) where
  -- what is known of a row that is a file
  blob-is : (row : TreeRow) → There known blob row.id → IsBlobHeld known row → IsBytes row.content × (row.id ≡ blob_id row.content)
  blob-is row there held =
      let o : there.object ≡ held.0 = some_is {x = there.object} {y = held.0} (sym there.at ∙ held.1) in
      let of = found known row.id held.0 are held.1 in
      (subst IsBytes held.2 of.sound.bytes, of.id_is ∙ of.of_content ∙ (λ i. object_id ((ap (λ (x : Object). x.kind) (sym o) ∙ there.kind_is) i) (held.2 i)))

  row-is : (row : TreeRow) → IsFileRow (file_row_of row) → (is_blob_mode row.mode ≡ true → There known blob row.id) → IsRowHeld known row → IsRow row
  row-is row is there held = (is.fit, is.bytes, bytes (is_blob_mode row.mode) refl, id row.mode refl)
    where
      file : is_blob_mode row.mode ≡ true → IsBytes row.content × (row.id ≡ blob_id row.content)
      file t = blob-is row (there t) (held.blob t)

      bytes : (t : Bool) → is_blob_mode row.mode ≡ t → IsBytes row.content
      bytes true t = (file t).0
      bytes false t = subst IsBytes (sym (held.none t)) tt

      id : (m : Mode) → row.mode ≡ m → IsRowId m row.id row.content
      id File m = (file (ap is_blob_mode m)).1
      id GroupFile m = (file (ap is_blob_mode m)).1
      id Exec m = (file (ap is_blob_mode m)).1
      id Link m = (file (ap is_blob_mode m)).1
      id Directory m = (is.empty (ap is_directory m), held.none (ap is_blob_mode m))
      id Gitlink m = (is.id, held.none (ap is_blob_mode m))

  rows-are_rows : (rows : List TreeRow) → Each IsFileRow (map file_row_of rows) → ((row : FileRow) → In row (map file_row_of rows) → is_blob_mode row.mode ≡ true → There known blob row.id) → Each (IsRowHeld known) rows → Each IsRow rows
  rows-are_rows [] files there held = tt
  rows-are_rows (row ∷ rows) files there held = (row-is row files.0 (there (file_row_of row) (inl refl)) held.0, rows-are_rows rows files.1 (λ r i. there r (inr i)) held.1)

  paths-same : (rows : List TreeRow) → map (λ r. r.path) (map file_row_of rows) ≡ tree_paths rows
  paths-same [] = refl
  paths-same (row ∷ rows) = ap (λ (l : List Bytes). row.path ∷ l) (paths-same rows)

-- ---- no clash

no-any : (test : Bytes → Bool) (paths : List Bytes) → ((path : Bytes) → In path paths → test path ≡ false) → list_any test paths ≡ false
no-any test [] h = refl
no-any test (path ∷ paths) h = rw (h path (inl refl)) (no-any test paths (λ p i. h p (inr i)))

no-clash : (paths : List Bytes) → ((a b : Bytes) → In a paths → In b paths → lies_below a b ≡ false) → has_clash paths ≡ false
no-clash paths h = no-any (λ path. list_any (lies_below path) paths) paths (λ a i. no-any (lies_below a) paths (λ b j. h a b i j))

row-of-path : (rows : List TreeRow) (path : Bytes) → In path (tree_paths rows) → (row : FileRow) × In row (map file_row_of rows) × (path ≡ row.path)
row-of-path [] path i = absurd i
row-of-path (row ∷ rows) path i = elim i [ inl q ↦ (file_row_of row, inl refl, q) | inr j ↦ let r = row-of-path rows path j in (r.0, inr r.1, r.2) ]

-- ---- the root

leaves-same : (rows : List TreeRow) → shape_entries 257 (map leaf_of_row rows) ≡ shape_entries 257 (map leaf_of (map file_row_of rows))
leaves-same rows = same-entries 257 rows

-- ---- the whole

module _ (known : List Object) (are : AreKnown known) (id : Id) where
  pub held-is_view : (c : CommitView) → IsCommitHeld known id c → walk_fault known (c.value).tree_id ≡ None → IsCommitView c
  unfolding root_of_rows root_of
  held-is_view c held walks =
      let root : Id = (c.value).tree_id in
      let of = found known id held.object are held.is_held in
      let parents : Parents (parent_ids held.object.content) = parents-of held.object.content (subst (λ k. content_fault k held.object.content ≡ None) held.kind of.sound.fits) in
      let same : parent_ids held.object.content ≡ (c.value).parents = parent_ids-text held.object.content c.value held.text in
      let rows : map file_row_of c.rows ≡ tree_rows known root = rows-are known id c are.are held walks in
      let files : IsFiles (map file_row_of c.rows) = subst IsFiles (sym rows) (walk-files known root are.are (none-refused known are.are root walks)) in
      record {
        value = held.text.0;
        few = subst (λ (ids : List Id). length ids ≤ 64) same parents.few;
        distinct = subst (λ (ids : List Id). has_distinct ids ≡ true) same parents.distinct;
        rows = rows-are_rows known are c.rows files.each (λ row i. blob-of known are.are root row walks (subst (λ (rs : List FileRow). In row rs) rows i)) held.blobs;
        in_order = subst (λ (paths : List Bytes). IsTrue (rises is_below paths)) (paths-same known are c.rows) files.in_order;
        no_clash = no-clash (tree_paths c.rows) (λ a b i j.
            let x = row-of-path c.rows a i in
            let y = row-of-path c.rows b j in
            (λ k. lies_below (x.2 k) (y.2 k)) ∙ apart known are.are root (map file_row_of c.rows) held.rows y.0 x.0 y.1 x.1);
        agrees = sym (root-again known are.are root walks) ∙ ap root_of (sym rows) ∙ sym (ap (λ es. object_id tree (tree_text es)) (leaves-same c.rows));
      }
