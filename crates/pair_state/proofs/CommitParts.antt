-- The parts of a commit: the trees of its files, the blob of each and itself; and when all of them are there.
use Rattle.std.proofs.Common.{◌≡◌, ◌≢◌, ◌≤◌, ◌+◌, ◌⊎◌, ℕ, Bool, true, false, true≢false, arith, List, [], ◌∷◌, ◌++◌, length, map, Some, None, refl, sym, ap, subst, ◌∙◌, append_assoc, append-nil, inl, inr}
use Rattle.std.specs.Prelude.{◌||◌, if◌then◌else◌, IsTrue, is_some, not}
use Rattle.std.specs.List.{list_any, sum_by, join_with_byte}
use Rattle.std.proofs.lemmas.List.Splits.{join_with_byte-slice_split}
use Rattle.std.proofs.lemmas.List.Sums.{sum_by-cons}
use Rattle.std.proofs.lemmas.Slice.Eq.{bytes_eq-Decides}
use Rattle.text_model.specs.Lists.{In, Each, rises}
use Rattle.text_model.specs.Text.{Bytes, is_below}
use Rattle.text_model.specs.Id.{Id, IsId, blob, tree, commit, object_id, kind_word, blob_id}
use Rattle.text_model.specs.Path.{components, lies_below}
use Rattle.text_model.proofs.OrderLemmas.{is_below-irreflexive}
use Rattle.text_model.proofs.Elements.{in_left, in_right, each_in, in_any, none_in, each_from, none_all, in_map}
use Rattle.text_model.proofs.Digests.{IsId-object_id}
use Rattle.git_model.specs.Tree.{Mode, File, Exec, Link, Directory, is_directory, is_blob_mode, tree_text, GroupFile, Gitlink}
use Rattle.git_model.specs.Commit.{commit_text}
use Rattle.git_model.specs.Object.{Object, object_of, object_at, is_other_content}
use Rattle.git_model.specs.Unfold.{FileRow, IsUnfolding, is_kind_there, row_size, rows_limit, walk_fault, is_object_there, tree_rows}
use Rattle.git_model.specs.Shape.{Leaf, leaf_of, shape_objects, root_of, trees_of, clash_from, first_clash}
use Rattle.git_store.specs.Known.{AreKnown, is_same_as, knows_same}
use Rattle.git_store.proofs.KnownLemmas.{same-has_no_fault, fault_by}
use Rattle.git_view.proofs.Found.{found}
use Rattle.git_view.proofs.Shapes.{filled, same-entries}
use Rattle.git_view.proofs.Walks.{none-refused}
use Rattle.tree_shape.specs.Laws.{IsKnown, AreWalkable}
use Rattle.tree_shape.specs.Sets.{IsFileRow, IsFiles}
use Rattle.tree_shape.specs.Shapes.{is_tree}
use Rattle.tree_shape.proofs.Elements.{in-append, in-filter, of-filter}
use Rattle.tree_shape.proofs.FileSets.{later, rises-rest}
use Rattle.tree_shape.proofs.Names.{components-some, same-components}
use Rattle.tree_shape.proofs.Rows.{in-lies}
use Rattle.tree_shape.proofs.Unfolding.{unfolds, fit-short}
use Rattle.tree_shape.proofs.Walking.{rows-again, no-fault}
use Rattle.view_model.specs.View.{CommitView, TreeRow, IsCommitView, rows_size, files_among, commit_id, commit_objects, leaf_of_row, root_of_rows, tree_paths, IsRowId}
use Rattle.view_model.specs.Held.{file_row_of, IsCommitHeld, IsRowHeld}
use Rattle.pair_model.specs.Block.{Block, block_of_id}
use Rattle.pair_model.specs.Collision.{commit_collides}
use Rattle.pair_known.specs.Ruled.{blob_of_row}
use Rattle.git_store.specs.Growth.{Clash}
use Rattle.git_store.proofs.Growth.{found-in, none-other}
use Rattle.pair_state.proofs.ShapeLemmas.{Apart, Part, part-of, tree-in, blob-in, empty_tree, empty-in}

-- ---- paths

join-append : (xs : List Bytes) (y : Bytes) (ys : List Bytes) → xs ≢ [] → join_with_byte 47 (xs ++ y ∷ ys) ≡ join_with_byte 47 xs ++ 47 ∷ join_with_byte 47 (y ∷ ys)
join-append [] y ys some = absurd (some refl)
join-append (x ∷ []) y ys some = refl
join-append (x ∷ z ∷ xs) y ys some =
    ap (λ (t : Bytes). x ++ 47 ∷ t) (join-append (z ∷ xs) y ys (λ q. cc))
    ∙ sym (append_assoc x (47 ∷ join_with_byte 47 (z ∷ xs)) (47 ∷ join_with_byte 47 (y ∷ ys)))

-- a path with more components lies below
longer-lies : (p q m : Bytes) (more : List Bytes) → components q ≡ components p ++ m ∷ more → lies_below q p ≡ true
longer-lies p q m more e =
    let whole : q ≡ p ++ 47 ∷ join_with_byte 47 (m ∷ more) =
    sym (join_with_byte-slice_split 47 q) ∙ ap (join_with_byte 47) e ∙ join-append (components p) m more (components-some p) ∙ ap (λ (t : Bytes). t ++ 47 ∷ join_with_byte 47 (m ∷ more)) (join_with_byte-slice_split 47 p) in
    ap (λ (t : Bytes). lies_below t p) whole ∙ in-lies p (join_with_byte 47 (m ∷ more))

file-mode : (m : Mode) → is_blob_mode m ≡ true → is_directory m ≡ false
file-mode File h = refl
file-mode GroupFile h = refl
file-mode Exec h = refl
file-mode Link h = refl
file-mode Directory h = absurd (true≢false (sym h))
file-mode Gitlink h = refl

-- the id of a row that is a file
pub blob-id : (m : Mode) (id : Id) (content : Bytes) → IsRowId m id content → is_blob_mode m ≡ true → id ≡ blob_id content
blob-id File id content h b = h
blob-id GroupFile id content h b = h
blob-id Exec id content h b = h
blob-id Link id content h b = h
blob-id Directory id content h b = absurd (true≢false (sym b))
blob-id Gitlink id content h b = absurd (true≢false (sym b))

-- the id of a row is an id, that of an empty directory is the tree without entries, and what is no file has no content
row-id : (m : Mode) (id : Id) (content : Bytes) → IsRowId m id content → IsId id
row-id File id content h = subst IsId (sym h) (IsId-object_id blob content)
row-id GroupFile id content h = subst IsId (sym h) (IsId-object_id blob content)
row-id Exec id content h = subst IsId (sym h) (IsId-object_id blob content)
row-id Link id content h = subst IsId (sym h) (IsId-object_id blob content)
row-id Directory id content h = subst IsId (sym h.0) (IsId-object_id tree [])
row-id Gitlink id content h = h.0

row-empty : (m : Mode) (id : Id) (content : Bytes) → IsRowId m id content → is_directory m ≡ true → id ≡ object_id tree []
row-empty File id content h d = absurd (true≢false (sym d))
row-empty GroupFile id content h d = absurd (true≢false (sym d))
row-empty Exec id content h d = absurd (true≢false (sym d))
row-empty Link id content h d = absurd (true≢false (sym d))
row-empty Directory id content h d = h.0
row-empty Gitlink id content h d = absurd (true≢false (sym d))

row-content : (m : Mode) (id : Id) (content : Bytes) → IsRowId m id content → is_blob_mode m ≡ false → content ≡ []
row-content File id content h f = absurd (true≢false f)
row-content GroupFile id content h f = absurd (true≢false f)
row-content Exec id content h f = absurd (true≢false f)
row-content Link id content h f = absurd (true≢false f)
row-content Directory id content h f = h.1
row-content Gitlink id content h f = h.1

each-map : {X Y : Type 0} (P : Y → Type 0) (f : X → Y) (xs : List X) → ((x : X) → In x xs → P (f x)) → Each P (map f xs)
each-map P f [] h = tt
each-map P f (x ∷ xs) h = (h x (inl refl), each-map P f xs (λ y i. h y (inr i)))

-- the blob of a row that is a file is there
blob-there : (known : List Object) (v : FileRow) → is_blob_mode v.mode ≡ true → is_kind_there blob (object_at known v.id) ≡ true → is_object_there known v ≡ true
blob-there known v b h = ap (λ (t : Bool). if t then is_kind_there tree (object_at known v.id) else not (is_blob_mode v.mode) || is_kind_there blob (object_at known v.id)) (file-mode v.mode b)
    ∙ ap (λ (t : Bool). not t || is_kind_there blob (object_at known v.id)) b ∙ h

paths-of_files : (rows : List TreeRow) → map (λ (r : FileRow). r.path) (map file_row_of rows) ≡ tree_paths rows
paths-of_files [] = refl
paths-of_files (row ∷ rows) = ap (λ (ps : List Bytes). row.path ∷ ps) (paths-of_files rows)

-- rows in order are known by their paths
one-row : (rows : List TreeRow) → rises is_below (map (λ (r : FileRow). r.path) (map file_row_of rows)) ≡ true → (a b : TreeRow) → In a rows → In b rows → a.path ≡ b.path → a ≡ b
one-row [] up a b i j e = absurd i
one-row (x ∷ rows) up a b (inl p) (inl q) e = p ∙ sym q
one-row (x ∷ rows) up a b (inl p) (inr j) e = absurd (true≢false (sym (later (file_row_of x) (map file_row_of rows) (file_row_of b) up (in_map file_row_of b rows j)) ∙ ap (λ (t : Bytes). is_below t b.path) (sym (ap (λ (r : TreeRow). r.path) p) ∙ e) ∙ is_below-irreflexive b.path))
one-row (x ∷ rows) up a b (inr i) (inl q) e = absurd (true≢false (sym (later (file_row_of x) (map file_row_of rows) (file_row_of a) up (in_map file_row_of a rows i)) ∙ ap (λ (t : Bytes). is_below t a.path) (sym (ap (λ (r : TreeRow). r.path) q) ∙ sym e) ∙ is_below-irreflexive a.path))
one-row (x ∷ rows) up a b (inr i) (inr j) e = one-row rows (rises-rest (file_row_of x) (map file_row_of rows) up) a b i j e

pub of-map : {X Y : Type 0} (f : X → Y) (y : Y) (xs : List X) → In y (map f xs) → (x : X) × In x xs × (y ≡ f x)
of-map f y [] i = absurd i
of-map f y (x ∷ xs) (inl q) = (x, inl refl, q)
of-map f y (x ∷ xs) (inr j) = let m = of-map f y xs j in (m.0, inr m.1, m.2)

no-any-below : (row : FileRow) (before : List FileRow) → ((b : FileRow) → In b before → lies_below row.path b.path ≡ false) → list_any (λ b. lies_below row.path b.path) before ≡ false
no-any-below row [] h = refl
no-any-below row (b ∷ before) h = rw (h b (inl refl), no-any-below row before (λ x i. h x (inr i))) refl

clash-none : (at : ℕ) (before rows : List FileRow) → ((a b : FileRow) → In a rows → In b (before ++ rows) → lies_below a.path b.path ≡ false) → clash_from at before rows ≡ None
unfolding clash_from
clash-none at before [] h = refl
clash-none at before (row ∷ rows) h =
    ap (λ (t : Bool). if t then Some at else clash_from (at + 1) (before ++ row ∷ []) rows) (no-any-below row before (λ b i. h row b (inl refl) (in_left b before (row ∷ rows) i)))
    ∙ clash-none (at + 1) (before ++ row ∷ []) rows (λ a b i j. h a b (inr i) (subst (λ (l : List FileRow). In b l) (append_assoc before (row ∷ []) rows) j))

size-same : (rows : List TreeRow) → sum_by row_size (map file_row_of rows) ≡ sum_by (λ (row : TreeRow). length row.path + 42) rows
size-same [] = refl
size-same (row ∷ rows) =
    sum_by-cons row_size (file_row_of row) (map file_row_of rows) ∙ ap (λ (n : ℕ). (length row.path + 42) + n) (size-same rows)
    ∙ sym (sum_by-cons (λ (row : TreeRow). length row.path + 42) row rows)

same-leaves : (rows : List TreeRow) → map (filled (λ _ _. [])) (map leaf_of_row rows) ≡ map leaf_of (map file_row_of rows)
same-leaves [] = refl
same-leaves (row ∷ rows) = ap (λ l. leaf_of (file_row_of row) ∷ l) (same-leaves rows)

alike : (o : Object) → is_same_as o (Some o) ≡ true
alike o = rw ((bytes_eq-Decides (kind_word o.kind) (kind_word o.kind)).1 refl, (bytes_eq-Decides o.content o.content).1 refl) refl

abbrev pub own : CommitView → Object
own c = object_of commit (commit_text c.value)

module _ (c : CommitView) (view : IsCommitView c) where
  abbrev pub files : List FileRow
  files = map file_row_of c.rows

  up : rises is_below (map (λ (r : FileRow). r.path) files) ≡ true
  up = ap (rises is_below) (paths-of_files c.rows) ∙ view.in_order

  -- ---- the files

  row-file : (row : TreeRow) → In row c.rows → IsFileRow (file_row_of row)
  row-file row i =
      let r = each_in _ c.rows row view.rows i in
      record { fit = r.0; bytes = r.1; empty = row-empty row.mode row.id row.content r.3; id = row-id row.mode row.id row.content r.3 }

  pub are-files : IsFiles files
  are-files = record { each = each-map IsFileRow file_row_of c.rows row-file; in_order = up }

  -- a row that is a file
  pub among : (row : TreeRow) → In row (files_among c.rows) → In row c.rows × (is_blob_mode row.mode ≡ true)
  among row i = of-filter (λ (t : TreeRow). is_blob_mode t.mode) row c.rows i

  no-lies : (a b : TreeRow) → In a c.rows → In b c.rows → lies_below a.path b.path ≡ false
  no-lies a b i j =
      none_in (lies_below a.path) (tree_paths c.rows) b.path
      (none_in (λ path. list_any (lies_below path) (tree_paths c.rows)) (tree_paths c.rows) a.path view.no_clash (in_map (λ (r : TreeRow). r.path) a c.rows i))
      (in_map (λ (r : TreeRow). r.path) b c.rows j)

  pub no-clash : first_clash files ≡ None
  no-clash = clash-none 0 [] files (λ a b i j.
      let x = of-map file_row_of a c.rows i in
      let y = of-map file_row_of b c.rows j in
      (λ k. lies_below (x.2 k).path (y.2 k).path) ∙ no-lies x.0 y.0 x.1 y.1)

  leaves-apart : Apart (map leaf_of_row c.rows)
  leaves-apart a b i j more e =
      let x = of-map leaf_of_row a c.rows i in
      let y = of-map leaf_of_row b c.rows j in
      let parts : components y.0.path ≡ components x.0.path ++ more = sym (ap (λ l. l.names) y.2) ∙ e ∙ ap (λ l. l.names ++ more) x.2 in
      x.2 ∙ ap leaf_of_row (one-row c.rows up x.0 y.0 x.1 y.1 (by x.0 y.0 x.1 y.1 more parts)) ∙ sym y.2
    where
      by : (x y : TreeRow) → In x c.rows → In y c.rows → (more : List Bytes) → components y.path ≡ components x.path ++ more → x.path ≡ y.path
      by x y i j [] parts = same-components x.path y.path (sym (append-nil (components x.path)) ∙ sym parts)
      by x y i j (m ∷ more) parts = absurd (true≢false (sym (longer-lies x.path y.path m more parts) ∙ no-lies y x j i))

  -- ---- the parts

  abbrev objects : List Object
  objects = commit_objects c

  in-shape : (o : Object) → In o (shape_objects 257 (map leaf_of_row c.rows)) → In o (commit_objects c)
  unfolding commit_objects
  in-shape o i = in_left o (shape_objects 257 (map leaf_of_row c.rows)) (own c ∷ []) i

  pub own-in : In (own c) (commit_objects c)
  unfolding commit_objects
  own-in = in_right (own c) (shape_objects 257 (map leaf_of_row c.rows)) (own c ∷ []) (inl refl)

  pub blob-of : (row : TreeRow) → In row (files_among c.rows) → In (blob_of_row row) (commit_objects c)
  blob-of row j =
      let i = among row j in
      let r = each_in _ c.rows row view.rows i.0 in
      let short : length (components row.path) ≤ 256 = fit-short row.path r.0 in
      in-shape (blob_of_row row)
      (blob-in 257 (map leaf_of_row c.rows) (leaf_of_row row) leaves-apart (in_map leaf_of_row row c.rows i.0) (components-some row.path) (omega (arith, short)) i.1)

  pub tree-of : (o : Object) → In o (trees_of files) → In o (commit_objects c)
  unfolding trees_of
  tree-of o i =
      let t = of-filter is_tree o (shape_objects 257 (map leaf_of files)) i in
      in-shape o (tree-in (λ _ _. []) 257 (map leaf_of_row c.rows) o (subst (λ ls. In o (shape_objects 257 ls)) (sym (same-leaves c.rows)) t.0) t.1)

  pub data IsPart (o : Object) : Type 0 where
    a_tree : In o (trees_of files) → IsPart o
    a_blob : (row : TreeRow) → In row (files_among c.rows) → o ≡ blob_of_row row → IsPart o
    itself : o ≡ own c → IsPart o

  pub part : (o : Object) → In o (commit_objects c) → IsPart o
  unfolding commit_objects trees_of
  part o i = by (in-append o (shape_objects 257 (map leaf_of_row c.rows)) (own c ∷ []) i)
    where
      shape : Part (λ _ _. []) 257 (map leaf_of_row c.rows) o → IsPart o
      shape (inl t) = a_tree (in-filter is_tree o (shape_objects 257 (map leaf_of files)) (subst (λ ls. In o (shape_objects 257 ls)) (same-leaves c.rows) t.0) t.1)
      shape (inr b) =
          let m = of-map leaf_of_row b.0 c.rows b.1 in
          let i = in-filter (λ (t : TreeRow). is_blob_mode t.mode) m.0 c.rows m.1 (ap (λ (l : Leaf). is_blob_mode l.mode) (sym m.2) ∙ b.2) in
          a_blob m.0 i (b.3 ∙ (λ k. record { id = (m.2 k).id; kind = blob; content = (m.2 k).content }))

      by : In o (shape_objects 257 (map leaf_of_row c.rows)) ⊎ In o (own c ∷ []) → IsPart o
      by (inl j) = shape (part-of (λ _ _. []) 257 (map leaf_of_row c.rows) o j)
      by (inr (inl q)) = itself q
      by (inr (inr j)) = absurd j

  -- the tree of a row that is an empty directory
  empty-of : (row : TreeRow) → In row c.rows → is_directory row.mode ≡ true → In empty_tree (trees_of files)
  empty-of row i dir =
      let short : length (components row.path) ≤ 256 = fit-short row.path (each_in _ c.rows row view.rows i).0 in
      by (part empty_tree (in-shape empty_tree
      (empty-in 257 (map leaf_of_row c.rows) (leaf_of_row row) leaves-apart (in_map leaf_of_row row c.rows i) (components-some row.path) (omega (arith, short)) dir)))
    where
      kind : (o : Object) → empty_tree ≡ o → is_tree o ≡ true
      kind o e = ap is_tree (sym e)

      by : IsPart empty_tree → In empty_tree (trees_of files)
      by (a_tree j) = j
      by (a_blob t j e) = absurd (true≢false (sym (kind (blob_of_row t) e)))
      by (itself e) = absurd (true≢false (sym (kind (own c) e)))

  pub root-is : (c.value).tree_id ≡ root_of files
  unfolding root_of_rows root_of
  root-is = view.agrees ∙ ap (λ es. object_id tree (tree_text es)) (same-entries 257 c.rows)

  -- ---- a store that holds them all

  pub record HoldsAll (new : List Object) : Type 0 where
    pub trees : Each (IsKnown new) (trees_of files)
    pub blobs : Each (λ row. IsKnown new (blob_of_row row)) (files_among c.rows)
    pub itself : IsKnown new (own c)

  module _ (new : List Object) (are : AreKnown new) (all : HoldsAll new) where
    pub known-part : (o : Object) → In o (commit_objects c) → IsKnown new o
    known-part o i = by (part o i)
      where
        by : IsPart o → IsKnown new o
        by (a_tree j) = each_in (IsKnown new) (trees_of files) o all.trees j
        by (a_blob row j e) = subst (IsKnown new) (sym e) (each_in (λ row. IsKnown new (blob_of_row row)) (files_among c.rows) row all.blobs j)
        by (itself e) = subst (IsKnown new) (sym e) all.itself

    known-file : (row : TreeRow) → In row c.rows → is_blob_mode row.mode ≡ true → IsKnown new (blob_of_row row)
    known-file row i file = each_in (λ row. IsKnown new (blob_of_row row)) (files_among c.rows) row all.blobs (in-filter (λ (t : TreeRow). is_blob_mode t.mode) row c.rows i file)

    object-there : (row : TreeRow) → In row c.rows → is_object_there new (file_row_of row) ≡ true
    object-there row i = by (is_directory row.mode) refl (is_blob_mode row.mode) refl
      where
        by : (d : Bool) → is_directory row.mode ≡ d → (b : Bool) → is_blob_mode row.mode ≡ b → is_object_there new (file_row_of row) ≡ true
        by true d b e =
            let id = row-empty row.mode row.id row.content (each_in _ c.rows row view.rows i).3 d in
            let there = each_in (IsKnown new) (trees_of files) empty_tree all.trees (empty-of row i d) in
            ap (λ (t : Bool). if t then is_kind_there tree (object_at new row.id) else not (is_blob_mode row.mode) || is_kind_there blob (object_at new row.id)) d
            ∙ ap (λ (n : Id). is_kind_there tree (object_at new n)) id ∙ ap (is_kind_there tree) there
        by false d true b = blob-there new (file_row_of row) b (ap (is_kind_there blob) (known-file row i b))
        by false d false b =
            ap (λ (t : Bool). if t then is_kind_there tree (object_at new row.id) else not (is_blob_mode row.mode) || is_kind_there blob (object_at new row.id)) d
            ∙ ap (λ (t : Bool). not t || is_kind_there blob (object_at new row.id)) b

    walkable : rows_size c ≤ rows_limit → AreWalkable new files
    walkable fits = record {
      objects = are.are;
      files = are-files;
      apart = no-clash;
      trees = all.trees;
      objects_there = each-map (λ row. is_object_there new row ≡ true) file_row_of c.rows object-there;
      within = subst (λ (n : ℕ). n ≤ rows_limit) (sym (size-same c.rows)) fits;
    }

    pub new-walk : rows_size c ≤ rows_limit → walk_fault new (c.value).tree_id ≡ None
    new-walk fits = ap (walk_fault new) root-is ∙ no-fault new files (walkable fits)

    pub new-held : rows_size c ≤ rows_limit → IsCommitHeld new (commit_id c) c
    unfolding commit_id
    new-held fits = record {
      object = own c;
      is_held = all.itself;
      kind = refl;
      text = (view.value, refl);
      rows = subst (IsUnfolding new (c.value).tree_id) (ap (λ (id : Id). tree_rows new id) root-is ∙ rows-again new files (walkable fits)) (unfolds new (c.value).tree_id are.are (none-refused new are.are (c.value).tree_id (new-walk fits)));
      blobs = each_from (IsRowHeld new) c.rows (λ row i. record {
        blob = λ b. (blob_of_row row, known-file row i b, refl);
        none = row-content row.mode row.id row.content (each_in _ c.rows row view.rows i).3;
      });
    }

    -- no other content of an object that is known stands in the store
    pub none-else : (o x : Object) → IsKnown new o → In x new → is_other_content o x ≡ false
    none-else o x h i =
        let of = found new o.id o are h in
        let like : knows_same new o ≡ true = ap (is_same_as o) h ∙ alike o in
        none_in (is_other_content o) new x (none-other (list_any (is_other_content o) new) (sym (fault_by new o of.sound.fits) ∙ same-has_no_fault new are o like)) i

    pub new-apart : (old : List Object) (blocks : List Block) → ((o : Object) → In o old → In o new) → block_of_id blocks (commit_id c) ≡ None → commit_collides old blocks c ≡ false
    new-apart old blocks older free =
        let none : list_any (λ o. list_any (is_other_content o) (old ++ commit_objects c)) (commit_objects c) ≡ false =
        none_all (λ o. list_any (is_other_content o) (old ++ commit_objects c)) (commit_objects c)
        (λ o i. none_all (is_other_content o) (old ++ commit_objects c) (λ x j. none-else o x (known-part o i) (among x (in-append x old (commit_objects c) j)))) in
        (λ i. none i || is_some (free i))
      where
        among : (x : Object) → In x old ⊎ In x (commit_objects c) → In x new
        among x (inl i) = older x i
        among x (inr i) = found-in new x.id x (known-part x i)

-- a clash among the parts of a commit is a collision
pub clash-collides : (c : CommitView) (old objects : List Object) (blocks : List Block) → ((o : Object) → In o objects → In o (commit_objects c)) → Clash old objects → IsTrue (commit_collides old blocks c)
clash-collides c old objects blocks inside k =
    let other : In k.other (old ++ commit_objects c) = by (in-append k.other old objects k.is_there) in
    let here = in_any (is_other_content k.object) (old ++ commit_objects c) k.other other k.differs in
    ap (λ (t : Bool). t || is_some (block_of_id blocks (commit_id c)))
    (in_any (λ o. list_any (is_other_content o) (old ++ commit_objects c)) (commit_objects c) k.object (inside k.object k.is_new) here)
  where
    by : In k.other old ⊎ In k.other objects → In k.other (old ++ commit_objects c)
    by (inl i) = in_left k.other old (commit_objects c) i
    by (inr i) = in_right k.other old (commit_objects c) (inside k.other i)
