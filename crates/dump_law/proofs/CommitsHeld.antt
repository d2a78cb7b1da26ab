-- The commits of a dump are held in what it brings, and their trees can be walked through.
use Rattle.std.proofs.Common.{◌≡◌, ◌⊎◌, ◌≤◌, ◌<◌, ◌+◌, ℕ, Bool, true, false, true≢false, not, List, [], ◌∷◌, ◌++◌, length, map, Option, Some, None, refl, sym, ap, subst, ◌∙◌, inl, inr, arith, append_assoc}
use Rattle.std.specs.Prelude.{bytes_eq, ◌==◌, ◌&&◌, if◌then◌else◌, sum_by}
use Rattle.std.specs.List.{list_any}
use Rattle.std.proofs.lemmas.List.Sums.{sum_by-cons}
use Rattle.std.proofs.lemmas.Slice.Eq.{bytes_eq-Decides}
use Rattle.text_model.specs.Lists.{Each, In, first_of_each, only_new, rises}
use Rattle.text_model.specs.Text.{Bytes, IsBytes, is_below}
use Rattle.text_model.specs.Fault.{FaultName}
use Rattle.text_model.specs.Id.{Id, blob, tree, object_id}
use Rattle.text_model.specs.Path.{lies_below}
use Rattle.text_model.proofs.Elements.{each_from, each_in, in_left, in_right, in_map, none_all, map_append}
use Rattle.text_model.proofs.Options.{some_none}
use Rattle.git_model.specs.Tree.{Mode, File, GroupFile, Exec, Link, Directory, Gitlink, is_directory, is_blob_mode, has_distinct, TreeEntry, tree_text, IsTreeText, TreeFault, tree_fault}
use Rattle.git_model.specs.Object.{Object, object_of, object_at, knows_object, same_object, AreObjects, tree_name, content_fault, objects_after, objects_after_all}
use Rattle.git_model.specs.Shape.{Leaf, leaf_of, shape_depth, shape_objects, root_of, trees_of, clash_from, first_clash}
use Rattle.git_model.specs.Unfold.{FileRow, IsUnfolding, is_kind_there, is_object_there, row_size, rows_limit, walk_fault, tree_rows}
use Rattle.view_model.specs.View.{CommitView, IsCommitView, TreeRow, IsRowId, leaf_of_row, tree_paths, rows_size, commit_id, commit_objects}
use Rattle.view_model.specs.Held.{file_row_of, IsRowHeld, IsCommitHeld, AreCommitsHeld}
use Rattle.view_model.specs.Dump.{objects_in}
use Rattle.state_model.specs.Saved.{AreCommitsSaved}
use Rattle.git_store.specs.Growth.{IsThere, HasGrown}
use Rattle.git_store.proofs.DistinctLemmas.{has_distinct-push}
use Rattle.git_store.proofs.Growth.{one-more, grown-none, grown-more}
use Rattle.git_store.proofs.KnownLemmas.{first, same_kind-is}
use Rattle.tree_shape.specs.Laws.{IsKnown, AreKnown, AreWalkable}
use Rattle.tree_shape.specs.Sets.{IsFileRow, IsFiles}
use Rattle.tree_shape.specs.Shapes.{is_tree}
use Rattle.tree_shape.proofs.Unfolding.{unfolds}
use Rattle.tree_shape.proofs.Walking.{rows-again, no-fault}
use Rattle.git_view.proofs.Shapes.{same-leaves, same-entries}
use Rattle.git_view.proofs.Walks.{none-refused}
use Rattle.dump_law.proofs.News.{only_new-nothing}
use Rattle.dump_law.proofs.Grows.{same_object_turned}
use Rattle.dump_law.proofs.Elements.{of-map, of-filter, of-first, in-filter, in-flat, passes}
use Rattle.dump_law.proofs.Rows.{IsGoodRow, rows_free, row_id, few_parts, no_part_with, leaves_good, root_is}
use Rattle.dump_law.proofs.Streams.{shapes_of, own, commit_split, of_append, of_flat}
use Rattle.dump_law.proofs.StreamRead.{AreAdded, commits_are_read}
use Rattle.dump_law.proofs.Commits.{alike, id_is}
use Rattle.dump_law.proofs.Parts.{AreOfBytes, blob_of, file_in, empty_tree_in, tree_of_filled, tree_bytes, tree_text_is}

-- ---- objects that were added

abbrev IsFine : Object → Type 0
IsFine o = (o.id ≡ object_id o.kind o.content) × (content_fault o.kind o.content ≡ None)

each_fine : (known os : List Object) → AreAdded known os → Each IsFine os
each_fine known [] h = tt
each_fine known (o ∷ os) h = ((h.0, by (content_fault o.kind o.content) refl), each_fine (objects_after known o) os h.2)
  where
    by : (u : Option FaultName) → content_fault o.kind o.content ≡ u → content_fault o.kind o.content ≡ None
    by None e = e
    by (Some name) e = absurd (some_none (sym (first known o name e) ∙ h.1))

all_grown : (known os : List Object) → AreAdded known os → HasGrown known (objects_after_all known os) os
all_grown known [] h = grown-none known
all_grown known (o ∷ os) h = grown-more known (objects_after known o) (objects_after_all (objects_after known o) os) (o ∷ []) os (one-more known o h.1) (all_grown (objects_after known o) os h.2)

abbrev ids_of : List Object → List Id
ids_of objects = map (λ o. o.id) objects

any_id : (id : Id) (known : List Object) → list_any (bytes_eq id) (ids_of known) ≡ knows_object known id
any_id id [] = refl
any_id id (o ∷ known) = by (bytes_eq id o.id) refl (any_id id known)
  where
    by : (t : Bool) → bytes_eq id o.id ≡ t → list_any (bytes_eq id) (ids_of known) ≡ knows_object known id → list_any (bytes_eq id) (ids_of (o ∷ known)) ≡ knows_object (o ∷ known) id
    by true e rest = rw e refl
    by false e rest = rw e rest

distinct_after : (known os : List Object) → has_distinct (ids_of known) ≡ true → has_distinct (ids_of (objects_after_all known os)) ≡ true
distinct_after known [] d = d
distinct_after known (o ∷ os) d = distinct_after (objects_after known o) os (by (knows_object known o.id) refl)
  where
    by : (t : Bool) → knows_object known o.id ≡ t → has_distinct (ids_of (objects_after known o)) ≡ true
    by true e = rw e d
    by false e =
        let more : has_distinct (ids_of (known ++ o ∷ [])) ≡ true =
        ap has_distinct (map_append (λ (x : Object). x.id) known (o ∷ [])) ∙ has_distinct-push (ids_of known) o.id ∙ (λ i. d i && not ((any_id o.id known ∙ e) i)) in
        rw e more

first_met : (o : Object) (xs : List Object) → In o xs → (x : Object) × In x (first_of_each same_object xs) × (x.id ≡ o.id)
first_met o [] i = absurd i
first_met o (y ∷ xs) (inl q) = (y, inl refl, ap (λ (x : Object). x.id) (sym q))
first_met o (y ∷ xs) (inr i) = by (first_met o xs i)
  where
    by : (x : Object) × In x (first_of_each same_object xs) × (x.id ≡ o.id) → (x : Object) × In x (first_of_each same_object (y ∷ xs)) × (x.id ≡ o.id)
    by r = at (same_object y r.0) refl
      where
        at : (t : Bool) → same_object y r.0 ≡ t → (x : Object) × In x (first_of_each same_object (y ∷ xs)) × (x.id ≡ o.id)
        at true e = (y, inl refl, (bytes_eq-Decides y.id r.0.id).0 e ∙ r.2)
        at false e = (r.0, inr (in-filter (λ z. not (same_object y z)) r.0 (first_of_each same_object xs) r.1 (ap not e)), r.2)

-- ---- rows as files

row_empty : (m : Mode) (id : Id) (content : Bytes) → IsRowId m id content → is_directory m ≡ true → (m ≡ Directory) × (id ≡ object_id tree [])
row_empty Directory id content h d = (refl, h.0)
row_empty File id content h d = absurd (true≢false (sym d))
row_empty GroupFile id content h d = absurd (true≢false (sym d))
row_empty Exec id content h d = absurd (true≢false (sym d))
row_empty Link id content h d = absurd (true≢false (sym d))
row_empty Gitlink id content h d = absurd (true≢false (sym d))

row_content : (m : Mode) (id : Id) (content : Bytes) → IsRowId m id content → is_blob_mode m ≡ false → content ≡ []
row_content Directory id content h f = h.1
row_content Gitlink id content h f = h.1
row_content File id content h f = absurd (true≢false f)
row_content GroupFile id content h f = absurd (true≢false f)
row_content Exec id content h f = absurd (true≢false f)
row_content Link id content h f = absurd (true≢false f)

each_map : {X Y : Type 0} (P : Y → Type 0) (f : X → Y) (xs : List X) → ((x : X) → In x xs → P (f x)) → Each P (map f xs)
each_map P f [] h = tt
each_map P f (x ∷ xs) h = (h x (inl refl), each_map P f xs (λ y i. h y (inr i)))

paths_same : (rows : List TreeRow) → map (λ (r : FileRow). r.path) (map file_row_of rows) ≡ tree_paths rows
paths_same [] = refl
paths_same (row ∷ rows) = ap (λ (ps : List Bytes). row.path ∷ ps) (paths_same rows)

size_same : (rows : List TreeRow) → sum_by row_size (map file_row_of rows) ≡ sum_by (λ (row : TreeRow). length row.path + 42) rows
size_same [] = refl
size_same (row ∷ rows) =
    sum_by-cons row_size (file_row_of row) (map file_row_of rows) ∙ ap (λ (n : ℕ). (length row.path + 42) + n) (size_same rows)
    ∙ sym (sum_by-cons (λ (row : TreeRow). length row.path + 42) row rows)

clash_none : (at : ℕ) (before rows : List FileRow) → ((a b : FileRow) → In a rows → In b (before ++ rows) → lies_below a.path b.path ≡ false) → clash_from at before rows ≡ None
unfolding clash_from
clash_none at before [] h = refl
clash_none at before (row ∷ rows) h =
    ap (λ (t : Bool). if t then Some at else clash_from (at + 1) (before ++ row ∷ []) rows) (none_all (λ b. lies_below row.path b.path) before (λ b i. h row b (inl refl) (in_left b before (row ∷ rows) i)))
    ∙ clash_none (at + 1) (before ++ row ∷ []) rows (λ a b i j. h a b (inr i) (subst (λ (l : List FileRow). In b l) (append_assoc before (row ∷ []) rows) j))

leaves_bytes : (c : CommitView) → IsCommitView c → AreOfBytes (map leaf_of_row c.rows)
leaves_bytes c v = record {
  names = λ l i. let r = of-map leaf_of_row l c.rows i in subst (λ (x : Leaf). Each IsBytes x.names) (sym r.2) (no_part_with (λ b. b < 256) (λ b. b == 47) r.0.path (each_in IsGoodRow c.rows r.0 v.rows r.1).1);
  ids = λ l i. let r = of-map leaf_of_row l c.rows i in subst (λ (x : Leaf). IsBytes x.id) (sym r.2) (row_id r.0.mode r.0.id r.0.content (each_in IsGoodRow c.rows r.0 v.rows r.1).3).1;
}

root_same : (c : CommitView) → IsCommitView c → (c.value).tree_id ≡ root_of (map file_row_of c.rows)
unfolding root_of
root_same c v = v.agrees ∙ root_is c ∙ ap (λ (es : List TreeEntry). object_id tree (tree_text es)) (same-entries shape_depth c.rows)

-- ---- what the dump brings

module _ (cs : List CommitView) (s : AreCommitsSaved cs) where
  abbrev new : List Object
  new = only_new same_object [] (objects_in cs)

  abbrev brought : List Object
  brought = objects_after_all [] (only_new same_object [] (objects_in cs))

  added : AreAdded [] new
  added = (commits_are_read cs s).added

  grown : HasGrown [] brought new
  grown = all_grown [] new added

  pub of_new : (o : Object) → In o new → In o (objects_in cs)
  of_new o i = of-first same_object o (objects_in cs) (of-filter (λ x. not (list_any (same_object x) [])) o (first_of_each same_object (objects_in cs)) i)

  pub brought_there : (o : Object) → In o (objects_in cs) → IsKnown brought o
  brought_there o i =
      let m = first_met o (objects_in cs) i in
      let x = m.0 in
      let found = each_in (IsThere brought) new x grown.added (subst (λ (l : List Object). In x l) (sym (only_new-nothing same_object same_object_turned (objects_in cs))) m.1) in
      let a = alike (objects_in cs) s.one o x i (of-first same_object x (objects_in cs) m.1) ((bytes_eq-Decides o.id x.id).1 (sym m.2)) in
      let same : x ≡ o = (λ k. record { id = m.2 k; kind = sym a.kind k; content = sym a.content k }) in
      subst (IsKnown brought) same found

  pub tree_is : (o : Object) → In o new → is_tree o ≡ true → (entries : List TreeEntry) × IsTreeText o.content entries
  tree_is o i t =
      let fine = each_in IsFine new o (each_fine [] new added) i in
      let from = of_flat commit_objects o cs (of_new o i) in
      let fault : tree_name (tree_fault o.content) ≡ None = sym (ap (λ kind. content_fault kind o.content) (same_kind-is o.kind tree t)) ∙ fine.1 in
      tree_text_is o.content (bytes from.0 (each_in IsCommitView cs from.0 s.views from.1) (of_append o (shapes_of from.0) (own from.0 ∷ []) (subst (λ (l : List Object). In o l) (commit_split from.0) from.2))) (none (tree_fault o.content) fault)
    where
      none : (f : Option TreeFault) → tree_name f ≡ None → f ≡ None
      none None e = refl
      none (Some f) e = absurd (some_none e)

      bytes : (c : CommitView) → IsCommitView c → In o (shapes_of c) ⊎ In o (own c ∷ []) → IsBytes o.content
      bytes c v (inl j) = tree_bytes shape_depth (map leaf_of_row c.rows) (leaves_bytes c v) o j t
      bytes c v (inr (inl q)) = absurd (true≢false (sym t ∙ ap is_tree q))
      bytes c v (inr (inr k)) = absurd k

  pub brought_objects : AreObjects brought
  brought_objects = record {
    distinct = distinct_after [] new refl;
    ids = each_from (λ o. o.id ≡ object_id o.kind o.content) brought (λ o i. (each_in IsFine new o (each_fine [] new added) (grown.only o i)).0);
    trees = each_from (λ o. is_tree o ≡ true → (entries : List TreeEntry) × IsTreeText o.content entries) brought (λ o i. tree_is o (grown.only o i));
  }

-- ---- what holds the objects of the commits, among which may be others

module _ (cs : List CommitView) (s : AreCommitsSaved cs) (known : List Object) (are_objects : AreObjects known) (there : (o : Object) → In o (objects_in cs) → IsKnown known o) where
  in-commit : (c : CommitView) → In c cs → (o : Object) → In o (shapes_of c) → IsKnown known o
  in-commit c i o j = there o (in-flat commit_objects c o cs i (subst (λ (l : List Object). In o l) (sym (commit_split c)) (in_left o (shapes_of c) (own c ∷ []) j)))

  module _ (c : CommitView) (i : In c cs) where
    v : IsCommitView c
    v = each_in IsCommitView cs c s.views i

    abbrev files : List FileRow
    files = map file_row_of c.rows

    are_files : IsFiles files
    are_files = record {
      each = each_map IsFileRow file_row_of c.rows (λ row j.
          let r = each_in IsGoodRow c.rows row v.rows j in
          record { fit = r.0; bytes = r.1; empty = λ d. (row_empty row.mode row.id row.content r.3 d).1; id = row_id row.mode row.id row.content r.3 });
      in_order = ap (rises is_below) (paths_same c.rows) ∙ v.in_order;
    }

    no_clash : first_clash files ≡ None
    no_clash = clash_none 0 [] files (λ a b j k.
        let x = of-map file_row_of a c.rows j in
        let y = of-map file_row_of b c.rows k in
        (λ n. lies_below (x.2 n).path (y.2 n).path) ∙ rows_free c v x.0 y.0 x.1 y.1)

    file_there : (row : TreeRow) → In row c.rows → is_blob_mode row.mode ≡ true → IsKnown known (blob_of (leaf_of_row row))
    file_there row j is = in-commit c i (blob_of (leaf_of_row row)) (file_in shape_depth (map leaf_of_row c.rows) (leaf_of_row row) (leaves_good c v) (in_map leaf_of_row row c.rows j) is)

    empty_there : (row : TreeRow) → In row c.rows → row.mode ≡ Directory → IsKnown known (object_of tree [])
    empty_there row j is =
        in-commit c i (object_of tree []) (empty_tree_in shape_depth (map leaf_of_row c.rows) (leaf_of_row row) (leaves_good c v) (in_map leaf_of_row row c.rows j) is
        (omega (arith, few_parts row.path (each_in IsGoodRow c.rows row v.rows j).0)))

    object_there : (row : TreeRow) → In row c.rows → is_object_there known (file_row_of row) ≡ true
    object_there row j = by (is_directory row.mode) refl (is_blob_mode row.mode) refl
      where
        by : (d : Bool) → is_directory row.mode ≡ d → (b : Bool) → is_blob_mode row.mode ≡ b → is_object_there known (file_row_of row) ≡ true
        by true d b e =
            let is = row_empty row.mode row.id row.content (each_in IsGoodRow c.rows row v.rows j).3 d in
            rw d (ap (λ (n : Id). is_kind_there tree (object_at known n)) is.1 ∙ ap (is_kind_there tree) (empty_there row j is.0))
        by false d true e = rw (d, e) (ap (is_kind_there blob) (file_there row j e))
        by false d false e = rw (d, e) refl

    trees_there : AreKnown known (trees_of files)
    unfolding trees_of
    trees_there = each_from (IsKnown known) (trees_of files) (λ o j.
        let all = shape_objects shape_depth (map leaf_of files) in
        let t = passes is_tree o all j in
        in-commit c i o (tree_of_filled (λ _ _. []) shape_depth (map leaf_of_row c.rows) o (subst (λ (ls : List Leaf). In o (shape_objects shape_depth ls)) (sym (same-leaves c.rows)) (of-filter is_tree o all j)) t))

    walkable : AreWalkable known files
    walkable = record {
      objects = are_objects;
      files = are_files;
      apart = no_clash;
      trees = trees_there;
      objects_there = each_map (λ row. is_object_there known row ≡ true) file_row_of c.rows object_there;
      within = subst (λ (n : ℕ). n ≤ rows_limit) (sym (size_same c.rows)) (each_in (λ c. rows_size c ≤ rows_limit) cs c s.rows i);
    }

    pub walk_ends : walk_fault known (c.value).tree_id ≡ None
    walk_ends = ap (walk_fault known) (root_same c v) ∙ no-fault known files walkable

    pub commit_held : IsCommitHeld known (commit_id c) c
    commit_held = record {
      object = own c;
      is_held = ap (object_at known) (id_is c) ∙ there (own c) (in-flat commit_objects c (own c) cs i (subst (λ (l : List Object). In (own c) l) (sym (commit_split c)) (in_right (own c) (shapes_of c) (own c ∷ []) (inl refl))));
      kind = refl;
      text = (v.value, refl);
      rows = subst (IsUnfolding known (c.value).tree_id) (ap (tree_rows known) (root_same c v) ∙ rows-again known files walkable)
          (unfolds known (c.value).tree_id are_objects (none-refused known are_objects (c.value).tree_id walk_ends));
      blobs = each_from (IsRowHeld known) c.rows (λ row j. record {
        blob = λ b. (blob_of (leaf_of_row row), file_there row j b, refl);
        none = row_content row.mode row.id row.content (each_in IsGoodRow c.rows row v.rows j).3;
      });
    }

  pub all_walks : Each (λ c. walk_fault known (c.value).tree_id ≡ None) cs
  all_walks = each_from (λ c. walk_fault known (c.value).tree_id ≡ None) cs walk_ends

  pub commits_held : (ds : List CommitView) → ((c : CommitView) → In c ds → In c cs) → AreCommitsHeld known (map commit_id ds) ds
  commits_held [] inside = tt
  commits_held (d ∷ ds) inside = (commit_held d (inside d (inl refl)), commits_held ds (λ c j. inside c (inr j)))

-- ---- what the dump brings holds them

pub git-held : (cs : List CommitView) → AreCommitsSaved cs → AreCommitsHeld (objects_after_all [] (only_new same_object [] (objects_in cs))) (map commit_id cs) cs
git-held cs s = commits_held cs s (brought cs s) (brought_objects cs s) (brought_there cs s) cs (λ c i. i)

pub git-walks : (cs : List CommitView) → AreCommitsSaved cs → Each (λ c. walk_fault (objects_after_all [] (only_new same_object [] (objects_in cs))) (c.value).tree_id ≡ None) cs
git-walks cs s = all_walks cs s (brought cs s) (brought_objects cs s) (brought_there cs s)
