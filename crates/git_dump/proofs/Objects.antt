-- The objects of the files of a tree are those that a walk through the tree meets.
use Rattle.std.proofs.Common.{◌≡◌, ℕ, zero, suc, Bool, true, false, List, [], ◌∷◌, ◌++◌, map, Some, None, refl, sym, ap, subst, ◌∙◌, inl, inr}
use Rattle.std.specs.Prelude.{option_map, if◌then◌else◌}
use Rattle.std.specs.List.{flat_map}
use Rattle.text_model.specs.Lists.{In}
use Rattle.text_model.specs.Text.{Bytes}
use Rattle.text_model.specs.Id.{Id, blob, tree}
use Rattle.text_model.proofs.Elements.{each_in, each_from}
use Rattle.git_model.specs.Tree.{is_directory, is_blob_mode, TreeEntry, tree_text}
use Rattle.git_model.specs.Object.{Object, object_of, object_at, tree_at, AreObjects}
use Rattle.git_model.specs.Shape.{Leaf, leaves_below, leaf_named, leaf_object, shape_entries, shape_objects}
use Rattle.git_model.specs.Unfold.{FileRow, is_kind_there, is_object_there, joined_path, visits, walk, walk_fault}
use Rattle.git_model.proofs.ObjectLemmas.{tree_at-tree}
use Rattle.tree_shape.specs.Walks.{row_at, entry_visits}
use Rattle.tree_shape.proofs.Again.{root-sound, root-tree}
use Rattle.tree_shape.proofs.Elements.{in-flat}
use Rattle.tree_shape.proofs.Held.{held}
use Rattle.tree_shape.proofs.Rebuilding.{leaves-some, level}
use Rattle.tree_shape.specs.Wholes.{Sound, leaf_at, entry_leaves, leaves_in}
use Rattle.tree_shape.proofs.Unfolding.{visits-suc}
use Rattle.git_view.proofs.Found.{found-id, there}
use Rattle.git_view.proofs.Rows.{content_of, content_by, content_for, blob-there}
use Rattle.git_view.proofs.Shapes.{filled, below-filled, named-filled, entries-filled}
use Rattle.git_view.proofs.Walks.{all-there, none-refused}
use Rattle.git_dump.specs.Walks.{object_list, objects_at, file_objects, entry_objects, walk_objects, IsWalkableEntry, IsWalkable}
use Rattle.git_dump.proofs.Leaves.{tree-below, tree-named}
use Rattle.git_dump.proofs.WalkLemmas.{walk-some}

-- ---- all that a walk meets is there

abbrev AreThere : List Object → List FileRow → Type 0
AreThere known vs = (v : FileRow) → In v vs → is_object_there known v ≡ true

module _ (known : List Object) where
  -- the visits of an entry
  entry-there : (depth : ℕ) (path : Bytes) (id : Id) (entries : List TreeEntry) (e : TreeEntry) → tree_at known id ≡ Some entries → In e entries → AreThere known (visits known (suc depth) path id)
      → AreThere known (entry_visits known depth path e)
  entry-there depth path id entries e at i all v j = all v (subst (λ (vs : List FileRow). In v vs) (sym (visits-suc known depth path id entries at)) (in-flat (entry_visits known depth path) entries e v i j))

  subtree-there : (depth : ℕ) (path : Bytes) (e : TreeEntry) → is_directory e.mode ≡ true → AreThere known (entry_visits known depth path e) → AreThere known (visits known depth (joined_path path e.name) e.id)
  subtree-there depth path e d all v j = all v (inr (subst (λ (t : Bool). In v (if t then visits known depth (joined_path path e.name) e.id else [])) (sym d) j))

  file-there : (depth : ℕ) (path : Bytes) (e : TreeEntry) → is_blob_mode e.mode ≡ true → AreThere known (entry_visits known depth path e) → is_kind_there blob (object_at known e.id) ≡ true
  file-there depth path e b all = blob-there known (row_at (joined_path path e.name) e) b (all (row_at (joined_path path e.name) e) (inl refl))

  pub walkable : (depth : ℕ) (path : Bytes) (id : Id) (entries : List TreeEntry) → Sound known depth id entries → AreThere known (visits known depth path id) → IsWalkable known depth id
  unfolding IsWalkable
  walkable zero path id entries s all = absurd s
  walkable (suc depth) path id entries s all = (
    entries,
    s.0,
    each_from (IsWalkableEntry known (IsWalkable known depth)) entries (λ e i. record {
      subtree = λ d.
          let b = each_in _ entries e s.1 i d in
          walkable depth (joined_path path e.name) e.id b.0 b.1 (subtree-there depth path e d (entry-there depth path id entries e s.0 i all));
      file = λ d. file-there depth path e d (entry-there depth path id entries e s.0 i all);
    }),
  )

-- ---- the objects

flat-same : (f g : TreeEntry → List Object) (entries : List TreeEntry) → ((e : TreeEntry) → In e entries → f e ≡ g e) → flat_map f entries ≡ flat_map g entries
flat-same f g [] h = refl
flat-same f g (e ∷ entries) h = (λ k. h e (inl refl) k ++ flat-same f g entries (λ x i. h x (inr i)) k)

module _ (known : List Object) (are : AreObjects known) where
  abbrev full : Leaf → Leaf
  full = filled (content_for known)

  -- the object of a file
  file-object : (e : TreeEntry) → (is_blob_mode e.mode ≡ true → is_kind_there blob (object_at known e.id) ≡ true) → leaf_object (Some (full (leaf_at e))) ≡ file_objects known e
  file-object e h = by (is_blob_mode e.mode) refl
    where
      by : (t : Bool) → is_blob_mode e.mode ≡ t → (if t then record { id = e.id; kind = blob; content = content_by t known e.id } ∷ [] else []) ≡ (if t then objects_at known e.id else [])
      by true b =
          let t = there known blob e.id (h b) in
          (λ k. record { id = found-id known e.id t.object t.at k; kind = sym t.kind_is k; content = ap content_of t.at k } ∷ [])
          ∙ sym (ap object_list t.at)
      by false b = refl

  -- the objects of an entry, among the files of the tree
  abbrev shape_part : ℕ → List Leaf → TreeEntry → List Object
  shape_part depth leaves e = if is_directory e.mode then shape_objects depth (leaves_below e.name leaves) else leaf_object (leaf_named e.name leaves)

  entry-part : (depth : ℕ) (path : Bytes) (id : Id) (entries : List TreeEntry) (e : TreeEntry) → Sound known (suc depth) id entries → In e entries → AreThere known (entry_visits known depth path e)
      → ((p : Bytes) (i : Id) (es : List TreeEntry) → Sound known depth i es → AreThere known (visits known depth p i) → shape_objects depth (map full (leaves_in known depth i)) ≡ walk_objects known depth i)
      → shape_part depth (map full (flat_map (entry_leaves known (leaves_in known depth)) entries)) e ≡ entry_objects known (walk_objects known depth) e
  entry-part depth path id entries e s i all rec = by (is_directory e.mode) refl
    where
      by : (t : Bool) → is_directory e.mode ≡ t → (if t then shape_objects depth (leaves_below e.name (map full (flat_map (entry_leaves known (leaves_in known depth)) entries)))
          else leaf_object (leaf_named e.name (map full (flat_map (entry_leaves known (leaves_in known depth)) entries)))) ≡ (if t then walk_objects known depth e.id else file_objects known e)
      by true d =
          let b = each_in _ entries e s.1 i d in
          ap (shape_objects depth) (below-filled (content_for known) e.name (flat_map (entry_leaves known (leaves_in known depth)) entries) ∙ ap (map full) (tree-below known depth entries e (tree_at-tree known id entries are s.0).2 i d))
          ∙ rec (joined_path path e.name) e.id b.0 b.1 (subtree-there known depth path e d all)
      by false d =
          ap leaf_object (named-filled (content_for known) e.name (flat_map (entry_leaves known (leaves_in known depth)) entries) ∙ ap (option_map full) (tree-named known depth entries e (tree_at-tree known id entries are s.0).2 i d))
          ∙ file-object e (λ b. file-there known depth path e b all)

  self-object : (id : Id) (entries : List TreeEntry) → tree_at known id ≡ Some entries → object_of tree (tree_text entries) ∷ [] ≡ objects_at known id
  self-object id entries at = let h = held known id entries are at in sym (ap (objects_at known) h.is_id ∙ ap object_list h.known_as)

  pub objects-are : (depth : ℕ) (path : Bytes) (id : Id) (entries : List TreeEntry) → Sound known depth id entries → AreThere known (visits known depth path id) → shape_objects depth (map full (leaves_in known depth id)) ≡ walk_objects known depth id
  unfolding shape_objects
  objects-are zero path id entries s all = absurd s
  objects-are (suc depth) path id entries s all =
      let leaves : List Leaf = flat_map (entry_leaves known (leaves_in known depth)) entries in
      let at : leaves_in known (suc depth) id ≡ leaves = leaves-some known depth id entries s.0 in
      let shape : shape_entries (suc depth) (map full leaves) ≡ entries =
      entries-filled (content_for known) (suc depth) leaves ∙ ap (shape_entries (suc depth)) (sym at) ∙ (level known are (suc depth)).shape id entries s in
      ap (λ (ls : List Leaf). shape_objects (suc depth) (map full ls)) at
      ∙ ap (λ (es : List TreeEntry). flat_map (shape_part depth (map full leaves)) es ++ object_of tree (tree_text es) ∷ []) shape
      ∙ (λ k. flat-same (shape_part depth (map full leaves)) (entry_objects known (walk_objects known depth)) entries
      (λ e i. entry-part depth path id entries e s i (entry-there known depth path id entries e s.0 i all) (objects-are depth)) k ++ self-object id entries s.0 k)
      ∙ sym (walk-some known depth id entries s.0)

  -- ---- the whole

  pub root-walkable : (root : Id) → walk_fault known root ≡ None → IsWalkable known 257 root
  root-walkable root h =
      let t = root-tree known are root h in
      walkable known 257 [] root t.0 (root-sound known are root t.0 h t.1) (λ v i. all-there known 0 (walk known root) v (none-refused known are root h) i)

  pub root-objects : (root : Id) → walk_fault known root ≡ None → shape_objects 257 (map full (leaves_in known 257 root)) ≡ walk_objects known 257 root
  root-objects root h =
      let t = root-tree known are root h in
      objects-are 257 [] root t.0 (root-sound known are root t.0 h t.1) (λ v i. all-there known 0 (walk known root) v (none-refused known are root h) i)
