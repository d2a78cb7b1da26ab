-- The new trees of a directory, by the names on the way to it.
use Rattle.std.proofs.Common.{◌≡◌, ℕ, zero, suc, Bool, true, false, not, ◌&&◌, List, [], ◌∷◌, ◌++◌, map, Some, None, refl, sym, ap, subst, ◌∙◌, inl, inr}
use Rattle.std.specs.Prelude.{filter, if◌then◌else◌, bytes_eq}
use Rattle.std.specs.List.{flat_map, cons_option}
use Rattle.std.proofs.lemmas.List.{map-append, append-nil}
use Rattle.std.proofs.lemmas.List.Elements.{filter-append}
use Rattle.std.proofs.lemmas.Slice.Eq.{bytes_eq-Decides}
use Rattle.text_model.specs.Lists.{In}
use Rattle.text_model.specs.Text.{Bytes}
use Rattle.text_model.specs.Id.{tree}
use Rattle.text_model.proofs.TestLemmas.{both}
use Rattle.git_model.specs.Tree.{Mode, is_directory, TreeEntry, tree_text}
use Rattle.git_model.specs.Object.{Object, object_of}
use Rattle.git_model.specs.Unfold.{joined_path}
use Rattle.git_model.specs.Shape.{Leaf, leaves_below, cut_name, shape_entries, PlacedTree, placed_trees}
use Rattle.tree_shape.specs.Wholes.{put_name}
use Rattle.tree_rebuild.specs.News.{same_leaves, lies_in, is_leaf_in, leaves_in_directory, is_same_in, new_of, new_in}
use Rattle.tree_shape.proofs.Rows.{clash}
use Rattle.tree_rebuild.proofs.SameLeaves.{leaves-one, leaves-self, leaves-put}

-- ---- what lies in a directory below another lies in that too

names-up : (lead : List Bytes) (n : Bytes) (mode : Mode) (names : List Bytes) → lies_in (lead ++ n ∷ []) mode names ≡ true → lies_in lead mode names ≡ true
names-up [] n mode names h = refl
names-up (m ∷ []) n mode [] h = absurd (clash (sym h))
names-up (m ∷ []) n mode (x ∷ []) h = absurd (clash (sym (both (bytes_eq x m) false h).1))
names-up (m ∷ []) n mode (x ∷ y ∷ names) h = let p = both (bytes_eq x m) (lies_in (n ∷ []) mode (y ∷ names)) h in ap (λ (t : Bool). t && true) p.0
names-up (m ∷ k ∷ lead) n mode [] h = absurd (clash (sym h))
names-up (m ∷ k ∷ lead) n mode (x ∷ names) h =
    let p = both (bytes_eq x m) (lies_in (k ∷ (lead ++ n ∷ [])) mode names) h in
    ap (λ (t : Bool). t && lies_in (k ∷ lead) mode names) p.0 ∙ names-up (k ∷ lead) n mode names p.1

leaves-up : (lead : List Bytes) (n : Bytes) (leaves : List Leaf) → leaves_in_directory (lead ++ n ∷ []) (leaves_in_directory lead leaves) ≡ leaves_in_directory (lead ++ n ∷ []) leaves
leaves-up lead n [] = refl
leaves-up lead n (leaf ∷ leaves) = by (is_leaf_in lead leaf) refl (is_leaf_in (lead ++ n ∷ []) leaf) refl (leaves-up lead n leaves)
  where
    p : Leaf → Bool
    p = is_leaf_in (lead ++ n ∷ [])

    by : (t : Bool) → is_leaf_in lead leaf ≡ t → (u : Bool) → p leaf ≡ u → filter p (leaves_in_directory lead leaves) ≡ filter p leaves
        → filter p (if t then leaf ∷ leaves_in_directory lead leaves else leaves_in_directory lead leaves) ≡ (if u then leaf ∷ filter p leaves else filter p leaves)
    by true t u e rec = ap (λ (b : Bool). if b then leaf ∷ filter p (leaves_in_directory lead leaves) else filter p (leaves_in_directory lead leaves)) e ∙ ap (λ (l : List Leaf). if u then leaf ∷ l else l) rec
    by false t true e rec = absurd (clash (sym (names-up lead n leaf.mode leaf.names e) ∙ t))
    by false t false e rec = rec

-- where a directory has the same leaves, one in it has
pub same-down : (lead : List Bytes) (n : Bytes) (old new : List Leaf) → is_same_in lead old new ≡ true → is_same_in (lead ++ n ∷ []) old new ≡ true
same-down lead n old new h =
    let one : leaves_in_directory (lead ++ n ∷ []) old ≡ leaves_in_directory (lead ++ n ∷ []) new =
    sym (leaves-up lead n old) ∙ ap (leaves_in_directory (lead ++ n ∷ [])) (leaves-one (leaves_in_directory lead old) (leaves_in_directory lead new) h) ∙ leaves-up lead n new in
    ap (λ (l : List Leaf). same_leaves l (leaves_in_directory (lead ++ n ∷ []) new)) one ∙ leaves-self (leaves_in_directory (lead ++ n ∷ []) new)

-- ---- what lies in a directory, by what lies below its first name

in-below : (m k : Bytes) (lead : List Bytes) (leaves : List Leaf) → leaves_in_directory (m ∷ k ∷ lead) leaves ≡ map (put_name m) (leaves_in_directory (k ∷ lead) (leaves_below m leaves))
in-below m k lead [] = refl
in-below m k lead (leaf ∷ leaves) = by leaf.names (in-below m k lead leaves)
  where
    with : List Bytes → Leaf
    with names = record { names = names; mode = leaf.mode; id = leaf.id; content = leaf.content }

    there : List Leaf
    there = leaves_in_directory (m ∷ k ∷ lead) leaves

    here : List Leaf
    here = leaves_in_directory (k ∷ lead) (leaves_below m leaves)

    flat : (t : Bool) (x : Bytes) → there ≡ map (put_name m) here → (if t && lies_in (k ∷ lead) leaf.mode [] then with (x ∷ []) ∷ there else there) ≡ map (put_name m) here
    flat true x rec = ap (λ (b : Bool). if b then with (x ∷ []) ∷ there else there) (no-names lead leaf.mode) ∙ rec
      where
        no-names : (lead : List Bytes) (mode : Mode) → lies_in (k ∷ lead) mode [] ≡ false
        no-names [] mode = refl
        no-names (n ∷ lead) mode = refl
    flat false x rec = rec

    deep : (x y : Bytes) (names : List Bytes) → there ≡ map (put_name m) here → (t : Bool) → bytes_eq x m ≡ t → (u : Bool) → lies_in (k ∷ lead) leaf.mode (y ∷ names) ≡ u
        → (if t && u then with (x ∷ y ∷ names) ∷ there else there) ≡ map (put_name m) (filter (is_leaf_in (k ∷ lead)) (cons_option (if t then Some (with (y ∷ names)) else None) (leaves_below m leaves)))
    deep x y names rec true e true f = (λ j. with ((bytes_eq-Decides x m).0 e j ∷ y ∷ names) ∷ rec j) ∙ ap (λ (b : Bool). map (put_name m) (if b then with (y ∷ names) ∷ here else here)) (sym f)
    deep x y names rec true e false f = rec ∙ ap (λ (b : Bool). map (put_name m) (if b then with (y ∷ names) ∷ here else here)) (sym f)
    deep x y names rec false e u f = rec

    by : (names : List Bytes) → there ≡ map (put_name m) here
        → (if lies_in (m ∷ k ∷ lead) leaf.mode names then with names ∷ there else there) ≡ map (put_name m) (filter (is_leaf_in (k ∷ lead)) (cons_option (cut_name m leaf names) (leaves_below m leaves)))
    by [] rec = rec
    by (x ∷ []) rec = flat (bytes_eq x m) x rec
    by (x ∷ y ∷ names) rec = deep x y names rec (bytes_eq x m) refl (lies_in (k ∷ lead) leaf.mode (y ∷ names)) refl

-- the leaves below the directory of these names, one name after the other
abbrev pub leaves_under : List Bytes → List Leaf → List Leaf
leaves_under [] leaves = leaves
leaves_under (m ∷ lead) leaves = leaves_under lead (leaves_below m leaves)

pub under-more : (lead : List Bytes) (n : Bytes) (leaves : List Leaf) → leaves_under (lead ++ n ∷ []) leaves ≡ leaves_below n (leaves_under lead leaves)
under-more [] n leaves = refl
under-more (m ∷ lead) n leaves = under-more lead n (leaves_below m leaves)

-- a directory has the same leaves where it has them below the directory that it lies in
pub same-below : (lead : List Bytes) (n : Bytes) (old new : List Leaf) → is_same_in (lead ++ n ∷ []) old new ≡ is_same_in (n ∷ []) (leaves_under lead old) (leaves_under lead new)
same-below [] n old new = refl
same-below (m ∷ []) n old new =
    (λ j. same_leaves (in-below m n [] old j) (in-below m n [] new j))
    ∙ leaves-put m (leaves_in_directory (n ∷ []) (leaves_below m old)) (leaves_in_directory (n ∷ []) (leaves_below m new))
same-below (m ∷ k ∷ lead) n old new =
    (λ j. same_leaves (in-below m k (lead ++ n ∷ []) old j) (in-below m k (lead ++ n ∷ []) new j))
    ∙ leaves-put m (leaves_in_directory (k ∷ (lead ++ n ∷ [])) (leaves_below m old)) (leaves_in_directory (k ∷ (lead ++ n ∷ [])) (leaves_below m new))
    ∙ same-below (k ∷ lead) n (leaves_below m old) (leaves_below m new)

-- ---- the trees that a test leaves, and the new trees

flat-left : (test : PlacedTree → Bool) (f : TreeEntry → List PlacedTree) (g : TreeEntry → List Object) (es : List TreeEntry)
    → ((e : TreeEntry) → In e es → map (λ (t : PlacedTree). t.made) (filter test (f e)) ≡ g e) → map (λ (t : PlacedTree). t.made) (filter test (flat_map f es)) ≡ flat_map g es
flat-left test f g [] h = refl
flat-left test f g (e ∷ es) h =
    ap (map (λ (t : PlacedTree). t.made)) (filter-append test (f e) (flat_map f es))
    ∙ map-append (λ (t : PlacedTree). t.made) (filter test (f e)) (filter test (flat_map f es))
    ∙ (λ k. h e (inl refl) k ++ flat-left test f g es (λ x i. h x (inr i)) k)

module _ (kept : PlacedTree → Bool) (old new : List Leaf) where
  -- the test says of a tree with this path whether the directory of the names has the same leaves
  abbrev pub Tells : Bytes → List Bytes → Type 0
  Tells path lead = (o : Object) → kept (record { path = path; made = o }) ≡ is_same_in lead old new

  abbrev left : List PlacedTree → List Object
  left ts = map (λ (t : PlacedTree). t.made) (filter (λ (t : PlacedTree). not (kept t)) ts)

  -- it says so of all directories below
  abbrev pub TellsBelow : ℕ → Bytes → List Bytes → List Leaf → Type 0
  TellsBelow zero path lead leaves = Unit {0}
  TellsBelow (suc depth) path lead leaves =
      (e : TreeEntry) → In e (shape_entries (suc depth) leaves) → Tells (joined_path path e.name) (lead ++ e.name ∷ []) × TellsBelow depth (joined_path path e.name) (lead ++ e.name ∷ []) (leaves_below e.name leaves)

  -- the trees that are left below a directory
  abbrev pub LeavesNew : ℕ → Bytes → List Bytes → Type 0
  LeavesNew depth path lead = left (placed_trees depth path (leaves_under lead new)) ≡ (if is_same_in lead old new then [] else new_in depth (leaves_under lead old) (leaves_under lead new))

  placed-step : (depth : ℕ) (path : Bytes) (lead : List Bytes)
      → ((e : TreeEntry) → Tells (joined_path path e.name) (lead ++ e.name ∷ []) → TellsBelow depth (joined_path path e.name) (lead ++ e.name ∷ []) (leaves_under (lead ++ e.name ∷ []) new) → LeavesNew depth (joined_path path e.name) (lead ++ e.name ∷ []))
      → Tells path lead → TellsBelow (suc depth) path lead (leaves_under lead new) → LeavesNew (suc depth) path lead
  unfolding placed_trees new_in
  placed-step depth path lead deeper tells below = by (is_same_in lead old new) refl
    where
      entries : List TreeEntry
      entries = shape_entries (suc depth) (leaves_under lead new)

      own : Object
      own = object_of tree (tree_text entries)

      placed : TreeEntry → List PlacedTree
      placed e = if is_directory e.mode then placed_trees depth (joined_path path e.name) (leaves_below e.name (leaves_under lead new)) else []

      -- those of an entry
      entry : (e : TreeEntry) → In e entries
          → left (placed e) ≡ (if is_directory e.mode && not (is_same_in (lead ++ e.name ∷ []) old new) then new_in depth (leaves_below e.name (leaves_under lead old)) (leaves_below e.name (leaves_under lead new)) else [])
      entry e i = dir (is_directory e.mode)
        where
          rec : left (placed_trees depth (joined_path path e.name) (leaves_below e.name (leaves_under lead new)))
              ≡ (if is_same_in (lead ++ e.name ∷ []) old new then [] else new_in depth (leaves_below e.name (leaves_under lead old)) (leaves_below e.name (leaves_under lead new)))
          rec =
              let b = below e i in
              ap (λ (l : List Leaf). left (placed_trees depth (joined_path path e.name) l)) (sym (under-more lead e.name new))
              ∙ deeper e b.0 (subst (TellsBelow depth (joined_path path e.name) (lead ++ e.name ∷ [])) (sym (under-more lead e.name new)) b.1)
              ∙ (λ k. if is_same_in (lead ++ e.name ∷ []) old new then [] else new_in depth (under-more lead e.name old k) (under-more lead e.name new k))

          turned : (t : Bool) (os : List Object) → (if t then [] else os) ≡ (if not t then os else [])
          turned true os = refl
          turned false os = refl

          dir : (d : Bool) → left (if d then placed_trees depth (joined_path path e.name) (leaves_below e.name (leaves_under lead new)) else [])
              ≡ (if d && not (is_same_in (lead ++ e.name ∷ []) old new) then new_in depth (leaves_below e.name (leaves_under lead old)) (leaves_below e.name (leaves_under lead new)) else [])
          dir true = rec ∙ turned (is_same_in (lead ++ e.name ∷ []) old new) (new_in depth (leaves_below e.name (leaves_under lead old)) (leaves_below e.name (leaves_under lead new)))
          dir false = refl

      -- those of all entries, and the tree itself
      whole : (t : Bool) → is_same_in lead old new ≡ t → (g : TreeEntry → List Object) → ((e : TreeEntry) → In e entries → left (placed e) ≡ g e)
          → left (flat_map placed entries ++ record { path = path; made = own } ∷ []) ≡ flat_map g entries ++ (if t then [] else own ∷ [])
      whole t same g each =
          ap (map (λ (t : PlacedTree). t.made)) (filter-append (λ (t : PlacedTree). not (kept t)) (flat_map placed entries) (record { path = path; made = own } ∷ []))
          ∙ map-append (λ (t : PlacedTree). t.made) (filter (λ (t : PlacedTree). not (kept t)) (flat_map placed entries)) (filter (λ (t : PlacedTree). not (kept t)) (record { path = path; made = own } ∷ []))
          ∙ (λ k. flat-left (λ (t : PlacedTree). not (kept t)) placed g entries each k ++ last k)
        where
          turned : (t : Bool) → map (λ (t : PlacedTree). t.made) (if not t then record { path = path; made = own } ∷ [] else []) ≡ (if t then [] else own ∷ [])
          turned true = refl
          turned false = refl

          last : map (λ (t : PlacedTree). t.made) (if not (kept (record { path = path; made = own })) then record { path = path; made = own } ∷ [] else []) ≡ (if t then [] else own ∷ [])
          last = ap (λ (b : Bool). map (λ (t : PlacedTree). t.made) (if not b then record { path = path; made = own } ∷ [] else [])) (tells own ∙ same) ∙ turned t

      none-of : TreeEntry → List Object
      none-of e = []

      no-trees : (es : List TreeEntry) → flat_map none-of es ≡ []
      no-trees [] = refl
      no-trees (e ∷ es) = no-trees es

      no-entry : (d : Bool) (os : List Object) → (if d && false then os else []) ≡ []
      no-entry true os = refl
      no-entry false os = refl

      by : (t : Bool) → is_same_in lead old new ≡ t
          → left (flat_map placed entries ++ record { path = path; made = own } ∷ []) ≡ (if t then [] else flat_map (new_of (new_in depth) (leaves_under lead old) (leaves_under lead new)) entries ++ own ∷ [])
      by true t =
          whole true t none-of (λ e i.
          entry e i
          ∙ ap (λ (b : Bool). if is_directory e.mode && not b then new_in depth (leaves_below e.name (leaves_under lead old)) (leaves_below e.name (leaves_under lead new)) else []) (same-down lead e.name old new t)
          ∙ no-entry (is_directory e.mode) (new_in depth (leaves_below e.name (leaves_under lead old)) (leaves_below e.name (leaves_under lead new))))
          ∙ append-nil (flat_map none-of entries) ∙ no-trees entries
      by false t =
          whole false t (new_of (new_in depth) (leaves_under lead old) (leaves_under lead new)) (λ e i.
          entry e i
          ∙ ap (λ (b : Bool). if is_directory e.mode && not b then new_in depth (leaves_below e.name (leaves_under lead old)) (leaves_below e.name (leaves_under lead new)) else []) (same-below lead e.name old new))

  pub placed-new : (depth : ℕ) (path : Bytes) (lead : List Bytes) → Tells path lead → TellsBelow depth path lead (leaves_under lead new) → LeavesNew depth path lead
  unfolding placed_trees new_in
  placed-new zero path lead tells below = by (is_same_in lead old new)
    where
      none : List Object
      none = []

      by : (t : Bool) → none ≡ (if t then [] else [])
      by true = refl
      by false = refl
  placed-new (suc depth) path lead tells below = placed-step depth path lead (λ e t b. placed-new depth (joined_path path e.name) (lead ++ e.name ∷ []) t b) tells below
