-- Each tree of rows is as short as the rows are together: an entry takes at most 28 bytes beside its name, and a row counts 42 beside its path.
use Rattle.std.proofs.Common.{◌≡◌, ◌≤◌, ◌+◌, ◌==◌, ℕ, zero, suc, Bool, true, false, List, [], ◌∷◌, ◌++◌, map, length, Option, Some, None, refl, sym, ap, subst, ◌∙◌, inl, inr, arith}
use Rattle.std.specs.Prelude.{filter, not, if◌then◌else◌, bytes_eq, sum_by}
use Rattle.std.specs.List.{flat_map, filter_map, cons_option, onto_first}
use Rattle.std.proofs.lemmas.List.{length-append}
use Rattle.std.proofs.lemmas.List.Sums.{sum_by-cons}
use Rattle.std.proofs.lemmas.Option.{same_Some, none-some}
use Rattle.text_model.specs.Lists.{In, Each, first_of_each, in_order, with_inserted}
use Rattle.text_model.specs.Text.{Bytes, sp, nul}
use Rattle.text_model.specs.Id.{Id, IsId, tree, object_id}
use Rattle.text_model.specs.Path.{components}
use Rattle.text_model.proofs.Elements.{each_from}
use Rattle.text_model.proofs.Digests.{IsId-object_id}
use Rattle.git_model.specs.Tree.{Mode, File, GroupFile, Exec, Link, Directory, Gitlink, mode_text, is_directory, TreeEntry, tree_entry_text, tree_text, is_entry_below}
use Rattle.git_model.specs.Object.{Object, object_of}
use Rattle.git_model.specs.Unfold.{FileRow, row_size, rows_limit}
use Rattle.git_model.specs.Shape.{Leaf, leaf_of, first_name_of, first_names, cut_name, leaves_below, is_named, leaf_named, leaf_object, shape_entries, shape_objects, shape_depth, trees_of}
use Rattle.tree_shape.specs.Sets.{IsFileRow}
use Rattle.tree_shape.specs.Shapes.{entry_of, entries_in, is_tree, trees_below}
use Rattle.tree_shape.proofs.Elements.{in-append, of-flat, in-filter, of-filter}
use Rattle.tree_shape.proofs.PutRows.{no-tree, text-step}
use Rattle.tree_shape.proofs.Unfolding.{text-none}

-- ---- sums

sum-filter : {X : Type 0} (f : X → ℕ) (p : X → Bool) (xs : List X) → sum_by f (filter p xs) ≤ sum_by f xs
sum-filter f p [] = omega arith
sum-filter {X} f p (x ∷ xs) = by (p x) (sum-filter f p xs)
  where
    by : (t : Bool) → sum_by f (filter p xs) ≤ sum_by f xs → sum_by f (if t then x ∷ filter p xs else filter p xs) ≤ sum_by f (x ∷ xs)
    by true h = omega (arith, h, sum_by-cons f x (filter p xs), sum_by-cons f x xs)
    by false h = omega (arith, h, sum_by-cons f x xs)

sum-once : {X : Type 0} (f : X → ℕ) (same : X → X → Bool) (xs : List X) → sum_by f (first_of_each same xs) ≤ sum_by f xs
sum-once f same [] = omega arith
sum-once f same (x ∷ xs) =
    omega (arith, sum-once f same xs, sum-filter f (λ y. not (same x y)) (first_of_each same xs), sum_by-cons f x (filter (λ y. not (same x y)) (first_of_each same xs)), sum_by-cons f x xs)

sum-inserted : {X : Type 0} (f : X → ℕ) (below : X → X → Bool) (x : X) (xs : List X) → sum_by f (with_inserted below x xs) ≡ f x + sum_by f xs
sum-inserted f below x [] = sum_by-cons f x []
sum-inserted {X} f below x (y ∷ xs) = by (below y x) (sum-inserted f below x xs)
  where
    by : (t : Bool) → sum_by f (with_inserted below x xs) ≡ f x + sum_by f xs → sum_by f (if t then y ∷ with_inserted below x xs else x ∷ y ∷ xs) ≡ f x + sum_by f (y ∷ xs)
    by true h = omega (arith, h, sum_by-cons f y (with_inserted below x xs), sum_by-cons f y xs)
    by false h = sum_by-cons f x (y ∷ xs)

sum-ordered : {X : Type 0} (f : X → ℕ) (below : X → X → Bool) (xs : List X) → sum_by f (in_order below xs) ≡ sum_by f xs
sum-ordered f below [] = refl
sum-ordered f below (x ∷ xs) = omega (arith, sum-inserted f below x (in_order below xs), sum-ordered f below xs, sum_by-cons f x xs)

sum-mapped : {X Y : Type 0} (f : Y → ℕ) (g : X → ℕ) (h : X → Y) (xs : List X) → ((x : X) → f (h x) ≤ g x) → sum_by f (map h xs) ≤ sum_by g xs
sum-mapped f g h [] le = omega arith
sum-mapped f g h (x ∷ xs) le = omega (arith, le x, sum-mapped f g h xs le, sum_by-cons f (h x) (map h xs), sum_by-cons g x xs)

-- what is taken from elements is no more than they are
sum-taken : {X Y : Type 0} (f : Y → ℕ) (g : X → ℕ) (h : X → Option Y) (xs : List X) → ((x : X) (y : Y) → h x ≡ Some y → f y ≤ g x) → sum_by f (filter_map h xs) ≤ sum_by g xs
sum-taken f g h [] le = omega arith
sum-taken {X} {Y} f g h (x ∷ xs) le = by (h x) refl (sum-taken f g h xs le)
  where
    by : (o : Option Y) → h x ≡ o → sum_by f (filter_map h xs) ≤ sum_by g xs → sum_by f (cons_option o (filter_map h xs)) ≤ sum_by g (x ∷ xs)
    by None e r = omega (arith, r, sum_by-cons g x xs)
    by (Some y) e r = omega (arith, r, le x y e, sum_by-cons f y (filter_map h xs), sum_by-cons g x xs)

-- ---- an entry

names_size : List Bytes → ℕ
names_size [] = 0
names_size (n ∷ ns) = length n + names_size ns

-- a leaf counts the bytes of its names and 42
leaf_size : Leaf → ℕ
leaf_size leaf = names_size leaf.names + 42

abbrev HasId : Leaf → Type 0
HasId leaf = IsId leaf.id

entry_size : TreeEntry → ℕ
entry_size e = length (tree_entry_text e)

mode-short : (m : Mode) → length (mode_text m) ≤ 6
mode-short File = omega arith
mode-short GroupFile = omega arith
mode-short Exec = omega arith
mode-short Link = omega arith
mode-short Directory = omega arith
mode-short Gitlink = omega arith

entry-short : (e : TreeEntry) → length e.id ≡ 20 → entry_size e ≤ length e.name + 28
unfolding entry_size
entry-short e id =
    omega (arith, id, mode-short e.mode, length-append (mode_text e.mode) (sp ∷ e.name), length-append (mode_text e.mode ++ sp ∷ e.name) (nul ∷ e.id))

text-size : (es : List TreeEntry) → length (tree_text es) ≡ sum_by entry_size es
unfolding entry_size
text-size [] = ap length text-none
text-size (e ∷ es) = ap length (text-step e es) ∙ length-append (tree_entry_text e) (tree_text es) ∙ ap (λ (n : ℕ). length (tree_entry_text e) + n) (text-size es) ∙ sym (sum_by-cons entry_size e es)

named-id : (n : Bytes) (leaves : List Leaf) (leaf : Leaf) → Each HasId leaves → leaf_named n leaves ≡ Some leaf → HasId leaf
named-id n [] leaf h e = absurd (none-some _ e)
named-id n (x ∷ leaves) leaf h e = by (is_named n x.names) e (named-id n leaves leaf h.1)
  where
    by : (t : Bool) → (if t then Some x else leaf_named n leaves) ≡ Some leaf → (leaf_named n leaves ≡ Some leaf → HasId leaf) → HasId leaf
    by true e rec = subst HasId (same_Some _ _ e) h.0
    by false e rec = rec e

entry_of-short : (depth : ℕ) (leaves : List Leaf) → Each HasId leaves → (n : Bytes) → entry_size (entry_of depth leaves n) ≤ length n + 28
entry_of-short depth leaves h n = by (leaf_named n leaves) refl
  where
    below : Id
    below = object_id tree (tree_text (shape_entries depth (leaves_below n leaves)))

    by : (o : Option Leaf) → leaf_named n leaves ≡ o
        → entry_size (elim o as (λ _. TreeEntry) [ Some leaf ↦ record { mode = leaf.mode; name = n; id = leaf.id } | None ↦ record { mode = Directory; name = n; id = below } ]) ≤ length n + 28
    by None e = entry-short (record { mode = Directory; name = n; id = below }) (IsId-object_id tree (tree_text (shape_entries depth (leaves_below n leaves)))).0
    by (Some leaf) e = entry-short (record { mode = leaf.mode; name = n; id = leaf.id }) (named-id n leaves leaf h e).0

-- ---- a tree

first-size : (leaf : Leaf) (n : Bytes) → first_name_of leaf ≡ Some n → length n + 28 ≤ leaf_size leaf
unfolding leaf_size names_size
first-size leaf n e = by leaf.names e
  where
    by : (names : List Bytes) → (elim names as (λ _. Option Bytes) [ [] ↦ None | name ∷ rest ↦ Some name ]) ≡ Some n → length n + 28 ≤ names_size names + 42
    by [] e = absurd (none-some _ e)
    by (name ∷ rest) e = omega (arith, ap length (same_Some _ _ e))

tree-short : (depth : ℕ) (leaves : List Leaf) → Each HasId leaves → length (tree_text (shape_entries (suc depth) leaves)) ≤ sum_by leaf_size leaves
unfolding shape_entries
tree-short depth leaves h =
    let names = filter_map first_name_of leaves in
    let text : length (tree_text (in_order is_entry_below (entries_in depth leaves))) ≡ sum_by entry_size (entries_in depth leaves) = text-size (in_order is_entry_below (entries_in depth leaves)) ∙ sum-ordered entry_size is_entry_below (entries_in depth leaves) in
    let entries = sum-mapped entry_size (λ (n : Bytes). length n + 28) (entry_of depth leaves) (first_names leaves) (entry_of-short depth leaves h) in
    let once = sum-once (λ (n : Bytes). length n + 28) bytes_eq names in
    omega (arith, text, entries, once, sum-taken (λ (n : Bytes). length n + 28) leaf_size first_name_of leaves first-size)

-- ---- what lies below

cut-size : (n : Bytes) (leaf x : Leaf) → cut_name n leaf leaf.names ≡ Some x → (leaf_size x ≤ leaf_size leaf) × (HasId leaf → HasId x)
unfolding leaf_size names_size
cut-size n leaf x e = by leaf.names e
  where
    by : (names : List Bytes) → cut_name n leaf names ≡ Some x → (names_size x.names + 42 ≤ names_size names + 42) × (HasId leaf → HasId x)
    by [] e = absurd (none-some _ e)
    by (first ∷ []) e = absurd (none-some _ e)
    by (first ∷ next ∷ names) e = cases (bytes_eq first n) e
      where
        cut : Leaf
        cut = record { names = next ∷ names; mode = leaf.mode; id = leaf.id; content = leaf.content }

        cases : (t : Bool) → (if t then Some (record { names = next ∷ names; mode = leaf.mode; id = leaf.id; content = leaf.content }) else None) ≡ Some x
            → (names_size x.names + 42 ≤ names_size (first ∷ next ∷ names) + 42) × (HasId leaf → HasId x)
        cases true e = (omega (arith, ap (λ (l : Leaf). names_size l.names) (same_Some _ _ e)), λ h. subst HasId (same_Some _ _ e) h)
        cases false e = absurd (none-some _ e)

below-ids : (n : Bytes) (leaves : List Leaf) → Each HasId leaves → Each HasId (leaves_below n leaves)
below-ids n [] h = tt
below-ids n (leaf ∷ leaves) h = by (cut_name n leaf leaf.names) refl (below-ids n leaves h.1)
  where
    by : (o : Option Leaf) → cut_name n leaf leaf.names ≡ o → Each HasId (leaves_below n leaves) → Each HasId (cons_option o (leaves_below n leaves))
    by None e r = r
    by (Some x) e r = ((cut-size n leaf x e).1 h.0, r)

each-tree : (depth : ℕ) (leaves : List Leaf) (o : Object) → Each HasId leaves → In o (shape_objects depth leaves) → is_tree o ≡ true → length o.content ≤ sum_by leaf_size leaves
unfolding shape_objects
each-tree zero leaves o h i t = absurd i
each-tree (suc depth) leaves o h i t = elim (in-append o (flat_map (trees_below depth leaves) (shape_entries (suc depth) leaves)) (object_of tree (tree_text (shape_entries (suc depth) leaves)) ∷ []) i) [
  | inl j ↦ let e = of-flat (trees_below depth leaves) (shape_entries (suc depth) leaves) o j in
      by e.0 (is_directory (e.0).mode) (λ k. each-tree depth (leaves_below (e.0).name leaves) o (below-ids (e.0).name leaves h) k t) e.2
  | inr j ↦ elim j [
    | inl q ↦ omega (arith, tree-short depth leaves h, ap (λ (x : Object). length x.content) q)
    | inr k ↦ absurd k
  ]
]
  where
    by : (e : TreeEntry) (d : Bool) → (In o (shape_objects depth (leaves_below e.name leaves)) → length o.content ≤ sum_by leaf_size (leaves_below e.name leaves))
        → In o (if d then shape_objects depth (leaves_below e.name leaves) else leaf_object (leaf_named e.name leaves)) → length o.content ≤ sum_by leaf_size leaves
    by e true rec j = omega (arith, rec j, sum-taken leaf_size leaf_size (λ leaf. cut_name e.name leaf leaf.names) leaves (λ leaf x q. (cut-size e.name leaf x q).0))
    by e false rec j = absurd (subst (In o) (no-tree (leaf_named e.name leaves)) (in-filter is_tree o (leaf_object (leaf_named e.name leaves)) j t))

-- ---- rows

onto-size : (b : ℕ) (ns : List Bytes) → names_size (onto_first b ns) ≤ 1 + names_size ns
unfolding names_size
onto-size b [] = omega arith
onto-size b (n ∷ ns) = omega arith

components-short : (path : Bytes) → names_size (components path) ≤ length path
unfolding names_size
components-short [] = omega arith
components-short (b ∷ path) = by (b == 47) (components path) (components-short path)
  where
    by : (t : Bool) (parts : List Bytes) → names_size parts ≤ length path → names_size (if t then [] ∷ parts else onto_first b parts) ≤ length (b ∷ path)
    by true parts h = omega (arith, h)
    by false parts h = omega (arith, h, onto-size b parts)

-- where the rows are within their limit, each of their trees is
pub trees-within : (rows : List FileRow) → Each IsFileRow rows → sum_by row_size rows ≤ rows_limit → Each (λ o. length o.content ≤ rows_limit) (trees_of rows)
unfolding trees_of leaf_size
trees-within rows files within = each_from (λ (o : Object). length o.content ≤ rows_limit) (trees_of rows) (λ o i.
    let f = of-filter is_tree o (shape_objects shape_depth (map leaf_of rows)) i in
    let short = each-tree shape_depth (map leaf_of rows) o (ids rows files) f.0 f.1 in
    omega (arith, within, short, sum-mapped leaf_size row_size leaf_of rows (λ row. let c = components-short row.path in omega (arith, c))))
  where
    ids : (rows : List FileRow) → Each IsFileRow rows → Each HasId (map leaf_of rows)
    ids [] h = tt
    ids (row ∷ rows) h = (h.0.id, ids rows h.1)
