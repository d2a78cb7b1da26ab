-- The trees of files with their contents are those without, and what isn't a tree is a file's content.
use Rattle.std.proofs.Common.{◌≡◌, ◌≤◌, ℕ, zero, suc, Bool, true, false, List, [], ◌∷◌, ◌++◌, map, length, Option, Some, None, refl, sym, ap, subst, ◌∙◌, inl, inr, ◌⊎◌}
use Rattle.std.specs.Prelude.{filter, if◌then◌else◌, bytes_eq}
use Rattle.std.specs.List.{flat_map, cons_option}
use Rattle.std.proofs.lemmas.List.Elements.{filter-append}
use Rattle.text_model.specs.Lists.{In, Each}
use Rattle.text_model.specs.Text.{Bytes}
use Rattle.text_model.specs.Id.{Id, tree, blob}
use Rattle.text_model.proofs.Elements.{each_in, each_from}
use Rattle.text_model.proofs.Options.{none_some, some_is}
use Rattle.git_model.specs.Tree.{Mode, is_directory, is_blob_mode, TreeEntry, tree_text}
use Rattle.git_model.specs.Object.{Object, object_of}
use Rattle.git_model.specs.Shape.{Leaf, leaf_of, cut_name, leaves_below, is_named, leaf_named, leaf_object, shape_entries, shape_objects, shape_depth, trees_of}
use Rattle.tree_shape.specs.Shapes.{is_tree, trees_below}
use Rattle.tree_shape.proofs.Elements.{in-append, of-flat, in-filter}
use Rattle.tree_shape.proofs.PutRows.{no-tree}
use Rattle.git_view.proofs.Shapes.{filled, below-filled, entries-filled}
use Rattle.view_model.specs.View.{TreeRow, leaf_of_row, text_limit}
use Rattle.view_model.specs.Held.{file_row_of}
use Rattle.commit_rule.specs.Parts.{AreShort}

-- ---- trees without contents

filter-flat : {X Y : Type 0} (p : Y → Bool) (f g : X → List Y) (xs : List X) → ((x : X) → filter p (f x) ≡ filter p (g x)) → filter p (flat_map f xs) ≡ filter p (flat_map g xs)
filter-flat p f g [] h = refl
filter-flat p f g (x ∷ xs) h =
    filter-append p (f x) (flat_map f xs) ∙ (λ i. h x i ++ filter-flat p f g xs h i) ∙ sym (filter-append p (g x) (flat_map g xs))

module _ (content : Mode → Id → Bytes) where
  trees-filled : (depth : ℕ) (leaves : List Leaf) → filter is_tree (shape_objects depth (map (filled content) leaves)) ≡ filter is_tree (shape_objects depth leaves)
  unfolding shape_objects
  trees-filled zero leaves = refl
  trees-filled (suc depth) leaves =
      (λ i. filter is_tree (flat_map (trees_below depth (map (filled content) leaves)) (same i) ++ object_of tree (tree_text (same i)) ∷ []))
      ∙ filter-append is_tree (flat_map (trees_below depth (map (filled content) leaves)) (shape_entries (suc depth) leaves)) last
      ∙ ap (λ (os : List Object). os ++ filter is_tree last) (filter-flat is_tree (trees_below depth (map (filled content) leaves)) (trees_below depth leaves) (shape_entries (suc depth) leaves) (λ e. one e (trees-filled depth) (is_directory e.mode)))
      ∙ sym (filter-append is_tree (flat_map (trees_below depth leaves) (shape_entries (suc depth) leaves)) last)
    where
      same : shape_entries (suc depth) (map (filled content) leaves) ≡ shape_entries (suc depth) leaves
      same = entries-filled content (suc depth) leaves

      last : List Object
      last = object_of tree (tree_text (shape_entries (suc depth) leaves)) ∷ []

      one : (e : TreeEntry) → ((ls : List Leaf) → filter is_tree (shape_objects depth (map (filled content) ls)) ≡ filter is_tree (shape_objects depth ls)) → (t : Bool)
          → filter is_tree (if t then shape_objects depth (leaves_below e.name (map (filled content) leaves)) else leaf_object (leaf_named e.name (map (filled content) leaves)))
          ≡ filter is_tree (if t then shape_objects depth (leaves_below e.name leaves) else leaf_object (leaf_named e.name leaves))
      one e rec true = ap (λ (ls : List Leaf). filter is_tree (shape_objects depth ls)) (below-filled content e.name leaves) ∙ rec (leaves_below e.name leaves)
      one e rec false = no-tree (leaf_named e.name (map (filled content) leaves)) ∙ sym (no-tree (leaf_named e.name leaves))

same-leaves : (rows : List TreeRow) → map (filled (λ _ _. [])) (map leaf_of_row rows) ≡ map leaf_of (map file_row_of rows)
same-leaves [] = refl
same-leaves (row ∷ rows) = ap (λ (l : List Leaf). leaf_of (file_row_of row) ∷ l) (same-leaves rows)

-- the trees of rows are those of their files
pub same-trees : (rows : List TreeRow) → filter is_tree (shape_objects shape_depth (map leaf_of_row rows)) ≡ trees_of (map file_row_of rows)
unfolding trees_of
same-trees rows = sym (trees-filled (λ _ _. []) shape_depth (map leaf_of_row rows)) ∙ ap (λ (ls : List Leaf). filter is_tree (shape_objects shape_depth ls)) (same-leaves rows)

-- ---- what isn't a tree

abbrev IsShortLeaf : Leaf → Type 0
IsShortLeaf leaf = length leaf.content ≤ text_limit

below-short : (name : Bytes) (leaves : List Leaf) → Each IsShortLeaf leaves → Each IsShortLeaf (leaves_below name leaves)
below-short name [] h = tt
below-short name (leaf ∷ leaves) h = by (cut_name name leaf leaf.names) (cut leaf.names) (below-short name leaves h.1)
  where
    cut : (names : List Bytes) → (x : Leaf) → cut_name name leaf names ≡ Some x → IsShortLeaf x
    cut [] x e = absurd cc
    cut (first ∷ []) x e = absurd cc
    cut (first ∷ next ∷ names) x e = cases (bytes_eq first name) e
      where
        cases : (t : Bool) → (if t then Some (record { names = next ∷ names; mode = leaf.mode; id = leaf.id; content = leaf.content }) else None) ≡ Some x → IsShortLeaf x
        cases true e = subst IsShortLeaf (some_is e) h.0
        cases false e = absurd (none_some e)

    by : (o : Option Leaf) → ((x : Leaf) → o ≡ Some x → IsShortLeaf x) → Each IsShortLeaf (leaves_below name leaves) → Each IsShortLeaf (cons_option o (leaves_below name leaves))
    by None k rest = rest
    by (Some x) k rest = (k x refl, rest)

find-short : (name : Bytes) (leaves : List Leaf) (leaf : Leaf) → Each IsShortLeaf leaves → leaf_named name leaves ≡ Some leaf → IsShortLeaf leaf
find-short name [] leaf h e = absurd (none_some e)
find-short name (x ∷ leaves) leaf h e = by (is_named name x.names) e (find-short name leaves leaf h.1)
  where
    by : (t : Bool) → (if t then Some x else leaf_named name leaves) ≡ Some leaf → (leaf_named name leaves ≡ Some leaf → IsShortLeaf leaf) → IsShortLeaf leaf
    by true e rec = subst IsShortLeaf (some_is e) h.0
    by false e rec = rec e

leaf-short : (o : Option Leaf) (object : Object) → ((leaf : Leaf) → o ≡ Some leaf → IsShortLeaf leaf) → In object (leaf_object o) → length object.content ≤ text_limit
leaf-short None object h i = absurd i
leaf-short (Some leaf) object h i = by (is_blob_mode leaf.mode) i
  where
    by : (t : Bool) → In object (if t then record { id = leaf.id; kind = blob; content = leaf.content } ∷ [] else []) → length object.content ≤ text_limit
    by true i = elim i [ inl q ↦ subst (λ (x : Object). length x.content ≤ text_limit) (sym q) (h leaf refl) | inr j ↦ absurd j ]
    by false i = absurd i

tree-or-short : (depth : ℕ) (leaves : List Leaf) (o : Object) → Each IsShortLeaf leaves → In o (shape_objects depth leaves) → (is_tree o ≡ true) ⊎ (length o.content ≤ text_limit)
unfolding shape_objects
tree-or-short zero leaves o h i = absurd i
tree-or-short (suc depth) leaves o h i = elim (in-append o (flat_map (trees_below depth leaves) (shape_entries (suc depth) leaves)) (object_of tree (tree_text (shape_entries (suc depth) leaves)) ∷ []) i) [
  | inl j ↦ let e = of-flat (trees_below depth leaves) (shape_entries (suc depth) leaves) o j in by e.0 (λ ls short k. tree-or-short depth ls o short k) (is_directory (e.0).mode) e.2
  | inr j ↦ elim j [ inl q ↦ inl (ap is_tree q) | inr k ↦ absurd k ]
]
  where
    by : (e : TreeEntry) → ((ls : List Leaf) → Each IsShortLeaf ls → In o (shape_objects depth ls) → (is_tree o ≡ true) ⊎ (length o.content ≤ text_limit)) → (t : Bool) → In o (if t then shape_objects depth (leaves_below e.name leaves) else leaf_object (leaf_named e.name leaves)) → (is_tree o ≡ true) ⊎ (length o.content ≤ text_limit)
    by e rec true j = rec (leaves_below e.name leaves) (below-short e.name leaves h) j
    by e rec false j = inr (leaf-short (leaf_named e.name leaves) o (λ leaf at. find-short e.name leaves leaf h at) j)

leaves-short : (rows : List TreeRow) → Each (λ row. length row.content ≤ text_limit) rows → Each IsShortLeaf (map leaf_of_row rows)
leaves-short [] h = tt
leaves-short (row ∷ rows) h = (h.0, leaves-short rows h.1)

-- where the trees and the contents of rows are within their limit, all objects of them are
pub objects-short : (rows : List TreeRow) → AreShort (trees_of (map file_row_of rows)) → Each (λ row. length row.content ≤ text_limit) rows → AreShort (shape_objects shape_depth (map leaf_of_row rows))
objects-short rows trees short = each_from (λ (o : Object). length o.content ≤ text_limit) (shape_objects shape_depth (map leaf_of_row rows)) (λ o i.
    elim (tree-or-short shape_depth (map leaf_of_row rows) o (leaves-short rows short) i) [
      | inl t ↦ each_in (λ (x : Object). length x.content ≤ text_limit) (trees_of (map file_row_of rows)) o trees (subst (In o) (same-trees rows) (in-filter is_tree o (shape_objects shape_depth (map leaf_of_row rows)) i t))
      | inr s ↦ s
    ])
