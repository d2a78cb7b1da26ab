-- Trees of files are the same whatever the files contain.
use Rattle.std.proofs.Common.{◌≡◌, ℕ, zero, suc, Bool, true, false, List, [], ◌∷◌, map, Option, Some, None, refl, sym, ap, ◌∙◌}
use Rattle.std.specs.Prelude.{bytes_eq, option_map, if◌then◌else◌}
use Rattle.std.specs.List.{filter_map, cons_option}
use Rattle.text_model.specs.Lists.{first_of_each, in_order}
use Rattle.text_model.specs.Text.{Bytes}
use Rattle.text_model.specs.Id.{Id, tree, object_id}
use Rattle.git_model.specs.Tree.{Mode, Directory, TreeEntry, tree_text, is_entry_below}
use Rattle.git_model.specs.Shape.{Leaf, leaf_of, first_name_of, first_names, cut_name, leaves_below, is_named, leaf_named, shape_entries}
use Rattle.tree_shape.specs.Shapes.{entry_of}
use Rattle.view_model.specs.View.{TreeRow, leaf_of_row}
use Rattle.view_model.specs.Held.{file_row_of}

-- files with other contents
module _ (content : Mode → Id → Bytes) where
  abbrev pub filled : Leaf → Leaf
  filled leaf = record { names = leaf.names; mode = leaf.mode; id = leaf.id; content = content leaf.mode leaf.id }

  pub first_names-filled : (leaves : List Leaf) → first_names (map filled leaves) ≡ first_names leaves
  first_names-filled leaves = ap (first_of_each bytes_eq) (each leaves)
    where
      each : (ls : List Leaf) → filter_map first_name_of (map filled ls) ≡ filter_map first_name_of ls
      each [] = refl
      each (l ∷ ls) = ap (cons_option (first_name_of l)) (each ls)

  cut-filled : (name : Bytes) (leaf : Leaf) (names : List Bytes) → cut_name name (filled leaf) names ≡ option_map filled (cut_name name leaf names)
  cut-filled name leaf [] = refl
  cut-filled name leaf (first ∷ []) = refl
  cut-filled name leaf (first ∷ next ∷ names) = by (bytes_eq first name)
    where
      by : (t : Bool) → (if t then Some (record { names = next ∷ names; mode = leaf.mode; id = leaf.id; content = content leaf.mode leaf.id }) else None)
          ≡ option_map filled (if t then Some (record { names = next ∷ names; mode = leaf.mode; id = leaf.id; content = leaf.content }) else None)
      by true = refl
      by false = refl

  cons-filled : (o : Option Leaf) (leaves : List Leaf) → cons_option (option_map filled o) (map filled leaves) ≡ map filled (cons_option o leaves)
  cons-filled None leaves = refl
  cons-filled (Some leaf) leaves = refl

  pub below-filled : (name : Bytes) (leaves : List Leaf) → leaves_below name (map filled leaves) ≡ map filled (leaves_below name leaves)
  below-filled name [] = refl
  below-filled name (leaf ∷ leaves) = (λ i. cons_option (cut-filled name leaf leaf.names i) (below-filled name leaves i)) ∙ cons-filled (cut_name name leaf leaf.names) (leaves_below name leaves)

  pub named-filled : (name : Bytes) (leaves : List Leaf) → leaf_named name (map filled leaves) ≡ option_map filled (leaf_named name leaves)
  named-filled name [] = refl
  named-filled name (leaf ∷ leaves) = by (is_named name leaf.names) (named-filled name leaves)
    where
      by : (t : Bool) → leaf_named name (map filled leaves) ≡ option_map filled (leaf_named name leaves)
          → (if t then Some (filled leaf) else leaf_named name (map filled leaves)) ≡ option_map filled (if t then Some leaf else leaf_named name leaves)
      by true rest = refl
      by false rest = rest

  -- an entry by what has its name and what lies below
  abbrev entry_with : Bytes → Option Leaf → List TreeEntry → TreeEntry
  entry_with name o below = elim o as (λ _. TreeEntry) [
    | Some leaf ↦ record { mode = leaf.mode; name = name; id = leaf.id }
    | None ↦ record { mode = Directory; name = name; id = object_id tree (tree_text below) }
  ]

  entry-filled : (name : Bytes) (o : Option Leaf) (below : List TreeEntry) → entry_with name (option_map filled o) below ≡ entry_with name o below
  entry-filled name None below = refl
  entry-filled name (Some leaf) below = refl

  pub entries-filled : (depth : ℕ) (leaves : List Leaf) → shape_entries depth (map filled leaves) ≡ shape_entries depth leaves
  unfolding shape_entries
  entries-filled zero leaves = refl
  entries-filled (suc depth) leaves = ap (in_order is_entry_below) (ap (map (entry_of depth (map filled leaves))) (first_names-filled leaves) ∙ each (first_names leaves) (entries-filled depth))
    where
      each : (names : List Bytes) → ((ls : List Leaf) → shape_entries depth (map filled ls) ≡ shape_entries depth ls) → map (entry_of depth (map filled leaves)) names ≡ map (entry_of depth leaves) names
      each [] rec = refl
      each (name ∷ names) rec =
          (λ i. (
          (λ k. entry_with name (named-filled name leaves k) (shape_entries depth (below-filled name leaves k)))
          ∙ (λ k. entry_with name (option_map filled (leaf_named name leaves)) (rec (leaves_below name leaves) k))
          ∙ entry-filled name (leaf_named name leaves) (shape_entries depth (leaves_below name leaves))) i ∷ each names rec i)

-- rows without their contents
pub same-leaves : (rows : List TreeRow) → map (filled (λ _ _. [])) (map leaf_of_row rows) ≡ map leaf_of (map file_row_of rows)
same-leaves [] = refl
same-leaves (row ∷ rows) = ap (λ (l : List Leaf). leaf_of (file_row_of row) ∷ l) (same-leaves rows)

pub same-entries : (depth : ℕ) (rows : List TreeRow) → shape_entries depth (map leaf_of_row rows) ≡ shape_entries depth (map leaf_of (map file_row_of rows))
same-entries depth rows = sym (entries-filled (λ _ _. []) depth (map leaf_of_row rows)) ∙ ap (shape_entries depth) (same-leaves rows)
