-- A tree of rows, one entry after the other.
use Rattle.std.proofs.Common.{◌≡◌, ◌≤◌, ◌<◌, ℕ, zero, suc, Bool, true, false, List, [], ◌∷◌, ◌++◌, map, Option, Some, None, refl, ap, ◌∙◌, arith}
use Rattle.std.specs.Prelude.{filter, if◌then◌else◌}
use Rattle.std.proofs.lemmas.List.{map-append}
use Rattle.text_model.specs.Lists.{Each}
use Rattle.text_model.specs.Text.{Bytes}
use Rattle.text_model.specs.Id.{tree}
use Rattle.text_model.specs.Cuts.{cut_of}
use Rattle.git_model.specs.Tree.{Mode, File, GroupFile, Exec, Link, Directory, Gitlink, is_directory, TreeEntry, tree_entry_text, tree_text}
use Rattle.git_model.specs.Object.{Object, object_of}
use Rattle.git_model.specs.Unfold.{FileRow}
use Rattle.std.specs.List.{cons_option}
use Rattle.git_model.specs.Shape.{Leaf, leaf_of, leaf_object, leaf_named, is_named, leaves_below, cut_name, shape_entries, shape_objects}
use Rattle.tree_shape.specs.Shapes.{entry_of, entries_in, is_tree, trees_below, trees_in, id_of_rows, trees_of_rows, row_trees, Good, is_in}
use Rattle.tree_shape.proofs.Leaves.{entries-step, trees-step, entry_by, same}
use Rattle.tree_shape.proofs.Rows.{flat, Flat, Splits, file-one, dir-one, shorter, shorter-leaves, no-file}

-- ---- one step

dir-entry : (depth : ℕ) (name : Bytes) (group : List FileRow) → Each (λ t. is_in name t ≡ true) group
    → entry_of depth (map leaf_of group) name ≡ record { mode = Directory; name = name; id = id_of_rows depth (map (shorter name) group) }
dir-entry depth name group all = (λ k. entry_by depth name (no-file name group all k) (shorter-leaves name group all k))

pub entries-dir : (depth : ℕ) (name : Bytes) (a : FileRow) (group rest : List FileRow) → Good (a ∷ (group ++ rest)) → Splits name a group rest
    → entries_in depth (map leaf_of (a ∷ (group ++ rest))) ≡ record { mode = Directory; name = name; id = id_of_rows depth (map (shorter name) (a ∷ group)) } ∷ entries_in depth (map leaf_of rest)
entries-dir depth name a group rest g s =
    ap (λ (l : List Leaf). entries_in depth (leaf_of a ∷ l)) (map-append leaf_of group rest)
    ∙ entries-step depth name (leaf_of a) (map leaf_of group) (map leaf_of rest) (dir-one name a group rest g s)
    ∙ ap (λ (e : TreeEntry). e ∷ entries_in depth (map leaf_of rest)) (dir-entry depth name (a ∷ group) s.all)

pub trees-dir : (depth : ℕ) (name : Bytes) (a : FileRow) (group rest : List FileRow) → Good (a ∷ (group ++ rest)) → Splits name a group rest
    → trees_in depth (map leaf_of (a ∷ (group ++ rest))) ≡ trees_of_rows depth (map (shorter name) (a ∷ group)) ++ trees_in depth (map leaf_of rest)
trees-dir depth name a group rest g s =
    ap (λ (l : List Leaf). trees_in depth (leaf_of a ∷ l)) (map-append leaf_of group rest)
    ∙ trees-step depth name (leaf_of a) (map leaf_of group) (map leaf_of rest) (dir-one name a group rest g s)
    ∙ ap (λ (e : TreeEntry). filter is_tree (trees_below depth (map leaf_of (a ∷ group)) e) ++ trees_in depth (map leaf_of rest)) (dir-entry depth name (a ∷ group) s.all)
    ∙ ap (λ (l : List Leaf). filter is_tree (shape_objects depth l) ++ trees_in depth (map leaf_of rest)) (shorter-leaves name (a ∷ group) s.all)

file-found : (a : FileRow) → Flat a.path → leaf_named a.path (leaf_of a ∷ []) ≡ Some (leaf_of a)
file-found a f =
    ap (λ (names : List Bytes). if is_named a.path names then Some (leaf_of a) else None) f.parts
    ∙ ap (λ (b : Bool). if b then Some (leaf_of a) else None) (same a.path)

pub file-entry : (depth : ℕ) (a : FileRow) → Flat a.path → entry_of depth (leaf_of a ∷ []) a.path ≡ record { mode = a.mode; name = a.path; id = a.id }
file-entry depth a f = ap (λ (o : Option Leaf). entry_by depth a.path o (leaves_below a.path (leaf_of a ∷ []))) (file-found a f)

pub entries-file : (depth : ℕ) (a : FileRow) (rows : List FileRow) → Good (a ∷ rows) → cut_of 47 a.path ≡ None
    → entries_in depth (map leaf_of (a ∷ rows)) ≡ record { mode = a.mode; name = a.path; id = a.id } ∷ entries_in depth (map leaf_of rows)
entries-file depth a rows g e =
    entries-step depth a.path (leaf_of a) [] (map leaf_of rows) (file-one a rows g e)
    ∙ ap (λ (e : TreeEntry). e ∷ entries_in depth (map leaf_of rows)) (file-entry depth a (flat a.path e))

pub no-tree : (o : Option Leaf) → filter is_tree (leaf_object o) ≡ []
no-tree None = refl
no-tree (Some leaf) = by leaf.mode
  where
    by : (m : Mode) → filter is_tree (leaf_object (Some (record leaf { mode = m }))) ≡ []
    by File = refl
    by GroupFile = refl
    by Exec = refl
    by Link = refl
    by Directory = refl
    by Gitlink = refl

trees-one : (depth : ℕ) (a : FileRow) (rows : List FileRow) → Good (a ∷ rows) → cut_of 47 a.path ≡ None → (t : Bool) → is_directory a.mode ≡ t
    → trees_in depth (map leaf_of (a ∷ rows)) ≡ filter is_tree (if t then shape_objects depth (leaves_below a.path (leaf_of a ∷ [])) else leaf_object (leaf_named a.path (leaf_of a ∷ []))) ++ trees_in depth (map leaf_of rows)
trees-one depth a rows g e t d =
    trees-step depth a.path (leaf_of a) [] (map leaf_of rows) (file-one a rows g e)
    ∙ ap (λ (e : TreeEntry). filter is_tree (trees_below depth (leaf_of a ∷ []) e) ++ trees_in depth (map leaf_of rows)) (file-entry depth a (flat a.path e))
    ∙ ap (λ (b : Bool). filter is_tree (if b then shape_objects depth (leaves_below a.path (leaf_of a ∷ [])) else leaf_object (leaf_named a.path (leaf_of a ∷ []))) ++ trees_in depth (map leaf_of rows)) d

pub trees-file : (depth : ℕ) (a : FileRow) (rows : List FileRow) → Good (a ∷ rows) → cut_of 47 a.path ≡ None → is_directory a.mode ≡ false
    → trees_in depth (map leaf_of (a ∷ rows)) ≡ trees_in depth (map leaf_of rows)
trees-file depth a rows g e d =
    trees-one depth a rows g e false d
    ∙ ap (λ (os : List Object). os ++ trees_in depth (map leaf_of rows)) (no-tree (leaf_named a.path (leaf_of a ∷ [])))

-- an empty subtree has the tree of no rows
pub trees-empty : (depth : ℕ) (a : FileRow) (rows : List FileRow) → Good (a ∷ rows) → cut_of 47 a.path ≡ None → is_directory a.mode ≡ true
    → trees_in depth (map leaf_of (a ∷ rows)) ≡ trees_of_rows depth [] ++ trees_in depth (map leaf_of rows)
trees-empty depth a rows g e d =
    trees-one depth a rows g e true d
    ∙ ap (λ (l : List Leaf). filter is_tree (shape_objects depth l) ++ trees_in depth (map leaf_of rows)) (ap (λ (names : List Bytes). cons_option (cut_name a.path (leaf_of a) names) []) (flat a.path e).parts)

pub text-step : (e : TreeEntry) (es : List TreeEntry) → tree_text (e ∷ es) ≡ tree_entry_text e ++ tree_text es
unfolding tree_text
text-step e es = refl

-- the tree of no rows
empty-trees : (depth : ℕ) → 0 < depth → trees_of_rows depth [] ≡ object_of tree [] ∷ []
unfolding shape_entries shape_objects tree_text
empty-trees zero h = absurd (omega (arith, h))
empty-trees (suc depth) h = refl

no-depth : (depth : ℕ) → depth ≤ 0 → trees_of_rows depth [] ≡ []
unfolding shape_objects
no-depth zero h = refl
no-depth (suc depth) h = absurd (omega (arith, h))

pub below-dir : (depth : ℕ) (row : FileRow) → is_directory row.mode ≡ true → 0 < depth → row_trees depth row ≡ object_of tree [] ∷ []
below-dir depth row d h = ap (λ (t : Bool). if t then trees_of_rows depth [] else []) d ∙ empty-trees depth h

pub below-deep : (depth : ℕ) (row : FileRow) → is_directory row.mode ≡ true → depth ≤ 0 → row_trees depth row ≡ []
below-deep depth row d h = ap (λ (t : Bool). if t then trees_of_rows depth [] else []) d ∙ no-depth depth h

pub below-file : (depth : ℕ) (row : FileRow) → is_directory row.mode ≡ false → row_trees depth row ≡ []
below-file depth row d = ap (λ (t : Bool). if t then trees_of_rows depth [] else []) d
