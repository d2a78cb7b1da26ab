-- The trees of rows that an old tree doesn't have, one directory after the other.
use Rattle.std.specs.Prelude.{ℕ, zero, suc, Bool, true, false, not, ◌&&◌, if◌then◌else◌, List, [], ◌∷◌, ◌++◌, map, filter, bytes_eq}
use Rattle.std.specs.List.{flat_map}
use Rattle.text_model.specs.Text.{Bytes}
use Rattle.text_model.specs.Id.{tree, object_id}
use Rattle.git_model.specs.Tree.{Mode, Directory, mode_text, is_directory, TreeEntry, tree_text}
use Rattle.git_model.specs.Object.{Object, object_of}
use Rattle.git_model.specs.Unfold.{FileRow}
use Rattle.git_model.specs.Shape.{Leaf, leaves_below, shape_entries}
use Rattle.tree_shape.specs.Shapes.{trees_of_rows}
use Rattle.tree_shape.specs.Wholes.{put_name, leaf_at}

abbrev pub same_names : List Bytes → List Bytes → Bool
same_names [] [] = true
same_names (a ∷ as') (b ∷ bs) = bytes_eq a b && same_names as' bs
same_names _ _ = false

abbrev pub same_leaf : Leaf → Leaf → Bool
same_leaf a b = same_names a.names b.names && (bytes_eq (mode_text a.mode) (mode_text b.mode) && (bytes_eq a.id b.id && bytes_eq a.content b.content))

abbrev pub same_leaves : List Leaf → List Leaf → Bool
same_leaves [] [] = true
same_leaves (a ∷ as') (b ∷ bs) = same_leaf a b && same_leaves as' bs
same_leaves _ _ = false

-- these names lead to a directory's inside: names come behind them, or they are those of an empty directory
abbrev pub ends_in : Mode → List Bytes → Bool
ends_in mode [] = is_directory mode
ends_in mode (name ∷ names) = true

-- the leaf lies in the directory of these names, or is that directory, an empty one; all lie in the root
abbrev pub lies_in : List Bytes → Mode → List Bytes → Bool
lies_in [] mode names = true
lies_in (n ∷ lead) mode [] = false
lies_in (n ∷ []) mode (m ∷ names) = bytes_eq m n && ends_in mode names
lies_in (n ∷ k ∷ lead) mode (m ∷ names) = bytes_eq m n && lies_in (k ∷ lead) mode names

abbrev pub is_leaf_in : List Bytes → Leaf → Bool
is_leaf_in lead leaf = lies_in lead leaf.mode leaf.names

abbrev pub leaves_in_directory : List Bytes → List Leaf → List Leaf
leaves_in_directory lead leaves = filter (is_leaf_in lead) leaves

-- the directory of the names has the same leaves in both
abbrev pub is_same_in : List Bytes → List Leaf → List Leaf → Bool
is_same_in lead old new = same_leaves (leaves_in_directory lead old) (leaves_in_directory lead new)

-- the new trees of an entry
abbrev pub new_of : (List Leaf → List Leaf → List Object) → List Leaf → List Leaf → TreeEntry → List Object
new_of below old new e =
    if is_directory e.mode && not (is_same_in (e.name ∷ []) old new) then below (leaves_below e.name old) (leaves_below e.name new) else []

-- The trees of the new leaves of a directory that hasn't the old ones: those of its entries that differ, and then its own.
unfoldable pub new_in : ℕ → List Leaf → List Leaf → List Object
new_in zero old new = []
new_in (suc depth) old new =
    flat_map (new_of (new_in depth) old new) (shape_entries (suc depth) new)
    ++ object_of tree (tree_text (shape_entries (suc depth) new)) ∷ []

-- ---- the entries of a directory

-- the directory of this name has the leaves of the group
abbrev pub has_group : Bytes → List Leaf → List Leaf → Bool
has_group name old group = same_leaves (leaves_in_directory (name ∷ []) old) (map (put_name name) group)

-- the new trees of a directory in which the group lies
abbrev pub new_group : ℕ → List Leaf → Bytes → List Leaf → List Object
new_group depth old name group = if has_group name old group then [] else new_in depth (leaves_below name old) group

abbrev pub empty_leaf : Bytes → Leaf
empty_leaf name = leaf_at (record { mode = Directory; name = name; id = object_id tree [] })

-- an empty directory has this name
abbrev pub has_empty : Bytes → List Leaf → Bool
has_empty name old = same_leaves (leaves_in_directory (name ∷ []) old) (empty_leaf name ∷ [])

-- the new tree of a row of this one name: an empty directory has one
abbrev pub new_row : ℕ → List Leaf → Bytes → FileRow → List Object
new_row depth old name row = if is_directory row.mode && not (has_empty name old) then trees_of_rows depth [] else []

-- the new trees of a directory over an old tree: none where that has the same leaves
abbrev pub new_over : ℕ → List Leaf → List Leaf → List Object
new_over depth old new = if same_leaves old new then [] else new_in depth old new

-- those of the root
abbrev pub new_leaves : List Leaf → List Leaf → List Object
new_leaves old new = new_over 257 old new
