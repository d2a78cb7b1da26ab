-- The trees of rows, one name after the other.
use Rattle.std.specs.Prelude.{◌≡◌, ◌≢◌, ℕ, Bool, true, false, if◌then◌else◌, List, [], ◌∷◌, drop, map, filter, Some, None, bytes_eq}
use Rattle.std.specs.List.{flat_map}
use Rattle.text_model.specs.Lists.{Each}
use Rattle.text_model.specs.Text.{Bytes, has_byte}
use Rattle.text_model.specs.Id.{Id, tree, same_kind, object_id}
use Rattle.text_model.specs.Path.{components, lies_below}
use Rattle.text_model.specs.Cuts.{cut_of}
use Rattle.git_model.specs.Tree.{Directory, is_directory, TreeEntry, tree_text}
use Rattle.git_model.specs.Object.{Object}
use Rattle.git_model.specs.Unfold.{FileRow, is_met_before}
use Rattle.git_model.specs.Shape.{Leaf, leaf_of, first_names, leaf_named, leaves_below, leaf_object, shape_entries, shape_objects}

-- a row without the front of its path
abbrev pub short : ℕ → FileRow → FileRow
short skip row = record { path = drop skip row.path; mode = row.mode; id = row.id }

abbrev pub shorts : ℕ → List FileRow → List FileRow
shorts skip rows = map (short skip) rows

-- the entry of a name among the leaves
abbrev pub entry_of : ℕ → List Leaf → Bytes → TreeEntry
entry_of depth leaves name = elim (leaf_named name leaves) as (λ _. TreeEntry) [
  | Some leaf ↦ record { mode = leaf.mode; name = name; id = leaf.id }
  | None ↦ record { mode = Directory; name = name; id = object_id tree (tree_text (shape_entries depth (leaves_below name leaves))) }
]

-- the entries as their names come
abbrev pub entries_in : ℕ → List Leaf → List TreeEntry
entries_in depth leaves = map (entry_of depth leaves) (first_names leaves)

abbrev pub is_tree : Object → Bool
is_tree o = same_kind o.kind tree

-- the trees below an entry
abbrev pub trees_below : ℕ → List Leaf → TreeEntry → List Object
trees_below depth leaves e = if is_directory e.mode then shape_objects depth (leaves_below e.name leaves) else leaf_object (leaf_named e.name leaves)

abbrev pub trees_in : ℕ → List Leaf → List Object
trees_in depth leaves = filter is_tree (flat_map (trees_below depth leaves) (entries_in depth leaves))

-- the id of the tree of rows, and its trees
abbrev pub id_of_rows : ℕ → List FileRow → Id
id_of_rows depth rows = object_id tree (tree_text (shape_entries depth (map leaf_of rows)))

abbrev pub trees_of_rows : ℕ → List FileRow → List Object
trees_of_rows depth rows = filter is_tree (shape_objects depth (map leaf_of rows))

-- the trees of a row of one name: an empty subtree has one
abbrev pub row_trees : ℕ → FileRow → List Object
row_trees depth row = if is_directory row.mode then trees_of_rows depth [] else []

-- a row stands before another in the order of a walk: they have two paths, and the other lies not below it
pub record Before (a b : FileRow) : Type 0 where
  pub below : is_met_before a b ≡ true
  pub other : a.path ≢ b.path
  pub apart : lies_below b.path a.path ≡ false

-- a row whose path has whole names; a directory is one without entries
pub record IsFile (row : FileRow) : Type 0 where
  pub names : Each (λ name. (name ≢ []) × (has_byte 47 name ≡ false)) (components row.path)
  pub empty : is_directory row.mode ≡ true → row.id ≡ object_id tree []

-- each row stands before all that follow
abbrev pub Good : List FileRow → Type 0
Good [] = Unit {0}
Good (row ∷ rows) = IsFile row × Each (Before row) rows × Good rows

-- the row lies in the directory
abbrev pub is_in : Bytes → FileRow → Bool
is_in name row = elim (cut_of 47 row.path) as (λ _. Bool) [ None ↦ false | Some p ↦ bytes_eq p.0 name ]
