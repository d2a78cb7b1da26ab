-- Trees that are whole: their subtrees are known. The files below them, by the names on the way to them.
use Rattle.std.specs.Prelude.{◌≡◌, ◌-◌, ◌||◌, ℕ, zero, suc, Bool, true, not, if◌then◌else◌, List, [], ◌∷◌, map, Some, None}
use Rattle.std.specs.List.{flat_map}
use Rattle.text_model.specs.Lists.{Each}
use Rattle.text_model.specs.Text.{Bytes}
use Rattle.text_model.specs.Id.{Id}
use Rattle.git_model.specs.Tree.{is_directory, TreeEntry}
use Rattle.git_model.specs.Object.{Object, tree_at}
use Rattle.git_model.specs.Unfold.{has_no_entries}
use Rattle.git_model.specs.Shape.{Leaf}

abbrev pub put_name : Bytes → Leaf → Leaf
put_name name leaf = record { names = name ∷ leaf.names; mode = leaf.mode; id = leaf.id; content = leaf.content }

abbrev pub leaf_at : TreeEntry → Leaf
leaf_at e = record { names = e.name ∷ []; mode = e.mode; id = e.id; content = [] }

-- the entry is a row of the tree
abbrev pub is_leaf : List Object → TreeEntry → Bool
is_leaf known e = not (is_directory e.mode) || has_no_entries (tree_at known e.id)

-- those of an entry
abbrev pub entry_leaves : List Object → (Id → List Leaf) → TreeEntry → List Leaf
entry_leaves known below e = if is_leaf known e then leaf_at e ∷ [] else map (put_name e.name) (below e.id)

abbrev pub leaves_in : List Object → ℕ → Id → List Leaf
leaves_in known zero id = []
leaves_in known (suc depth) id = elim (tree_at known id) as (λ _. List Leaf) [ None ↦ [] | Some entries ↦ flat_map (entry_leaves known (leaves_in known depth)) entries ]

-- a tree that is whole down to a depth
abbrev pub Below : (Id → List TreeEntry → Type 0) → TreeEntry → Type 0
Below Sound e = is_directory e.mode ≡ true → (subtree : List TreeEntry) × Sound e.id subtree

abbrev pub Sound : List Object → ℕ → Id → List TreeEntry → Type 0
Sound known zero id entries = ⊥
Sound known (suc depth) id entries = (tree_at known id ≡ Some entries) × Each (Below (Sound known depth)) entries

-- those of the entries of a tree, below which so many levels may stand
abbrev pub tree_leaves : List Object → ℕ → List TreeEntry → List Leaf
tree_leaves known levels entries = flat_map (entry_leaves known (leaves_in known (levels - 1))) entries

abbrev pub AreWhole : List Object → ℕ → List TreeEntry → Type 0
AreWhole known levels entries = Each (Below (Sound known (levels - 1))) entries
