-- The objects that a tree reaches, by the objects that are known.
use Rattle.std.specs.Prelude.{◌≡◌, ℕ, zero, suc, true, if◌then◌else◌, List, [], ◌∷◌, ◌++◌, Option, Some, None, take, drop}
use Rattle.std.specs.List.{flat_map}
use Rattle.text_model.specs.Lists.{Each}
use Rattle.text_model.specs.Id.{Id, blob, has_id}
use Rattle.git_model.specs.Tree.{TreeEntry, is_directory, is_blob_mode}
use Rattle.git_model.specs.Object.{Object, object_at, tree_at}
use Rattle.git_model.specs.Unfold.{is_kind_there}

abbrev pub object_list : Option Object → List Object
object_list None = []
object_list (Some o) = o ∷ []

-- the object with this id, where there is one
abbrev pub objects_at : List Object → Id → List Object
objects_at known id = object_list (object_at known id)

-- the known objects with these ids
abbrev pub objects_of : List Object → List Id → List Object
objects_of known ids = flat_map (objects_at known) ids

-- the objects from one place up to another
abbrev pub objects_between : List Object → ℕ → ℕ → List Object
objects_between known start end = drop start (take end known)

-- the object of an entry that is no directory; the commit of another repository is none
abbrev pub file_objects : List Object → TreeEntry → List Object
file_objects known e = if is_blob_mode e.mode then objects_at known e.id else []

-- the object of an entry, a subtree whole
abbrev pub entry_objects : List Object → (Id → List Object) → TreeEntry → List Object
entry_objects known subtree e = if is_directory e.mode then subtree e.id else file_objects known e

-- The objects of the entries of a tree in their order, subtrees whole, and then the tree. The number is how many trees lie on the way to a file at most.
unfoldable pub walk_objects : List Object → ℕ → Id → List Object
walk_objects known zero id = []
walk_objects known (suc depth) id = elim (tree_at known id) as (λ _. List Object) [
  | None ↦ []
  | Some entries ↦ flat_map (entry_objects known (walk_objects known depth)) entries ++ objects_at known id
]

-- the entry is that of a subtree, of a known blob, or of a commit of another repository
pub record IsWalkableEntry (known : List Object) (Subtree : Id → Type 0) (e : TreeEntry) : Type 0 where
  pub subtree : is_directory e.mode ≡ true → Subtree e.id
  pub file : is_blob_mode e.mode ≡ true → is_kind_there blob (object_at known e.id) ≡ true

-- all that the tree reaches is known, within so many trees on the way to a file
unfoldable pub IsWalkable : List Object → ℕ → Id → Type 0
IsWalkable known zero id = ⊥
IsWalkable known (suc depth) id = (entries : List TreeEntry) × (tree_at known id ≡ Some entries) × Each (IsWalkableEntry known (IsWalkable known depth)) entries

-- the object of the entry, where it has one, is among the ids
pub record IsMetEntry (met : List Id) (e : TreeEntry) : Type 0 where
  pub subtree : is_directory e.mode ≡ true → has_id met e.id ≡ true
  pub file : is_blob_mode e.mode ≡ true → has_id met e.id ≡ true

-- with a tree its entries are among the ids
pub record IsClosed (known : List Object) (met : List Id) : Type 0 where
  pub entries : (id : Id) (es : List TreeEntry) → has_id met id ≡ true → tree_at known id ≡ Some es → Each (IsMetEntry met) es
