-- What stands below a tree, in numbers, by the walk through it.
use Rattle.std.specs.Prelude.{◌≡◌, ◌+◌, ◌||◌, not, ℕ, suc, max, Bool, true, List, [], ◌∷◌, length, filter, sum_by, Option, Some, None, is_some, bytes_eq}
use Rattle.std.specs.List.{list_all}
use Rattle.std.specs.Map.{lookup}
use Rattle.text_model.specs.Lists.{Each}
use Rattle.text_model.specs.Id.{Id, blob}
use Rattle.text_model.specs.Path.{components}
use Rattle.git_model.specs.Tree.{TreeEntry, is_blob_mode}
use Rattle.git_model.specs.Object.{Object, AreObjects, object_at, tree_at}
use Rattle.git_model.specs.Unfold.{FileRow, row_size, is_row, is_kind_there, is_object_there, visits, walk, walk_fault}
use Rattle.tree_sum.specs.declared.sum.Sum.{Sum}
use Rattle.tree_sum.specs.Numbers.{IsWithin}

-- the bytes of the longest of these paths, each with a slash at its end
abbrev pub longest_of : List FileRow → ℕ
longest_of [] = 0
longest_of (v ∷ vs) = max (length v.path + 1) (longest_of vs)

-- the components of the path that has the most
abbrev pub deepest_of : List FileRow → ℕ
deepest_of [] = 0
deepest_of (v ∷ vs) = max (length (components v.path)) (deepest_of vs)

-- the numbers of visits: how many are rows, the sizes of these, the longest path and the most components
unfoldable pub sum_of : List Object → List FileRow → Sum
sum_of known vs = record { rows = length (filter (is_row known) vs); size = sum_by row_size (filter (is_row known) vs); longest = longest_of vs; deepest = deepest_of vs }

-- The walk through the tree passes, and these are its numbers: it was walked among objects that stand under their ids.
pub record IsSum (known : List Object) (id : Id) (s : Sum) : Type 0 where
  pub objects : AreObjects known
  pub passes : walk_fault known id ≡ None
  pub is : s ≡ sum_of known (walk known id)

-- each of these trees has the sum that stands with it
abbrev pub AreSums : List Object → List (Id × Sum) → Type 0
AreSums known sums = Each (λ e. IsSum known e.0 e.1) sums

-- a sum of the tree stands among these
abbrev pub is_summed : List (Id × Sum) → Id → Bool
is_summed sums id = is_some (lookup (bytes_eq id) sums)

-- ---- where so many levels of names may stand

-- Each object of these visits is there, and no limit is passed.
pub record Fits (known : List Object) (levels : ℕ) (vs : List FileRow) : Type 0 where
  pub there : list_all (is_object_there known) vs ≡ true
  pub within : IsWithin levels (sum_of known vs)

-- the walk through a tree passes, below which so many levels of names may stand
abbrev pub Passes : List Object → ℕ → Id → Type 0
Passes known levels id = (entries : List TreeEntry) × (tree_at known id ≡ Some entries) × Fits known levels (visits known (suc levels) [] id)

-- what is answered of a tree, below which so many levels of names may stand
abbrev pub IsAnswer : List Object → ℕ → Id → Option Sum → Type 0
IsAnswer known levels id None = Passes known levels id → ⊥
IsAnswer known levels id (Some s) = Passes known levels id × IsSum known id s

-- the object of an entry that is no directory is there
abbrev pub is_file_there : List Object → TreeEntry → Bool
is_file_there known e = not (is_blob_mode e.mode) || is_kind_there blob (object_at known e.id)

-- the object of each of these entries that is no directory is there
abbrev pub AreFilesThere : List Object → List TreeEntry → Type 0
AreFilesThere known entries = Each (λ e. is_file_there known e ≡ true) entries
