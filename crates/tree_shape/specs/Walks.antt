-- The walk as far as it has come.
use Rattle.std.specs.Prelude.{◌≡◌, ℕ, ◌+◌, ◌≤◌, if◌then◌else◌, true, false, nat_lt, List, [], ◌∷◌, ◌++◌, length, filter, Option, None, option_map}
use Rattle.std.specs.List.{flat_map}
use Rattle.text_model.specs.Text.{Bytes}
use Rattle.text_model.specs.Path.{components, is_fit_path}
use Rattle.git_model.specs.Tree.{TreeEntry, is_directory}
use Rattle.git_model.specs.Object.{Object}
use Rattle.git_model.specs.Unfold.{FileRow, joined_path, visits, row_size, rows_limit, is_row, WalkFault, visit_fault, first_visit_fault}

-- the visit of an entry with a whole path
abbrev pub row_at : Bytes → TreeEntry → FileRow
row_at path e = record { path = path; mode = e.mode; id = e.id }

-- the visits of an entry and of what lies below it
abbrev pub entry_visits : List Object → ℕ → Bytes → TreeEntry → List FileRow
entry_visits known depth path e = row_at (joined_path path e.name) e ∷ (if is_directory e.mode then visits known depth (joined_path path e.name) e.id else [])

-- the visits of entries
abbrev pub entries_visits : List Object → ℕ → Bytes → List TreeEntry → List FileRow
entries_visits known depth path entries = flat_map (entry_visits known depth path) entries

-- the size of the rows behind these visits
abbrev pub size_after : List Object → ℕ → List FileRow → ℕ
size_after known size [] = size
size_after known size (v ∷ vs) = size_after known (if is_row known v then size + row_size v else size) vs

-- these visits were made, and nothing was refused
pub record Walked (known : List Object) (from to : ℕ) (old new visited : List FileRow) : Type 0 where
  pub none : first_visit_fault known from visited ≡ None
  pub rows : new ≡ old ++ filter (is_row known) visited
  pub size : to ≡ size_after known from visited
  pub within : to ≤ rows_limit

-- a row came behind the others, within the limit
pub record HasRow (from to : ℕ) (old new : List FileRow) (row : FileRow) : Type 0 where
  pub room : nat_lt rows_limit (from + row_size row) ≡ false
  pub rows : new ≡ old ++ row ∷ []
  pub size : to ≡ from + row_size row

-- what is refused at one entry, behind rows of a size
abbrev pub refused : List Object → ℕ → FileRow → Option WalkFault
refused known size v = option_map (λ n. record { name = n; id = v.id }) (visit_fault known size v)

-- the path of a directory that the walk goes through, below which so many levels of names may stand
abbrev pub IsFront : ℕ → Bytes → Type 0
IsFront levels [] = levels ≡ 256
IsFront levels (b ∷ path) = (is_fit_path (b ∷ path) ≡ true) × (length (components (b ∷ path)) + levels ≡ 256)
