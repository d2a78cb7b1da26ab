-- The entries of a directory that were met beside those of its old tree.
use Rattle.std.specs.Prelude.{◌≡◌, ℕ, Bool, true, if◌then◌else◌, List, [], ◌∷◌, ◌++◌, take}
use Rattle.text_model.specs.Text.{Bytes}
use Rattle.text_model.specs.Id.{Id}
use Rattle.git_model.specs.Tree.{is_directory, TreeEntry, tree_text}
use Rattle.git_model.specs.Object.{Object}
use Rattle.git_model.specs.Unfold.{FileRow}
use Rattle.tree_shape.specs.Wholes.{is_leaf}

-- the text of the entries that were met: as long as none differs they are the first ones of the old tree
abbrev pub met_text : Bool → ℕ → Bytes → List TreeEntry → Bytes
met_text differs place text old = text ++ (if differs then [] else tree_text (take place old))

-- the first of the entries that are left is the directory of this name
abbrev pub IsDirectoryNext : Bytes → List TreeEntry → Type 0
IsDirectoryNext name [] = ⊥
IsDirectoryNext name (e ∷ es) = (is_directory e.mode ≡ true) × (e.name ≡ name)

-- a row of this one name
abbrev pub row_named : Bytes → FileRow → FileRow
row_named name row = record { path = name; mode = row.mode; id = row.id }

-- the row that an entry is where it isn't a directory with entries
abbrev pub entry_row : TreeEntry → FileRow
entry_row e = record { path = e.name; mode = e.mode; id = e.id }

-- the first of the entries that are left is this row
abbrev pub IsRowNext : List Object → FileRow → List TreeEntry → Type 0
IsRowNext known row [] = ⊥
IsRowNext known row (e ∷ es) = (is_leaf known e ≡ true) × (row ≡ entry_row e)

-- the first of the entries that are left is this one
abbrev pub IsNext : TreeEntry → List TreeEntry → Type 0
IsNext entry [] = ⊥
IsNext entry (e ∷ es) = e ≡ entry

-- the first of the entries that are left has this id
abbrev pub IsIdNext : Id → List TreeEntry → Type 0
IsIdNext id [] = ⊥
IsIdNext id (e ∷ es) = e.id ≡ id
