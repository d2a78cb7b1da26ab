-- Entries of a tree by their names.
use Rattle.std.specs.Prelude.{◌≡◌, true, List}
use Rattle.text_model.specs.Lists.{Each}
use Rattle.text_model.specs.Text.{Bytes}
use Rattle.git_model.specs.Tree.{is_directory, TreeEntry}

-- none of the entries is a directory of this name
abbrev pub LacksDirectory : Bytes → List TreeEntry → Type 0
LacksDirectory name entries = Each (λ e. is_directory e.mode ≡ true → e.name ≡ name → ⊥) entries
