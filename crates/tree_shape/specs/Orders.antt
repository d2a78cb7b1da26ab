-- The two orders of rows.
use Rattle.std.specs.Prelude.{Bool, false, List}
use Rattle.text_model.specs.Lists.{In}
use Rattle.text_model.specs.Text.{Bytes}
use Rattle.git_model.specs.Tree.{Mode, is_directory, order_name, sort_name}
use Rattle.git_model.specs.Unfold.{FileRow}
use Rattle.tree_shape.specs.declared.sorting.Order.{Order}
use Rattle.tree_shape.specs.declared.sorting.Order.TheVariants.{Paths, Walk}

-- the path of a row as it counts in the order of a walk
abbrev pub met_path : FileRow → Bytes
met_path row = sort_name row.mode row.path

-- whether a slash counts at the end of a path
abbrev pub counts_as_folder : Order → Mode → Bool
counts_as_folder Paths mode = false
counts_as_folder Walk mode = is_directory mode

-- what is compared of a row
abbrev pub key_in : Order → FileRow → Bytes
key_in order row = order_name (counts_as_folder order row.mode) row.path

-- the same elements
pub record Same {X : Type 0} (xs ys : List X) : Type 0 where
  pub to : (x : X) → In x xs → In x ys
  pub from : (x : X) → In x ys → In x xs
