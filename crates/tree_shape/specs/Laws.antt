-- Objects that are there, and files whose tree can be walked through.
use Rattle.std.specs.Prelude.{◌≡◌, ◌≤◌, true, List, Some, None}
use Rattle.std.specs.List.{sum_by}
use Rattle.text_model.specs.Lists.{Each}
use Rattle.git_model.specs.Object.{Object, object_at, AreObjects}
use Rattle.git_model.specs.Unfold.{FileRow, is_object_there, row_size, rows_limit}
use Rattle.git_model.specs.Shape.{trees_of, first_clash}
use Rattle.tree_shape.specs.Sets.{IsFiles}

-- the object is there under its id
abbrev pub IsKnown : List Object → Object → Type 0
IsKnown known o = object_at known o.id ≡ Some o

abbrev pub AreKnown : List Object → List Object → Type 0
AreKnown known objects = Each (IsKnown known) objects

-- None of the rows lies below another, their trees and blobs are there, and the rows are within the limit.
pub record AreWalkable (known : List Object) (rows : List FileRow) : Type 0 where
  pub objects : AreObjects known
  pub files : IsFiles rows
  pub apart : first_clash rows ≡ None
  pub trees : AreKnown known (trees_of rows)
  pub objects_there : Each (λ row. is_object_there known row ≡ true) rows
  pub within : sum_by row_size rows ≤ rows_limit
