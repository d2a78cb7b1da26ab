-- Sets of rows.
use Rattle.std.specs.Prelude.{◌≡◌, ◌-◌, Bool, List, [], length, map, slice_get, None, Some, true, IsTrue}
use Rattle.text_model.specs.Lists.{Each, rises}
use Rattle.text_model.specs.Text.{IsBytes, is_below}
use Rattle.text_model.specs.Id.{IsId, tree, object_id}
use Rattle.text_model.specs.Path.{is_fit_path}
use Rattle.git_model.specs.Tree.{is_directory}
use Rattle.git_model.specs.Unfold.{FileRow}

-- a fit path; a directory is one without entries
pub record IsFileRow (row : FileRow) : Type 0 where
  pub fit : is_fit_path row.path ≡ true
  pub bytes : IsBytes row.path
  pub empty : is_directory row.mode ≡ true → row.id ≡ object_id tree []
  pub id : IsId row.id

-- rows in rising order of their paths
pub record IsFiles (rows : List FileRow) : Type 0 where
  pub each : Each IsFileRow rows
  pub in_order : IsTrue (rises is_below (map (λ r. r.path) rows))

-- the path of the row stands above that of the last row, where there is one
abbrev pub stands_above : List FileRow → FileRow → Bool
stands_above before row = elim (slice_get before (length before - 1)) as (λ _. Bool) [ None ↦ true | Some last ↦ is_below last.path row.path ]
