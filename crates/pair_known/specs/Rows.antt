-- The files of a changeset, by nodes and blobs.
use Rattle.text_model.specs.Text.{Bytes}
use Rattle.text_model.specs.Id.{Id, blob_id}
use Rattle.hg_model.specs.Manifest.{Flag}
use Rattle.git_model.specs.Tree.{File}
use Rattle.git_model.specs.Unfold.{FileRow}
use Rattle.view_model.specs.View.{Row, file_node}

-- a row with the node of its revision and the blob id of its body
pub record RowValue : Type 0 where
  pub path : Bytes
  pub flag : Flag
  pub node : Id
  pub blob : Id

abbrev pub row_value : Row → RowValue
row_value row = record { path = row.path; flag = row.flag; node = file_node row.revision; blob = blob_id (row.revision).body }

-- the row as a file of a tree: of a clash the paths alone decide
abbrev pub as_file : RowValue → FileRow
as_file row = record { path = row.path; mode = File; id = row.node }
