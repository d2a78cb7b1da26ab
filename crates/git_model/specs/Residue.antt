-- What a tree has beside the files that a changeset can hold: files that their group may write, commits of other repositories and empty
-- subtrees; and what of it a commit hands on to a child. These rules are this project's own.
use Rattle.std.specs.Prelude.{Bool, true, false, not, ◌&&◌, ◌||◌, if◌then◌else◌, List, [], ◌++◌, map, filter, Option, Some, None, bytes_eq}
use Rattle.std.specs.List.{list_any, filter_map}
use Rattle.text_model.specs.Text.{Bytes}
use Rattle.text_model.specs.Id.{Id, tree, object_id}
use Rattle.text_model.specs.Path.{lies_below}
use Rattle.git_model.specs.Tree.{Mode, File, GroupFile, Directory, Gitlink, is_blob_mode}
use Rattle.git_model.specs.Unfold.{FileRow, by_paths}

pub data ResidueKind : Type 0 where
  Group : ResidueKind
  Link : (id : Id) → ResidueKind
  Empty : ResidueKind

pub record ResidueItem : Type 0 where
  pub path : Bytes
  pub kind : ResidueKind

abbrev pub kind_of_row : Mode → Id → Option ResidueKind
kind_of_row GroupFile id = Some Group
kind_of_row Gitlink id = Some (Link id)
kind_of_row Directory id = Some Empty
kind_of_row _ id = None

abbrev pub item_of : Bytes → Option ResidueKind → Option ResidueItem
item_of path None = None
item_of path (Some kind) = Some (record { path = path; kind = kind })

-- the residue of rows, in their order
abbrev pub residue_of : List FileRow → List ResidueItem
residue_of rows = filter_map (λ row. item_of row.path (kind_of_row row.mode row.id)) rows

abbrev pub is_plain : Mode → Bool
is_plain File = true
is_plain _ = false

-- the path is that of the row, or one of the two lies below the other
abbrev pub is_in_the_way : Bytes → FileRow → Bool
is_in_the_way path row = bytes_eq row.path path || lies_below path row.path || lies_below row.path path

-- The item fits files: for the mode of a group its file is there and can't be run, for the others nothing stands in the way.
abbrev pub fits : List FileRow → ResidueItem → Bool
fits files item = elim item.kind as (λ _. Bool) [
  | Group ↦ list_any (λ row. bytes_eq row.path item.path && is_plain row.mode) files
  | Link id ↦ not (list_any (is_in_the_way item.path) files)
  | Empty ↦ not (list_any (is_in_the_way item.path) files)
]

-- what a commit with the old residue hands on to a child with these files
abbrev pub carried : List ResidueItem → List FileRow → List ResidueItem
carried old files = filter (fits files) old

-- ---- files without a residue, and with one

abbrev pub plain_mode : Mode → Mode
plain_mode GroupFile = File
plain_mode mode = mode

abbrev pub plain_file : FileRow → FileRow
plain_file row = record { path = row.path; mode = plain_mode row.mode; id = row.id }

-- the files among rows, as a changeset holds them
abbrev pub plain_files : List FileRow → List FileRow
plain_files rows = map plain_file (filter (λ row. is_blob_mode row.mode) rows)

abbrev pub is_group_at : Bytes → ResidueItem → Bool
is_group_at path item = elim item.kind as (λ _. Bool) [ Group ↦ bytes_eq item.path path | Link id ↦ false | Empty ↦ false ]

abbrev pub mode_with : List ResidueItem → Bytes → Mode → Mode
mode_with items path mode = if list_any (is_group_at path) items then GroupFile else mode

abbrev pub file_with : List ResidueItem → FileRow → FileRow
file_with items row = record { path = row.path; mode = mode_with items row.path row.mode; id = row.id }

-- the row of an item that is no file's
abbrev pub row_of_item : ResidueItem → Option FileRow
row_of_item item = elim item.kind as (λ _. Option FileRow) [
  | Group ↦ None
  | Link id ↦ Some (record { path = item.path; mode = Gitlink; id = id })
  | Empty ↦ Some (record { path = item.path; mode = Directory; id = object_id tree [] })
]

-- the files and the rows of the items, in rising order of their paths
unfoldable pub rows_with : List ResidueItem → List FileRow → List FileRow
rows_with items files = by_paths (map (file_with items) files ++ filter_map row_of_item items)
