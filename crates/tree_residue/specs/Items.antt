-- The rows that no changeset can hold.
use Rattle.std.specs.Prelude.{Bool, true, false, List, filter}
use Rattle.git_model.specs.Tree.{Mode, GroupFile, Directory, Gitlink}
use Rattle.git_model.specs.Object.{Object}
use Rattle.git_model.specs.Unfold.{FileRow, is_row}

abbrev pub has_item : Mode → Bool
has_item GroupFile = true
has_item Directory = true
has_item Gitlink = true
has_item _ = false

-- those among the visits of a walk
abbrev pub item_rows : List Object → List FileRow → List FileRow
item_rows known visits = filter (λ row. has_item row.mode) (filter (is_row known) visits)
