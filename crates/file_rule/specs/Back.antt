-- Files of a changeset that is held, of which it is asked whether the rule gives them back.
use Rattle.std.specs.Prelude.{◌≡◌, List, Option}
use Rattle.hg_model.specs.Manifest.{ManifestEntry}
use Rattle.hg_model.specs.Revision.{Revision}
use Rattle.view_model.specs.View.{FileRevision, Row}
use Rattle.view_model.specs.Held.{IsFileHeld}
use Rattle.pair_model.specs.Rule.{tree_row_of, mode_of_flag, flag_of_mode, ruled_revision}
use Rattle.pair_known.specs.Rows.{RowValue, row_value}
use Rattle.file_rule.specs.Parents.{row_with, IsRevisionAt}

-- the row is that of a file that is held, and these are the revisions of its path in the parents
pub record IsHeldRow (known : List Revision) (row : RowValue) (first second : Option ManifestEntry) (r s : Option FileRevision) (w : Row) : Type 0 where
  pub of_row : row ≡ row_value w
  pub held : IsFileHeld known w
  pub in_first : IsRevisionAt known w.path first r
  pub in_second : IsRevisionAt known w.path second s

-- the file that the rule gives for the file that the rule gives for it
abbrev pub row_again : Option FileRevision → Option FileRevision → Row → Row
row_again r s w = row_with w.path (flag_of_mode (mode_of_flag w.flag)) (ruled_revision r s (tree_row_of w))
