-- Files of a changeset whose revisions a draft brings or a store holds.
use Rattle.std.specs.Prelude.{◌≡◌, ◌++◌, List, Option}
use Rattle.hg_model.specs.FileText.{IsFileText, file_order}
use Rattle.hg_model.specs.Manifest.{ManifestEntry}
use Rattle.hg_model.specs.Revision.{Revision}
use Rattle.view_model.specs.View.{FileRevision, Row}
use Rattle.view_model.specs.Held.{IsFileHeld}
use Rattle.pair_known.specs.Rows.{RowValue, row_value}
use Rattle.file_rule.specs.Parents.{IsRevisionAt}

-- the row is that of a file whose revision is brought or held, and these are the revisions of its path in the parents
pub record IsDraftRow (fresh known : List Revision) (row : RowValue) (first second : Option ManifestEntry) (r s : Option FileRevision) (w : Row) : Type 0 where
  pub of_row : row ≡ row_value w
  pub held : IsFileHeld (fresh ++ known) w
  pub in_first : IsRevisionAt known w.path first r
  pub in_second : IsRevisionAt known w.path second s

-- the revision of the row is this one, which is brought
pub record IsFreshRow (known : List Revision) (file : Revision) (row : RowValue) (first second : Option ManifestEntry) (r s : Option FileRevision) (w : Row) : Type 0 where
  pub of_row : row ≡ row_value w
  pub parents : ((w.revision).p, (w.revision).q) ≡ file_order (w.revision).meta file.p file.q
  pub text : IsFileText file.text (w.revision).meta (w.revision).body
  pub in_first : IsRevisionAt known w.path first r
  pub in_second : IsRevisionAt known w.path second s
