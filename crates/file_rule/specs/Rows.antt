-- What the rule gives for the files of a commit.
use Rattle.std.specs.Prelude.{◌≡◌, ◌++◌, true, List, map}
use Rattle.text_model.specs.Lists.{Each}
use Rattle.text_model.specs.Id.{blob_id}
use Rattle.git_model.specs.Tree.{is_blob_mode}
use Rattle.git_model.specs.Object.{Object}
use Rattle.git_model.specs.Unfold.{FileRow}
use Rattle.hg_model.specs.Revision.{Revision}
use Rattle.view_model.specs.View.{TreeRow}
use Rattle.view_model.specs.Held.{IsFileHeld, IsRowHeld, file_row_of}
use Rattle.pair_model.specs.Block.{Parents}
use Rattle.pair_model.specs.Rule.{ruled_rows}
use Rattle.pair_known.specs.Rows.{row_value}
use Rattle.pair_known.specs.Drafts.{AreFreshOf}
use Rattle.file_rule.specs.Parents.{IsParent}
use Rattle.file_rule.specs.declared.parents.Parent.{Parent}
use Rattle.file_rule.specs.declared.rows.RuledRows.{RuledRows}

-- the rows of a commit with the contents of its files, and the parents
pub record AreRows (known : List Revision) (objects : List Object) (files : List FileRow) (first second : Parent) (ps : Parents) (ts : List TreeRow) : Type 0 where
  pub in_first : IsParent known first ps.first
  pub in_second : IsParent known second ps.second
  pub of_files : files ≡ map file_row_of ts
  pub ids : Each (λ t. is_blob_mode t.mode ≡ true → t.id ≡ blob_id t.content) ts
  pub contents : Each (IsRowHeld objects) ts

-- the rows are those of the files, their revisions are stored or brought, and no others are brought
pub record AreMadeRows (known : List Revision) (made : RuledRows) (ps : Parents) (ts : List TreeRow) : Type 0 where
  pub rows : made.rows ≡ map row_value (ruled_rows ps ts)
  pub held : Each (IsFileHeld (made.fresh ++ known)) (ruled_rows ps ts)
  pub of_rows : AreFreshOf made.fresh (ruled_rows ps ts)
