-- The marks of a commit over the changeset that the rule gives for it.
use Rattle.std.specs.Prelude.{◌≡◌, ℕ, nat_le, if◌then◌else◌, List, [], Option, Some, None}
use Rattle.hg_model.specs.Changeset.{Plain, IsPlainDate}
use Rattle.git_model.specs.Residue.{ResidueItem}
use Rattle.view_model.specs.View.{ChangesetView, CommitView}
use Rattle.pair_model.specs.Block.{Block}
use Rattle.pair_model.specs.MarkList.{ChangesetMarks}
use Rattle.pair_model.specs.Plain.{changeset_by_rule}
use Rattle.pair_model.specs.User.{UserDate, description_of}
use Rattle.partner_model.specs.Mark.{residue_in, handed_on, changeset_marks}

-- what the commit's first parent hands on to the files of the changeset
abbrev pub handed_to : List Block → CommitView → List ResidueItem
handed_to blocks c = handed_on blocks (c.value).parents (changeset_by_rule blocks c).rows

-- the number of parents, where there are more than two
abbrev pub parents_mark : ℕ → Option ℕ
parents_mark n = if nat_le n 2 then None else Some n

-- each part that differs from what the rule gives of the changeset
abbrev pub marks_over : List Block → CommitView → ChangesetMarks
marks_over blocks c = changeset_marks c.value (description_of (c.value).message) (residue_in c.rows) (handed_to blocks c)

-- the changeset has this date, and no extras
pub record HasDateOf (given : UserDate) (h : ChangesetView) : Type 0 where
  pub date : (h.fields).date ≡ Plain given.time given.tz []
  pub plain : IsPlainDate given.time given.tz []
