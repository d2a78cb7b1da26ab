-- The commit over its parents that the marks of a changeset name, and whether it is the changeset's unmarking.
use Rattle.std.specs.Prelude.{nat_le, if◌then◌else◌, List, length, Option, None, Some, ℕ}
use Rattle.text_model.specs.Id.{Id, null}
use Rattle.view_model.specs.View.{ChangesetView, CommitView}
use Rattle.pair_model.specs.Block.{Block, Parents}
use Rattle.pair_model.specs.MarkList.{ChangesetMarks}
use Rattle.partner_model.specs.Mark.{handed_on}
use Rattle.partner_model.specs.Filled.{files_in, commit_by_marks}
use Rattle.changeset_unmark.specs.Heads.{IsHead}
use Rattle.changeset_unmark.specs.Over.{ListsComeBack}
use Rattle.changeset_unmark.specs.Residues.{items_named, IsResidueNamed}

-- how many parents are marked
abbrev pub count_of : List Id → Option ℕ
count_of ids = if nat_le (length ids) 2 then None else Some (length ids)

-- the commit over these parents
abbrev pub commit_named : List Block → List Id → ChangesetView → ChangesetMarks → CommitView
commit_named blocks ids h m = commit_by_marks ids h m (items_named (handed_on blocks ids h.rows) m.tree)

-- The marks name the fields and the residue of a commit, and the rest of the changeset comes back from its files over these parents.
pub record IsNamed (blocks : List Block) (ids : List Id) (ps : Parents) (h : ChangesetView) (m : ChangesetMarks) : Type 0 where
  pub head : IsHead null ids h.fields m
  pub residue : IsResidueNamed (files_in h.rows) (handed_on blocks ids h.rows) m.tree
  pub lists : ListsComeBack ps h
