-- A changeset over its parents, and what is lent for its marks.
use Rattle.std.specs.Prelude.{◌≡◌, ◌++◌, true, not, Option}
use Rattle.std.specs.Borrow.{Bor}
use Rattle.text_model.specs.Id.{is_null}
use Rattle.hg_manifest.specs.declared.entry.Entry.{Entry}
use Rattle.view_model.specs.View.{ChangesetView, IsChangesetView, Row}
use Rattle.pair_model.specs.Block.{Parents, no_changeset}
use Rattle.pair_known.specs.declared.hg_draft.HgDraft.{HgDraft}
use Rattle.pair_known.specs.Drafts.{IsHgDraft}
use Rattle.pair_known.specs.Rows.{RowValue}
use Rattle.file_rule.specs.Parents.{IsParent}
use Rattle.commit_rule.specs.Parts.{IsRowOf}
use Rattle.commit_mark.specs.Parts.{AreLentAt}
use Rattle.commit_mark.specs.declared.over.Over.{Over}

-- the parents that are lent are these
pub record AreParents (over : Over) (ps : Parents) : Type 0 where
  pub first : IsParent (over.store).now over.first ps.first
  pub second : IsParent (over.store).now over.second ps.second

-- The draft stands for the changeset, which has these parents; a parent that isn't there has no files.
pub record IsOver (over : Over) (d : HgDraft) (ps : Parents) (v : ChangesetView) : Type 0 where
  pub draft : IsHgDraft (over.store).now d v
  pub fresh : d.fresh ≡ (over.fresh).now
  pub view : IsChangesetView v
  pub parents : AreParents over ps
  pub nodes : (ps.p ≡ v.p) × (ps.q ≡ v.q)
  pub there : ((over.first).is_there ≡ not (is_null ps.p)) × ((over.second).is_there ≡ not (is_null ps.q))
  pub no_first : is_null ps.p ≡ true → ps.first ≡ no_changeset
  pub no_second : is_null ps.q ≡ true → ps.second ≡ no_changeset

-- the row is one of the changeset, and the entries that are lent are those of its path in the parents
pub record IsRowOver (over : Over) (row : RowValue) (first second : Option (Bor Entry)) (ps : Parents) (w : Row) : Type 0 where
  pub of_row : IsRowOf ((over.fresh).now ++ (over.store).now) row w
  pub entries : AreLentAt (over.store).now first second ps w
