use Rattle.std.proofs.Common.{◌≡◌, take}
use Rattle.text_model.specs.Lists.{Each}
use Rattle.view_model.specs.View.{ChangesetView, SameRow}
use Rattle.pair_model.specs.Block.{Parents}
use Rattle.file_rule.proofs.BackLemmas.{again}
use Rattle.changeset_unmark.specs.Over.{IsDraftOver}
use Rattle.changeset_unmark.proofs.rows.are_rows_ruled.Given as goal

-- the files so far come back; the walks see the entries of the parents
abbrev pub invariant-loop-row : goal.invariant-loop-row
invariant-loop-row l = record {
  first_seen : l.first_walk ≡ (l.first.manifest).now;
  second_seen : l.second_walk ≡ (l.second.manifest).now;
  back : (ps : Parents) (v : ChangesetView) → IsDraftOver l.store l.h l.first l.second ps v → Each (λ h. SameRow (again ps h) h) (take l.row-index v.rows);
}
