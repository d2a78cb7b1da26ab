use Rattle.std.proofs.Common.{◌≡◌, ◌++◌, take}
use Rattle.std.specs.List.{flat_map}
use Rattle.view_model.specs.View.{ChangesetView}
use Rattle.pair_model.specs.Block.{Parents}
use Rattle.partner_model.specs.Mark.{entry_marks}
use Rattle.commit_mark.specs.Over.{IsOver}
use Rattle.commit_mark.proofs.put.put_entries.Given as goal

-- the marks of the files so far are there; the walks see the entries of the parents
abbrev pub invariant-loop-row : goal.invariant-loop-row
invariant-loop-row l = record {
  first_seen : l.first_walk ≡ ((l.over.first).manifest).now;
  second_seen : l.second_walk ≡ ((l.over.second).manifest).now;
  put : (ps : Parents) (v : ChangesetView) → IsOver l.over l.h ps v → l.marks ≡ l.fn.marks ++ flat_map (entry_marks ps) (take l.row-index v.rows);
}
