use Rattle.std.proofs.Common.{◌≡◌, ◌++◌, false, List, take}
use Rattle.text_model.specs.Lists.{Each}
use Rattle.hg_store.specs.Known.{knows_same}
use Rattle.view_model.specs.View.{TreeRow}
use Rattle.pair_known.specs.Fresh.{AreFreshFiles}
use Rattle.pair_model.specs.Block.{Parents}
use Rattle.file_rule.specs.Rows.{AreRows, AreMadeRows}
use Rattle.file_rule.proofs.RowsLoop.{IsAhead}
use Rattle.file_rule.proofs.rows.make_rows.Given as goal

-- what was made is what the rule gives for the files so far, and what was brought lies below the files to come; the walks see the entries
-- of the parents and the near rows
abbrev pub invariant-loop-file : goal.invariant-loop-file
invariant-loop-file l = record {
  first_seen : l.first_walk ≡ (l.first.manifest).now;
  second_seen : l.second_walk ≡ (l.second.manifest).now;
  near_seen : l.near_walk ≡ l.near;
  ahead : IsAhead l.c.files l.file-index l.ruled.fresh;
  rises : AreFreshFiles l.ruled.fresh;
  new : Each (λ r. knows_same l.known.hg r ≡ false) l.ruled.fresh;
  ruled : (ps : Parents) (ts : List TreeRow) → AreRows l.known.hg (l.c.fresh ++ l.known.git) l.c.files l.first l.second ps ts → AreMadeRows l.known.hg l.ruled ps (take l.file-index ts);
}
