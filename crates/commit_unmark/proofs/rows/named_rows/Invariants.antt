use Rattle.std.proofs.Common.{◌≡◌, ◌≤◌, ◌++◌, false, List, length}
use Rattle.text_model.specs.Lists.{Each}
use Rattle.hg_store.specs.Known.{knows_same}
use Rattle.view_model.specs.View.{TreeRow}
use Rattle.pair_known.specs.Fresh.{AreFreshFiles}
use Rattle.pair_model.specs.Block.{Parents}
use Rattle.file_rule.proofs.RowsLoop.{IsAhead}
use Rattle.commit_unmark.specs.Named.{AreFilesOver}
use Rattle.commit_unmark.proofs.RowsLoop.{NamesSoFar}
use Rattle.commit_unmark.proofs.rows.named_rows.Given as goal

-- what was made is what the marks before the place name for the files so far, and what was brought lies below the files to come; the walks
-- see the entries of the parents
abbrev pub invariant-loop-file : goal.invariant-loop-file
invariant-loop-file l = record {
  first_seen : l.first_walk ≡ (l.first.manifest).now;
  second_seen : l.second_walk ≡ (l.second.manifest).now;
  ahead : IsAhead l.c.files l.file-index l.named.fresh;
  rises : AreFreshFiles l.named.fresh;
  new : Each (λ r. knows_same l.known.hg r ≡ false) l.named.fresh;
  within : l.place ≤ length l.marks;
  named : (ps : Parents) (ts : List TreeRow) → AreFilesOver l.known.hg (l.c.fresh ++ l.known.git) l.c.files l.first l.second ps ts → NamesSoFar l.known.hg l.c.files ps l.marks ts l.file-index l.place l.named;
}
