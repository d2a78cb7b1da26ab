use Rattle.std.proofs.Common.{◌≡◌, ◌≤◌, take}
use Rattle.std.specs.List.{sum_by}
use Rattle.git_model.specs.Unfold.{row_size, rows_limit}
use Rattle.commit_rule.proofs.fits.rows_fit.Given as goal

-- the size of the rows so far, which is within the limit
abbrev pub invariant-loop-row : goal.invariant-loop-row
invariant-loop-row l = (l.size ≡ sum_by row_size (take l.row-index l.rows)) × (l.size ≤ rows_limit)
