use Rattle.tree_shape.proofs.PathRows.{IsClear}
use Rattle.tree_shape.proofs.clash.find_row_clash.Given as goal

-- no clash so far
abbrev pub invariant-loop-place : goal.invariant-loop-place
invariant-loop-place g l = record {
  clear : IsClear g.R.HasPath.file l.rows l.place;
}
