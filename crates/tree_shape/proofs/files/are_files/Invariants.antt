use Rattle.std.proofs.Common.{take}
use Rattle.tree_shape.specs.Sets.{IsFiles}
use Rattle.tree_shape.proofs.files.are_files.Given as goal

abbrev pub invariant-loop-place : goal.invariant-loop-place
invariant-loop-place l = IsFiles (take l.place l.rows)
