use Rattle.std.proofs.Common.{◌≡◌, take}
use Rattle.git_model.specs.Residue.{plain_files}
use Rattle.tree_residue.proofs.handed.plain_files.Given as goal

-- the files of the rows so far
abbrev pub invariant-loop-row : goal.invariant-loop-row
invariant-loop-row l = l.plain.items ≡ plain_files (take l.row-index l.rows)
