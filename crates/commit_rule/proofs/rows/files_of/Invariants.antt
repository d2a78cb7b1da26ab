use Rattle.std.proofs.Common.{◌≡◌, take, map}
use Rattle.commit_rule.specs.Parts.{file_of_row}
use Rattle.commit_rule.proofs.rows.files_of.Given as goal

-- the files of the rows so far
abbrev pub invariant-loop-row : goal.invariant-loop-row
invariant-loop-row l = l.files ≡ map file_of_row (take l.row-index l.fn.rows)
