use Rattle.std.proofs.Common.{length}
use Rattle.mark_code.proofs.ListLemmas.{ReadTo}
use Rattle.mark_code.proofs.list.CommitMarks.read.Given as goal

-- the headers are the lines of the marks, and then the rest
abbrev pub invariant-lines : goal.invariant-lines
invariant-lines l = ReadTo l.headers l.marks l.rest

abbrev pub decreases-lines : goal.decreases-lines
decreases-lines l = length l.rest
