use Rattle.std.proofs.Common.{◌≤◌, length}
use Rattle.git_object.proofs.HeaderLemmas.{Headed}
use Rattle.git_object.proofs.line.split_headers.Given as goal

-- what stands before the rest is header lines
abbrev pub invariant-lines : goal.invariant-lines
invariant-lines l = record { headed : Headed l.text l.rest; within : length l.rest ≤ length l.text }

abbrev pub decreases-lines : goal.decreases-lines
decreases-lines l = length l.rest
