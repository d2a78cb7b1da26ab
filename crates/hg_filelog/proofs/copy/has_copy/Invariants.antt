use Rattle.std.proofs.Common.{◌≡◌, length}
use Rattle.hg_model.specs.FileText as file_text
use Rattle.hg_filelog.proofs.copy.has_copy.Given as goal

-- no line that was passed names a copy
abbrev pub invariant-loop-line : goal.invariant-loop-line
invariant-loop-line l = file_text.has_copy l.meta ≡ file_text.has_copy l.rest

abbrev pub decreases-loop-line : goal.decreases-loop-line
decreases-loop-line l = length l.rest
