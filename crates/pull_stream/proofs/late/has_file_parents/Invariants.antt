use Rattle.std.proofs.Common.{take}
use Rattle.text_model.specs.Lists.{Each}
use Rattle.pull_stream.proofs.FreshParents.{HasBoth}
use Rattle.pull_stream.proofs.late.has_file_parents.Given as goal

-- the parents of those so far are known
abbrev pub invariant-loop-file : goal.invariant-loop-file
invariant-loop-file l = Each (HasBoth l.store) (take l.file-index l.h.fresh)
