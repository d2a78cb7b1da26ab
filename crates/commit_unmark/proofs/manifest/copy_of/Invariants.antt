use Rattle.std.proofs.Common.{◌≡◌, take}
use Rattle.commit_unmark.proofs.manifest.copy_of.Given as goal

-- the paths so far
abbrev pub invariant-loop-path : goal.invariant-loop-path
invariant-loop-path l = l.copy ≡ take l.path-index l.path-items
