use Rattle.std.proofs.Common.{◌≡◌, take}
use Rattle.commit_mark.proofs.fields.copy_of_paths.Given as goal

-- the paths so far are there
abbrev pub invariant-loop-place : goal.invariant-loop-place
invariant-loop-place l = l.copy ≡ take l.place l.paths
