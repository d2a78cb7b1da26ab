use Rattle.std.proofs.Common.{◌≡◌, take}
use Rattle.state_audit.proofs.kept.are_same_files.Given as goal

-- the files so far are the same
abbrev pub invariant-loop-place : goal.invariant-loop-place
invariant-loop-place l = take l.place l.a ≡ take l.place l.b
