use Rattle.std.proofs.Common.{◌≡◌, take}
use Rattle.manifest_rule.proofs.files.are_same_paths.Given as goal

-- the paths so far are the same
abbrev pub invariant-loop-place : goal.invariant-loop-place
invariant-loop-place l = take l.place l.a ≡ take l.place l.b
