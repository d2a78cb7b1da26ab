use Rattle.std.proofs.Common.{◌≡◌, map, take}
use Rattle.manifest_rule.specs.Listed.{entry_of_value}
use Rattle.manifest_rule.proofs.manifest.have_same_lines.Given as goal

-- the rows so far are the entries
abbrev pub invariant-loop-place : goal.invariant-loop-place
invariant-loop-place l = take l.place (map entry_of_value l.rows) ≡ take l.place l.manifest
