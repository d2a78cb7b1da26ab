use Rattle.std.proofs.Common.{◌≡◌, take}
use Rattle.link_rule.proofs.links.copy_of.Given as goal

-- the rows so far
abbrev pub invariant-loop-row : goal.invariant-loop-row
invariant-loop-row l = l.copy ≡ take l.row-index l.rows
