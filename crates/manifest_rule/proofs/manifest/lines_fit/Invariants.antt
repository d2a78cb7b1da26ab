use Rattle.std.proofs.Common.{◌≡◌, ◌+◌, length, take}
use Rattle.view_model.specs.View.{text_limit}
use Rattle.manifest_rule.proofs.ManifestLemmas.{lines}
use Rattle.manifest_rule.proofs.manifest.lines_fit.Given as goal

-- the lines so far and the room that is left
abbrev pub invariant-loop-row : goal.invariant-loop-row
invariant-loop-row l = l.room + length (lines (take l.row-index l.rows-2)) ≡ text_limit
