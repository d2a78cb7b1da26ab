use Rattle.std.proofs.Common.{[], length}
use Rattle.hg_manifest.specs.Beside.{IsPassed}
use Rattle.hg_manifest.proofs.ahead.Ahead.pass_same.Given as goal

abbrev pub invariant-loop-text : goal.invariant-loop-text
invariant-loop-text l = IsPassed l.fn.self l.self []

abbrev pub decreases-loop-text : goal.decreases-loop-text
decreases-loop-text l = length (l.self).lines
