use Rattle.std.proofs.Common.{length}
use Rattle.hg_dump.proofs.WalkLemmas.{IsReferred}
use Rattle.hg_dump.proofs.brought.Brought.refer_files.Given as goal

abbrev pub invariant-loop-entry : goal.invariant-loop-entry
invariant-loop-entry l = IsReferred l.fn.walk.lines l.fn.walk.other l.is_new l.link l.walk l.fn.self l.self

abbrev pub decreases-loop-entry : goal.decreases-loop-entry
decreases-loop-entry l = length (l.walk).lines
