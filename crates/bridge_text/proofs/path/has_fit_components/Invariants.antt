use Rattle.std.proofs.Common.{◌+◌, ◌≤◌, length}
use Rattle.text_model.proofs.PathLemmas.{Left}
use Rattle.bridge_text.proofs.path.has_fit_components.Given as goal

-- the components so far are fit
abbrev pub invariant-loop-name : goal.invariant-loop-name
invariant-loop-name l = record { left : Left l.path l.rest l.count; within : l.count + length l.rest ≤ length l.path }

abbrev pub decreases-loop-name : goal.decreases-loop-name
decreases-loop-name l = length l.rest
