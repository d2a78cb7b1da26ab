use Rattle.std.proofs.Common.{◌≡◌, List, map, take}
use Rattle.text_model.specs.Lists.{Each}
use Rattle.hg_model.specs.Revision.{Revision}
use Rattle.hg_model.specs.Reading as model
use Rattle.hg_bundle.specs.Arrivals.{arrival_of}
use Rattle.history_model.specs.Pull.{IsOrphan}
use Rattle.pull_bundle.specs.LeftOver.{AreReferred}
use Rattle.pull_bundle.proofs.left_over.check_orphans.Given as goal

abbrev pub invariant-loop-place : goal.invariant-loop-place
invariant-loop-place l = record {
  none : (known : List Revision) (came : List model.Arrival) → AreReferred known l.referred → l.arrivals ≡ map arrival_of came → Each (λ a. ¬ (IsOrphan known a)) (take l.place came);
}
