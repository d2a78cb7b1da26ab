-- Which faults a history that is made may be refused for.
use Rattle.std.proofs.Common.{inl, inr}
use Rattle.make_history.specs.declared.fault.MakeFault.{MakeFault}
use Rattle.make_history.specs.declared.fault.MakeFault.TheVariants as make
use Rattle.pull_outcome.specs.declared.refused.PullFault.{PullFault}
use Rattle.pull_outcome.specs.declared.refused.PullFault.TheVariants as pull
use Rattle.pull_engine.specs.Names.{IsOfPullHg, IsOfPullGit}
use Rattle.make_engine.specs.Faults.{make_fault, pull_fault}
use Rattle.make_engine.specs.Names.{IsOfCounts}

-- that of making it
pub make-named : (f : MakeFault) → IsOfCounts (make_fault f)
make-named make.CountLimit = inl tt
make-named make.Collision = inl tt
make-named make.Memory = tt

-- that of the pull of its bundle
pub hg-named : (f : PullFault) → IsOfPullHg f → IsOfCounts (pull_fault f)
hg-named (pull.Refused why) h = inr (inl h)
hg-named pull.Read h = tt
hg-named pull.Memory h = tt

-- that of the pull of its stream
pub git-named : (f : PullFault) → IsOfPullGit f → IsOfCounts (pull_fault f)
git-named (pull.Refused why) h = inr (inr h)
git-named pull.Read h = tt
git-named pull.Memory h = tt
