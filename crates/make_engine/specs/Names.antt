-- Which faults a history that is made may be refused for.
use Rattle.std.specs.Prelude.{◌⊎◌, ⊤}
use Rattle.bridge_text.specs.declared.fault.Fault.{Fault}
use Rattle.bridge_text.specs.declared.fault.Fault.TheVariants as name
use Rattle.pull_outcome.specs.declared.refused.PullFault.TheVariants as pull
use Rattle.pull_engine.specs.Names.{IsOfPullHg, IsOfPullGit}
use Rattle.make_engine.specs.declared.fault.CountsFault.{CountsFault}
use Rattle.make_engine.specs.declared.fault.CountsFault.TheVariants.{Refused, Memory}

-- why it can't be made
abbrev pub IsMakeName : Fault → Type 0
IsMakeName name.CountLimit = ⊤
IsMakeName name.Collision = ⊤
IsMakeName other = ⊥

-- a fault of making it, or of one of its two pulls
abbrev pub IsOfCounts : CountsFault → Type 0
IsOfCounts (Refused why) = IsMakeName why.fault ⊎ IsOfPullHg (pull.Refused why) ⊎ IsOfPullGit (pull.Refused why)
IsOfCounts Memory = ⊤
