-- Which faults a pull over a saved state may be refused for, whatever its input tells of its bytes.
use Rattle.std.specs.Prelude.{◌≡◌, ◌⊎◌, ⊤}
use Rattle.bridge_text.specs.declared.fault.Fault.TheVariants.{StateLimit, ObjectUnknown}
use Rattle.pull_outcome.specs.declared.refused.PullFault.{PullFault}
use Rattle.pull_outcome.specs.declared.refused.PullFault.TheVariants.{Refused, Read, Memory}
use Rattle.pull_outcome.specs.Names as pull

-- a refusal for a limit, or want of memory
abbrev pub IsLimitFault : PullFault → Type 0
IsLimitFault (Refused why) = why.fault ≡ StateLimit
IsLimitFault Read = ⊥
IsLimitFault Memory = ⊤

-- a refusal for the target of a tag, or want of memory
abbrev pub IsTargetFault : PullFault → Type 0
IsTargetFault (Refused why) = why.fault ≡ ObjectUnknown
IsTargetFault Read = ⊥
IsTargetFault Memory = ⊤

-- a fault of a pull of a bundle, or of a limit
abbrev pub IsOfPullHg : PullFault → Type 0
IsOfPullHg fault = pull.IsOfPullHg fault ⊎ IsLimitFault fault

-- a fault of a pull of a stream, of a tag of it, or of a limit
abbrev pub IsOfPullGit : PullFault → Type 0
IsOfPullGit fault = pull.IsOfPullGit fault ⊎ IsTargetFault fault ⊎ IsLimitFault fault
