-- What the fault of a vector that is filled from a source says of the source.
use Rattle.std.specs.Prelude.{◌≡◌, ℕ, Result, MatchResult}
use Rattle.bridge_io.specs.Causes.{Rose}
use Rattle.bridge_io.specs.declared.filling.FillFault.{FillFault}
use Rattle.bridge_io.specs.declared.filling.FillFault.TheVariants.{Read, Memory}

-- `Read` raises the count of the source's faults, and want of memory leaves it
abbrev pub FaultCause : ℕ → ℕ → FillFault → Type 0
FaultCause before now Read = Rose before now
FaultCause before now Memory = now ≡ before

-- an answer leaves the count, and a fault has its cause
abbrev pub FillCause : {T : Type 0} → ℕ → ℕ → Result T FillFault → Type 0
FillCause before now result = MatchResult result (λ _. now ≡ before) (FaultCause before now)
