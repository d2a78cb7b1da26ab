-- What a slot holds, and what its calls answer.
use Rattle.std.specs.Prelude.{◌≡◌, ℕ, ◌<◌, ◌≤◌, List, length, Bool, true, false, Option, None, Some, Result, MatchResult, ⊤}
use Rattle.bridge_io.specs.declared.slot.SlotFault.{SlotFault}
use Rattle.bridge_io.specs.declared.slot.SlotFault.TheVariants.{Failed, TooLong, Memory}
use Rattle.bridge_io.specs.Causes.{Rose}

-- why these bytes weren't fetched: `TooLong` comes exactly where they are more than `max`
abbrev pub FetchFault : List ℕ → ℕ → SlotFault → Type 0
FetchFault bytes max Failed = ⊤
FetchFault bytes max TooLong = max < length bytes
FetchFault bytes max Memory = length bytes ≤ max

-- what a fetch of at most `max` bytes gives, where it is told what is held
abbrev pub FetchGives : Option (Option (List ℕ)) → ℕ → Result Bool SlotFault → List ℕ → Type 0
FetchGives None max result into = ⊤
FetchGives (Some None) max result into = MatchResult result (λ found. found ≡ false) (λ fault. fault ≡ Failed)
FetchGives (Some (Some bytes)) max result into =
    MatchResult result (λ found. (found ≡ true) × (into ≡ bytes) × (length bytes ≤ max)) (FetchFault bytes max)

-- where a slot tells what it holds, it holds these bytes
abbrev pub HoldsBytes : Option (Option (List ℕ)) → List ℕ → Type 0
HoldsBytes None bytes = ⊤
HoldsBytes (Some held) bytes = held ≡ Some bytes

-- `Failed` raises the count, and every other fault leaves it
abbrev pub FaultCause : ℕ → ℕ → SlotFault → Type 0
FaultCause before now Failed = Rose before now
FaultCause before now TooLong = now ≡ before
FaultCause before now Memory = now ≡ before

-- a fetch that answers, or that has a fault
abbrev pub FetchHasCause : ℕ → ℕ → Result Bool SlotFault → Type 0
FetchHasCause before now result = MatchResult result (λ _. now ≡ before) (FaultCause before now)
