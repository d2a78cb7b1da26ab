-- The calls of an object in memory, which fails at the calls that it is told.
use Rattle.std.specs.Prelude.{◌≡◌, ℕ, ◌+◌, ◌-◌, ◌^◌, min, List, [], Contains}

-- the numbers of the calls that fail, the number of the next call, and how many calls have failed
pub record CallCount : Type 0 where
  pub fails : List ℕ
  pub next : ℕ
  pub faults : ℕ

-- before the first call, whose number is 0
abbrev pub no_calls : List ℕ → CallCount
no_calls fails = record { fails = fails; next = 0; faults = 0 }

-- the next call is one of those that fail
abbrev pub NextFails : CallCount → Type 0
NextFails calls = Contains calls.fails calls.next

-- where no call was told to fail, the count of faults stays as it was
abbrev pub SteadyCount : CallCount → CallCount → Type 0
SteadyCount old new = old.fails ≡ [] → new.faults ≡ old.faults

-- one call was counted, and the same calls fail; the numbers end at the last one of 64 bits
pub record CountsCall (old new : CallCount) : Type 0 where
  pub next : new.next ≡ min (old.next + 1) (2 ^ 64 - 1)
  pub fails : new.fails ≡ old.fails
