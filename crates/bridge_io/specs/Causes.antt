-- What the answer of a call says of an object's count of faults. The count never falls.
use Rattle.std.specs.Prelude.{◌≡◌, ◌≢◌, ℕ, ◌-◌, ◌^◌, ◌<◌, ◌≤◌, OnOk, OnErr, Result}

-- the count is greater than before, or stands at its last value
pub record Rose (before now : ℕ) : Type 0 where
  pub later : before ≤ now
  pub raised : now ≢ 2 ^ 64 - 1 → before < now

-- an answer leaves the count, and a fault raises it
pub record HasCause {T E : Type 0} (before now : ℕ) (result : Result T E) : Type 0 where
  pub kept : OnOk result (now ≡ before)
  pub rose : OnErr result (Rose before now)
