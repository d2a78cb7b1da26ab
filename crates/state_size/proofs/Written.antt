-- Lengths that are counted up to a bound.
use Rattle.std.proofs.Common.{◌≡◌, ◌-◌, ◌^◌, ℕ, min, Result, Ok, Err, arith}
use Rattle.std.specs.Prelude.{IfOk, nat_lt}
use Rattle.std.proofs.lemmas.Bool.Decides.{nat_tests}
use Rattle.state_model.specs.Limits.{dump_limit}

-- a length that is counted up to 2^64 - 1 is past the limit where it is
pub past : (n : ℕ) → nat_lt dump_limit (min n (2 ^ 64 - 1)) ≡ nat_lt dump_limit n
past n = grind (arith, nat_tests)

-- what follows for each answer
pub ok-each : {A B : Type 0} (r : Result A B) (P Q : A → Type 0) → ((x : A) → P x → Q x) → IfOk r P → IfOk r Q
ok-each (Ok x) P Q f h = f x h
ok-each (Err e) P Q f h = tt
