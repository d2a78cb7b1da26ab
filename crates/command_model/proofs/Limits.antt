-- A text of names by its length.
use Rattle.std.proofs.Common.{◌≡◌, ◌<◌, ◌≤◌, Bool, true, false, List, length, Result, Err, ap, arith}
use Rattle.std.specs.Prelude.{nat_lt, if◌then◌else◌}
use Rattle.std.proofs.lemmas.Bool.Decides.{nat_tests}
use Rattle.text_model.specs.Text.{Bytes}
use Rattle.text_model.specs.Fault.{Refusal, InputLimit, refusal_at, input_limit}
use Rattle.state_model.specs.Kept.{NameRow}
use Rattle.command_model.specs.Names.{within_limit}

module _ (text : Bytes) (reading : Result (List NameRow) Refusal) where
  by_test : (b : Bool) → nat_lt input_limit (length text) ≡ b → within_limit text reading ≡ (if b then Err (refusal_at InputLimit input_limit) else reading)
  by_test b e = ap (λ (t : Bool). if t then Err (refusal_at InputLimit input_limit) else reading) e

  -- one that isn't too long is what its lines read as
  pub within : length text ≤ input_limit → within_limit text reading ≡ reading
  within short = by_test false (grind (arith, short, nat_tests))

  -- one that is too long is refused for that
  pub beyond : input_limit < length text → within_limit text reading ≡ Err (refusal_at InputLimit input_limit)
  beyond long = by_test true (grind (arith, long, nat_tests))
