use Rattle.std.proofs.Common.{◌≡◌, ◌<◌, ◌^◌, take}
use Rattle.text_model.specs.Text.{number_of}
use Rattle.bridge_text.proofs.decimal.number_of.Given as goal

-- the number of the digits so far
abbrev pub invariant-loop-digit : goal.invariant-loop-digit
invariant-loop-digit l = record { number : l.number ≡ number_of (take l.digit-index l.digits); fits : l.number < 2 ^ 64 }
