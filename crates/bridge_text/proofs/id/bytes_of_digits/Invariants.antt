use Rattle.std.proofs.Common.{◌≡◌, take, length}
use Rattle.text_model.specs.Id.{bytes_of_digits}
use Rattle.bridge_text.proofs.id.bytes_of_digits.Given as goal

abbrev pub invariant-loop-i : goal.invariant-loop-i
invariant-loop-i l = (length l.bytes ≡ 20) × (take l.i l.bytes ≡ take l.i (bytes_of_digits l.text))
