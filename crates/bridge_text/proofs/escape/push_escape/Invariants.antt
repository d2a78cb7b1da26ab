use Rattle.std.proofs.Common.{◌≡◌, ◌++◌, take}
use Rattle.text_model.specs.Escape.{escape}
use Rattle.bridge_text.proofs.escape.push_escape.Given as goal

-- what was appended is the escape of the bytes so far
abbrev pub invariant-loop-byte : goal.invariant-loop-byte
invariant-loop-byte l = l.out.items ≡ l.initial.out.items ++ escape (take l.byte-index l.raw)
