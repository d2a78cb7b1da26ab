use Rattle.std.proofs.Common.{◌≡◌, ◌++◌, take}
use Rattle.std.specs.List.{flat_map}
use Rattle.hg_model.specs.Changeset.{extra_byte}
use Rattle.hg_changeset.proofs.escape.put_escaped.Given as goal

-- what was appended is the text of those so far
abbrev pub invariant-loop-byte : goal.invariant-loop-byte
invariant-loop-byte l = l.out.items ≡ l.initial.out.items ++ flat_map extra_byte (take l.byte-index l.bytes)
