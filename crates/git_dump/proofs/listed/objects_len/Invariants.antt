use Rattle.std.proofs.Common.{◌≡◌, ◌-◌, ◌^◌, length, min, take}
use Rattle.git_dump.proofs.ListedLemmas.{text_of}
use Rattle.git_dump.proofs.listed.objects_len.Given as goal

abbrev pub invariant-loop-id : goal.invariant-loop-id
invariant-loop-id l = l.len ≡ min (length (text_of l.store (take l.id-index l.ids))) (2 ^ 64 - 1)
