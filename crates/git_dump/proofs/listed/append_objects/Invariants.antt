use Rattle.std.proofs.Common.{◌≡◌, ◌++◌, take}
use Rattle.git_dump.proofs.ListedLemmas.{text_of}
use Rattle.git_dump.proofs.listed.append_objects.Given as goal

abbrev pub invariant-loop-id : goal.invariant-loop-id
invariant-loop-id l = l.out ≡ l.initial.out ++ text_of l.store (take l.id-index l.ids)
