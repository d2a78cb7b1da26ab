use Rattle.std.proofs.Common.{◌≡◌, None, take}
use Rattle.std.specs.List.{find}
use Rattle.commit_unmark.specs.Parts.{is_of}
use Rattle.commit_unmark.proofs.marks.first_of.Given as goal

-- none of the marks before the place is of the kind
abbrev pub invariant-loop-place : goal.invariant-loop-place
invariant-loop-place l = find (is_of l.kind) (take l.place l.marks) ≡ None
