use Rattle.std.proofs.Common.{◌≡◌, ◌++◌, take}
use Rattle.std.specs.List.{flat_map}
use Rattle.git_model.specs.Commit.{parent_line}
use Rattle.git_object.proofs.commit.put_parents.Given as goal

-- the lines of the parents so far were appended
abbrev pub invariant-loop-parent : goal.invariant-loop-parent
invariant-loop-parent l = l.out.items ≡ l.initial.out.items ++ flat_map parent_line (take l.parent-index l.parents)
