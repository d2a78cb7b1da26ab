use Rattle.std.proofs.Common.{◌≡◌, ◌++◌, take}
use Rattle.git_model.specs.Tree.{tree_text}
use Rattle.tree_rebuild.proofs.entries.put_old.Given as goal

-- the entries so far were appended
abbrev pub invariant-loop-entry : goal.invariant-loop-entry
invariant-loop-entry l = l.out.items ≡ l.initial.out.items ++ tree_text (take l.entry-index l.entries)
