use Rattle.std.proofs.Common.{◌≡◌, ◌++◌, map}
use Rattle.git_model.specs.Residue.{file_with}
use Rattle.tree_residue.proofs.rows.put_files.Given as goal

-- the files so far stand behind the rows
abbrev pub invariant-loop-row : goal.invariant-loop-row
invariant-loop-row l =
    (goal.iterator-loop-row).can_next l.row-iterator ×
    (goal.iterator-loop-row).is_finite l.row-iterator ×
    (l.initial.row-iterator.rest.items ≡ l.yielded ++ l.row-iterator.rest.items) ×
    (l.rows.items ≡ l.fn.rows.items ++ map (file_with l.items) l.yielded)
