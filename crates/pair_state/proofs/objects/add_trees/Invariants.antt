use Rattle.std.proofs.Common.{◌≡◌, ◌++◌}
use Rattle.git_store.specs.Growth.{HasGrown}
use Rattle.pair_state.proofs.objects.add_trees.Given as goal

-- the trees so far were added
abbrev pub invariant-loop-tree : goal.invariant-loop-tree
invariant-loop-tree l =
    (goal.iterator-loop-tree).can_next l.tree-iterator ×
    (goal.iterator-loop-tree).is_finite l.tree-iterator ×
    (l.initial.tree-iterator.rest.items ≡ l.yielded ++ l.tree-iterator.rest.items) ×
    HasGrown l.initial.git l.git l.yielded
