use Rattle.std.proofs.Common.{◌≡◌, map, ◌++◌}
use Rattle.pair_known.specs.Fresh.{fresh_object}
use Rattle.git_store.specs.Growth.{HasGrown}
use Rattle.pair_state.proofs.objects.add_blobs.Given as goal

-- the blobs so far were added
abbrev pub invariant-loop-blob : goal.invariant-loop-blob
invariant-loop-blob l =
    (goal.iterator-loop-blob).can_next l.blob-iterator ×
    (goal.iterator-loop-blob).is_finite l.blob-iterator ×
    (l.initial.blob-iterator.rest.items ≡ l.yielded ++ l.blob-iterator.rest.items) ×
    HasGrown l.initial.git l.git (map fresh_object l.yielded)
