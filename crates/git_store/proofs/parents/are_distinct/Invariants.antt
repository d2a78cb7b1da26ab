use Rattle.std.proofs.Common.{◌≡◌, true, take}
use Rattle.git_model.specs.Tree.{has_distinct}
use Rattle.git_store.proofs.parents.are_distinct.Given as goal

abbrev pub invariant-loop-id : goal.invariant-loop-id
invariant-loop-id l = record {
  seen : l.seen ≡ take l.id-index l.ids;
  distinct : has_distinct l.seen ≡ true;
}
