use Rattle.std.proofs.Common.{◌≡◌, Bool, true, take}
use Rattle.std.specs.List.{find}
use Rattle.text_model.specs.Id.{Id}
use Rattle.git_model.specs.Tree.{has_distinct}
use Rattle.git_store.proofs.order.came.once_each.Given as goal

abbrev pub invariant-loop-id : goal.invariant-loop-id
invariant-loop-id l = record {
  seen : l.seen ≡ l.ids;
  distinct : has_distinct l.ids ≡ true;
  finds : (test : Id → Bool) → find test l.ids ≡ find test (take l.id-index l.came);
}
