use Rattle.std.proofs.Common.{◌≡◌, ◌||◌, take}
use Rattle.text_model.specs.Id.{Id}
use Rattle.git_model.specs.Order.{has}
use Rattle.tag_rule.proofs.fates.Fates.keep.Given as goal

abbrev pub invariant-loop-id : goal.invariant-loop-id
invariant-loop-id l = record {
  leading : (id : Id) → has l.self.leading id ≡ (has l.initial.self.leading id || has (take l.id-index (l.chain).ids) id);
  followed : l.self.followed ≡ l.initial.self.followed;
}
