use Rattle.std.proofs.Common.{◌≡◌, ◌||◌, true, not, length}
use Rattle.std.specs.Prelude.{filter}
use Rattle.text_model.specs.Id.{Id}
use Rattle.git_model.specs.Order.{has}
use Rattle.tag_rule.specs.Named.{names}
use Rattle.tag_rule.proofs.FateLemmas.{first_of, IsChain}
use Rattle.tag_rule.proofs.fates.Fates.follow.Given as goal

abbrev pub invariant-tags : goal.invariant-tags
invariant-tags l = record {
  chain : IsChain (names l.targets) l.ids l.at;
  first : first_of l.ids l.at ≡ l.fn.from;
  here : has (l.targets).came.now l.at ≡ true;
  followed : (id : Id) → has l.self.followed id ≡ (has l.fn.self.followed id || has l.ids id);
  leading : l.self.leading ≡ l.fn.self.leading;
}

abbrev pub decreases-tags : goal.decreases-tags
decreases-tags l = length (filter (λ id. not (has l.self.followed id)) (l.targets).came.now)
