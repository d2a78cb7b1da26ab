use Rattle.std.proofs.Common.{◌≡◌, ◌⊎◌, true, inl, inr}
use Rattle.text_model.specs.Id.{Id, has_id}
use Rattle.pair_state.proofs.MadeCommit.{inserted}
use Rattle.pair_state.proofs.push.put_where.Goals as goal

pub returns-in_ok-insert : goal.returns-in_ok-insert
returns-in_ok-insert c = λ x h. by x (inserted c.insert.new.self c.args.set.now c.args.node c.in_ok-insert.field-0 c.in_ok-insert.ensures.ok x h)
  where
    by : (x : Id) → (has_id c.args.set.now x ≡ true) ⊎ (x ≡ c.args.node) → (has_id c.args.set.now x ≡ true) ⊎ ((c.args.asked ≡ true) × (x ≡ c.args.node))
    by x (inl e) = inl e
    by x (inr q) = inr (c.if-asked.true, q)
