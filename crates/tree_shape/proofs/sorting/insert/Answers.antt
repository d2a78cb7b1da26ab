use Rattle.std.proofs.Common.{◌≡◌, ◌≤◌, ◌∙◌, ◌∷◌, false, length, drop, take, List, sym, subst, arith, ℕ}
use Rattle.text_model.specs.Lists.{Each}
use Rattle.text_model.specs.Text.{is_below}
use Rattle.git_model.specs.Unfold.{FileRow}
use Rattle.git_model.proofs.SortLemmas.{Ascends}
use Rattle.tree_shape.specs.Orders.{key_in, Same}
use Rattle.tree_shape.proofs.RowOrders.{Above, Under, fronts, placed, of-put, in-put, one-more, none-above, under}
use Rattle.tree_shape.proofs.sorting.insert.Goals as goal
use Rattle.tree_shape.proofs.sorting.insert.Goals.{then-place-test+else-is_before, else-place-test}

pub place-init : goal.place-init
place-init c =
    let len : length c.args.rows.now.items ≡ c.len-place.result = sym (c.len-place.ensures ∙ c.args.rows.now.ok.0) in
    record {
      within = omega (arith, len);
      above = subst (λ (n : ℕ). Each (Above (key_in c.args.order) c.args.row) (drop n c.args.rows.now.items)) len (none-above (key_in c.args.order) c.args.row c.args.rows.now.items);
    }

pub index-requires : goal.index-requires
index-requires c = omega (arith, c.place-test.true, c.place.invariant.within, c.args.rows.now.ok.0)

pub place-preserved : goal.place-preserved
place-preserved c =
    let key = key_in c.args.order in
    record {
      within = omega (arith, c.place.invariant.within);
      above = one-more key c.args.row c.args.rows.now.items c.place.place c.index.result.now c.place-test.true c.place.invariant.within c.place.invariant.above
          (subst (λ (r : FileRow). Above key c.args.row r) c.index.ensures (sym c.is_before.ensures ∙ c.if-is_before.true));
    }

pub insert-requires : goal.insert-requires
insert-requires c = omega (arith, c.place.invariant.within, c.args.rows.now.ok.0)

pub returns-clause-order : goal.returns-clause-order
returns-clause-order c =
    let key = key_in c.args.order in
    let items = c.args.rows.now.items in
    subst (λ (rows : List FileRow). Ascends key rows) (sym c.in_ok-insert.ensures.items)
    (placed key c.args.row items c.place.place c.requires.order (elim c.place-test.branch [
      | then-place-test+else-is_before w ↦
          fronts key c.args.row items c.place.place w.index.result.now c.requires.order w.place-test.true c.place.invariant.within
          (under key c.args.row items c.place.place w.index.result.now c.requires.other w.place-test.true c.place.invariant.within
          (subst (λ (r : FileRow). is_below (key c.args.row) (key r) ≡ false) w.index.ensures (sym w.is_before.ensures ∙ w.if-is_before.false)))
      | else-place-test w ↦ subst (λ (n : ℕ). Each (Under key c.args.row) (take n items)) (sym (no-place c.place.place w.place-test.false)) tt
    ]) c.place.invariant.above)
  where
    no-place : (n : ℕ) → n ≤ 0 → n ≡ 0
    no-place n h = omega (arith, h)

pub returns-clause-same : goal.returns-clause-same
returns-clause-same c = subst (λ (rows : List FileRow). Same rows (c.args.row ∷ c.args.rows.now.items)) (sym c.in_ok-insert.ensures.items) (record {
  to = λ r i. of-put (key_in c.args.order) c.args.row c.place.place c.args.rows.now.items r i;
  from = λ r i. in-put (key_in c.args.order) c.args.row c.place.place c.args.rows.now.items r i;
})
