use Rattle.std.proofs.Common.{◌∙◌, ◌∷◌, [], ◌++◌, List, refl, sym, ap, subst, append_assoc, arith}
use Rattle.git_model.specs.Unfold.{FileRow}
use Rattle.tree_shape.specs.declared.sorting.Order.TheVariants.{Paths}
use Rattle.tree_shape.specs.Orders.{key_in}
use Rattle.tree_shape.proofs.RowOrders.{Sorted, sorted-none, next-other, next-sorted, all-sorted, none-rest}
use Rattle.tree_shape.proofs.sorting.by_paths.Goals as goal

pub loop-row-init : goal.loop-row-init
loop-row-init c = (tt, tt, refl, sorted-none (key_in Paths) c.new-sorted.result.items c.new-sorted.ensures.items)

pub insert-requires-clause-order : goal.insert-requires-clause-order
insert-requires-clause-order c = c.loop-row.invariant.3.order

pub insert-requires-clause-other : goal.insert-requires-clause-other
insert-requires-clause-other c =
    let l = c.loop-row in
    next-other (key_in Paths) c.args.rows.items l.yielded l.sorted.items c.in-Some.row c.next.new.self.rest.items
    (sym c.into_iter-row-iterator.ensures.into_iter_gives.0 ∙ l.invariant.2 ∙ ap (λ (r : List FileRow). l.yielded ++ r) c.in-Some.ensures.steps.0) l.invariant.3 c.requires.paths

pub loop-row-preserved : goal.loop-row-preserved
loop-row-preserved c =
    let l = c.loop-row in (
      tt,
      tt,
      l.invariant.2 ∙ ap (λ (r : List FileRow). l.yielded ++ r) c.in-Some.ensures.steps.0 ∙ sym (append_assoc l.yielded (c.in-Some.row ∷ []) _),
      next-sorted (key_in Paths) c.args.rows.items l.yielded l.sorted.items c.in-Some.row c.next.new.self.rest.items
          (sym c.into_iter-row-iterator.ensures.into_iter_gives.0 ∙ l.invariant.2 ∙ ap (λ (r : List FileRow). l.yielded ++ r) c.in-Some.ensures.steps.0) l.invariant.3 c.insert.new.rows.items c.in_ok-insert.ensures.order c.in_ok-insert.ensures.same,
    )

pub returns : goal.returns
returns c =
    let l = c.loop-row in
    all-sorted (key_in Paths) c.args.rows.items l.sorted.items c.requires.paths
    (subst (λ (done : List FileRow). Sorted (key_in Paths) done l.sorted.items)
    (none-rest c.args.rows.items l.yielded l.row-iterator.rest.items (sym c.into_iter-row-iterator.ensures.into_iter_gives.0 ∙ l.invariant.2) (omega (arith, c.in-None.ensures.steps.0, l.row-iterator.rest.ok.0))) l.invariant.3)
