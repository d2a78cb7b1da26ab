use Rattle.std.proofs.Common.{◌≡◌, ℕ, ◌<◌, sym, subst, arith}
use Rattle.partner_model.specs.Partner.{IsHeldView}
use Rattle.partner_model.specs.Given.{Peels, depth_limit}
use Rattle.pair_choice.specs.Depths.{IsClear, IsUnmarking, IsDepth}
use Rattle.pair_choice.specs.declared.depth.Depth.{Depth}
use Rattle.pair_choice.specs.declared.unmark.Unmarking.{Unmarking}
use Rattle.pair_choice.proofs.DepthLemmas.{depth-is, history-of, one-more}
use Rattle.pair_choice.proofs.Meets.{clear-all, meets}
use Rattle.pair_choice.proofs.depth.depth_over.Goals as goal

pub loop-count-init : goal.loop-count-init
loop-count-init g c = record {
  some = c.requires.over;
  down = λ blocks top m clear peels marked is. (m, record { clear = clear; peels = peels; marked = marked; draft = is });
  steps = omega arith;
}

pub unmark-requires : goal.unmark-requires
unmark-requires g c = record { over = c.loop-count.invariant.some }

pub loop-count-preserved : goal.loop-count-preserved
loop-count-preserved g c =
    let k = c.args.known.now in
    let some = c.loop-count.invariant.some in
    let found = subst (λ (u : Unmarking). IsUnmarking k some.0 some.1 u) c.in-Found.is (c.in_ok-next.ensures.found some.0 some.1 some.2) in
    record {
      some = (some.0, found.0, found.2);
      down = λ blocks top m clear peels marked is.
          let d = c.loop-count.invariant.down blocks top m clear peels marked is in
          one-more k blocks c.loop-count.count top c.loop-count.last c.in-Found.next d.0 d.1
          (subst (λ (u : Unmarking). IsUnmarking k blocks d.0 u) c.in-Found.is (c.in_ok-next.ensures.found blocks d.0 (d.1).draft));
      steps = omega (arith, c.unmark.ensures.step, c.loop-count.invariant.steps);
    }

pub returns-in-Nothing-clause-depth : goal.returns-in-Nothing-clause-depth
returns-in-Nothing-clause-depth g c = λ blocks top m clear peels marked is.
    let k = c.args.known.now in
    let d = c.loop-count.invariant.down blocks top m clear peels marked is in
    let less : c.loop-count.count < depth_limit = omega (arith, c.loop-count-test.true) in
    let none = subst (λ (u : Unmarking). IsUnmarking k blocks d.0 u) c.in-Nothing.is (c.in_ok-next.ensures.found blocks d.0 (d.1).draft) in
    subst (λ (depth : Depth). IsDepth k blocks top depth) (sym c.depth_of_count.ensures) (depth-is k blocks (history-of k blocks c.loop-count.last d.0 (d.1).draft) c.loop-count.count top d.0 less (d.1).clear (d.1).peels none)

pub returns-in-Nothing-clause-steps : goal.returns-in-Nothing-clause-steps
returns-in-Nothing-clause-steps g c = (
  omega (arith, c.unmark.ensures.step, c.loop-count.invariant.steps, c.loop-count.auto.count),
  omega (arith, c.unmark.ensures.step, c.loop-count.invariant.steps, c.loop-count-test.true),
)

pub returns-in_err-next-clause-steps : goal.returns-in_err-next-clause-steps
returns-in_err-next-clause-steps g c = (
  omega (arith, c.unmark.ensures.step, c.loop-count.invariant.steps, c.loop-count.auto.count),
  omega (arith, c.unmark.ensures.step, c.loop-count.invariant.steps, c.loop-count-test.true),
)

pub returns-clause-depth : goal.returns-clause-depth
returns-clause-depth g c = λ blocks top m clear peels marked is.
    let d = c.loop-count.invariant.down blocks top m clear peels marked is in
    let all : c.loop-count.count ≡ depth_limit = omega (arith, c.loop-count-test.false, c.loop-count.auto.count-end) in
    let k = c.args.known.now in
    ((d.0, subst (λ (i : ℕ). Peels blocks (IsHeldView k.hg) i top d.0) all (d.1).peels), clear-all k blocks top (subst (λ (i : ℕ). IsClear k blocks i top) all (d.1).clear))

pub returns-clause-steps : goal.returns-clause-steps
returns-clause-steps g c = (
  omega (arith, c.loop-count.invariant.steps, c.loop-count.auto.count),
  omega (arith, c.loop-count.invariant.steps, c.loop-count.auto.count-end),
)

pub returns-in-Collision-clause-depth : goal.returns-in-Collision-clause-depth
returns-in-Collision-clause-depth g c = λ blocks top m clear peels marked is.
    let k = c.args.known.now in
    let d = c.loop-count.invariant.down blocks top m clear peels marked is in
    let less : c.loop-count.count < depth_limit = omega (arith, c.loop-count-test.true) in
    meets k blocks c.loop-count.count top d.0 less (d.1).peels (d.1).marked (subst (λ (u : Unmarking). IsUnmarking k blocks d.0 u) c.in-Collision.is (c.in_ok-next.ensures.found blocks d.0 (d.1).draft))

pub returns-in-Collision-clause-steps : goal.returns-in-Collision-clause-steps
returns-in-Collision-clause-steps g c = (
  omega (arith, c.unmark.ensures.step, c.loop-count.invariant.steps, c.loop-count.auto.count),
  omega (arith, c.unmark.ensures.step, c.loop-count.invariant.steps, c.loop-count-test.true),
)
