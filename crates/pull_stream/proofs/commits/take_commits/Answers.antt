use Rattle.std.proofs.Common.{◌++◌, List, [], ◌∷◌, length, take, take_all, sym, ap, subst, arith}
use Rattle.text_model.specs.Lists.{Each}
use Rattle.text_model.specs.Id.{Id}
use Rattle.pair_known.specs.Drafts.{IsRowKnown}
use Rattle.pair_state.specs.declared.state_parts.StateParts.{StateParts}
use Rattle.pull_stream.specs.Taken.{CommitsTaken}
use Rattle.pull_stream.proofs.Counts.{some-taken}
use Rattle.pull_stream.proofs.Loop.{at-place, take-at, taken-none, taken-push, takes, its-arrival, refused-is}
use Rattle.pull_stream.proofs.commits.take_commits.Goals as goal

pub loop-id-init : goal.loop-id-init
loop-id-init g c = record {
  taken = λ m came o. ([], subst (λ (next : StateParts). CommitsTaken c.args.state next m.blocks [] []) (sym c.begin-next.ensures.state) (taken-none c.args.state m o.ready.state));
  near = subst (Each (IsRowKnown ((c.begin-next.result).state).known.hg)) (sym c.begin-next.ensures.near) tt;
  least = omega arith;
  few = omega arith;
}

pub take_commit-requires : goal.take_commit-requires
take_commit-requires g c =
    let order = c.requires.order in
    let at = at-place c.args.ordered.now c.as_slice-id-items.result.now c.loop-id.id-index c.id-item.result c.as_slice-id-items.ensures c.loop-id-test.true c.id-item.is in
    let so_far = c.loop-id.invariant.taken order.0 order.1 order.2 in
    record { commit = (order.0.blocks ++ so_far.0, takes c.args.state c.args.came.now c.args.ordered.now order.0 order.1 order.2 c.loop-id.id-index c.id-item.result at.0 at.1 (c.loop-id.next).state so_far.0 so_far.1); near = c.loop-id.invariant.near }

pub refused_at-requires : goal.refused_at-requires
refused_at-requires g c =
    let order = c.requires.order in
    let at = at-place c.args.ordered.now c.as_slice-id-items.result.now c.loop-id.id-index c.id-item.result c.as_slice-id-items.ensures c.loop-id-test.true c.id-item.is in
    its-arrival c.args.state c.args.came.now c.args.ordered.now order.0 order.1 order.2 c.loop-id.id-index c.id-item.result at.0 at.1

pub loop-id-preserved : goal.loop-id-preserved
loop-id-preserved g c = record {
  taken = λ m came o.
      let at = at-place c.args.ordered.now c.as_slice-id-items.result.now c.loop-id.id-index c.id-item.result c.as_slice-id-items.ensures c.loop-id-test.true c.id-item.is in
      let so_far = c.loop-id.invariant.taken m came o in
      let one = c.in-Ok.ensures.ok (m.blocks ++ so_far.0) (takes c.args.state c.args.came.now c.args.ordered.now m came o c.loop-id.id-index c.id-item.result at.0 at.1 (c.loop-id.next).state so_far.0 so_far.1) in
      let all = taken-push c.args.state (c.loop-id.next).state (c.in-Ok.taken).state m.blocks (take c.loop-id.id-index c.args.ordered.now) so_far.0 c.id-item.result one.0 so_far.1 one.1 in
      (so_far.0 ++ one.0 ∷ [], subst (λ (ids : List Id). CommitsTaken c.args.state (c.in-Ok.taken).state m.blocks ids (so_far.0 ++ one.0 ∷ [])) (take-at c.args.ordered.now c.loop-id.id-index c.id-item.result at.1) all);
  near = c.in-Ok.ensures.near;
  least = omega (arith, c.loop-id.invariant.least, c.in-Ok.ensures.steps);
  few = omega (arith, c.loop-id.invariant.few, c.in-Ok.ensures.steps);
}

pub returns-in-Err-clause-refused : goal.returns-in-Err-clause-refused
returns-in-Err-clause-refused g c = λ m came o.
    let at = at-place c.args.ordered.now c.as_slice-id-items.result.now c.loop-id.id-index c.id-item.result c.as_slice-id-items.ensures c.loop-id-test.true c.id-item.is in
    let so_far = c.loop-id.invariant.taken m came o in
    let due = c.in-Err.ensures.refused (m.blocks ++ so_far.0) (takes c.args.state c.args.came.now c.args.ordered.now m came o c.loop-id.id-index c.id-item.result at.0 at.1 (c.loop-id.next).state so_far.0 so_far.1) in
    refused-is c.args.state c.args.came.now c.args.ordered.now m came o c.loop-id.id-index c.id-item.result at.0 at.1 (c.loop-id.next).state so_far.0 so_far.1 c.in-Err.fault c.refused_at.result due c.refused_at.ensures.placed

pub returns-clause-ok : goal.returns-clause-ok
returns-clause-ok g c = λ m came o.
    let so_far = c.loop-id.invariant.taken m came o in
    (so_far.0, subst (λ (ids : List Id). CommitsTaken c.args.state (c.loop-id.next).state m.blocks ids so_far.0) (take_all c.loop-id.id-index c.args.ordered.now (omega (arith, ap length c.as_slice-id-items.ensures, c.loop-id-test.false))) so_far.1)

pub returns-in-Err-clause-names : goal.returns-in-Err-clause-names
returns-in-Err-clause-names g c = c.refused_at.ensures.names c.in-Err.ensures.names

pub returns-in-Err-clause-least : goal.returns-in-Err-clause-least
returns-in-Err-clause-least g c = omega (arith, c.loop-id.invariant.least, c.in-Err.ensures.steps)

pub returns-clause-least : goal.returns-clause-least
returns-clause-least g c = c.loop-id.invariant.least

pub returns-clause-steps : goal.returns-clause-steps
returns-clause-steps g c = omega (arith, c.loop-id.invariant.few, c.loop-id-test, ap (length {A = Id}) c.as_slice-id-items.ensures)

pub returns-in-Err-clause-asked : goal.returns-in-Err-clause-asked
returns-in-Err-clause-asked g c = λ m came o.
    let at = at-place c.args.ordered.now c.as_slice-id-items.result.now c.loop-id.id-index c.id-item.result c.as_slice-id-items.ensures c.loop-id-test.true c.id-item.is in
    let so_far = c.loop-id.invariant.taken m came o in
    some-taken c.args.state (c.loop-id.next).state m c.args.ordered.now c.loop-id.id-index so_far.0 _ _ _ so_far.1 (omega (arith, at.0)) c.loop-id.invariant.few c.in-Err.ensures.steps.1
