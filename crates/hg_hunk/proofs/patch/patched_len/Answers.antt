use Rattle.std.proofs.Common.{arith, rules, sym}
use Rattle.hg_model.proofs.HunkLemmas.{first_hunk-length}
use Rattle.hg_hunk.proofs.Walks.{turn, walk_outside, walk_end}
use Rattle.hg_hunk.proofs.patch.patched_len.Goals as goal

pub returns-in_err-check_shapes-clause-fault : goal.returns-in_err-check_shapes-clause-fault
returns-in_err-check_shapes-clause-fault c =
    let cut = c.in_err-check_shapes.ensures.cut c.args.base_len c.args.most in
    search rules

pub returns-then-not-is_within-clause-fault : goal.returns-then-not-is_within-clause-fault
returns-then-not-is_within-clause-fault c =
    let w = c.loop-hunk in
    walk_outside c.args.base_len c.args.delta.now w.rest.now w.from w.kept w.inserted _ _ w.invariant c.in-Some.ensures (sym c.if-not-is_within.ensures)

pub overflow_add-inserted : goal.overflow_add-inserted
overflow_add-inserted c =
    let count = first_hunk-length c.loop-hunk.rest.now _ _ (sym c.in-Some.ensures) in
    omega (arith, count)

pub loop-hunk-smaller : goal.loop-hunk-smaller
loop-hunk-smaller c =
    let count = first_hunk-length c.loop-hunk.rest.now _ _ (sym c.in-Some.ensures) in
    omega (arith, count)

pub loop-hunk-preserved : goal.loop-hunk-preserved
loop-hunk-preserved c =
    let w = c.loop-hunk in
    let t = turn c.args.base_len c.args.delta.now w.rest.now w.from w.kept w.inserted _ _ w.invariant c.in-Some.ensures (sym c.if-not-is_within.ensures) in
    t.walk

pub returns-in-Some-checked_add-clause-size : goal.returns-in-Some-checked_add-clause-size
returns-in-Some-checked_add-clause-size c =
    let w = c.loop-hunk in
    let e = walk_end c.args.base_len c.args.delta.now w.rest.now w.from w.kept w.inserted w.invariant c.in_default.ensures in
    (e.0, e.1, omega (arith, e.2, c.in-Some-checked_add.ensures))

pub returns-in_default-checked_add-clause-fault : goal.returns-in_default-checked_add-clause-fault
returns-in_default-checked_add-clause-fault c =
    let w = c.loop-hunk in
    let e = walk_end c.args.base_len c.args.delta.now w.rest.now w.from w.kept w.inserted w.invariant c.in_default.ensures in
    (e.0, e.1, omega (arith, e.2, c.in-Some-checked_add.ensures))

pub returns-in_default-checked_add-2-clause-fault : goal.returns-in_default-checked_add-2-clause-fault
returns-in_default-checked_add-2-clause-fault c =
    let w = c.loop-hunk in
    let e = walk_end c.args.base_len c.args.delta.now w.rest.now w.from w.kept w.inserted w.invariant c.in_default.ensures in
    (e.0, e.1, omega (arith, e.2, c.in_default-checked_add.ensures))
