use Rattle.std.proofs.Common.{◌-◌, arith, sym, length}
use Rattle.std.proofs.lemmas.Bool.{eqb-true, eqb-false}
use Rattle.hg_model.proofs.HunkLemmas.{first_hunk-length}
use Rattle.hg_model.proofs.DeltaLemmas.{delta_reading-cut}
use Rattle.hg_hunk.proofs.Walks.{shapes_on, shapes_whole, shapes_cut}
use Rattle.hg_hunk.proofs.patch.check_shapes.Goals as goal

pub loop-after-smaller : goal.loop-after-smaller
loop-after-smaller c =
    let count = first_hunk-length c.loop-after.rest.now _ _ (sym c.in-Some.ensures) in
    omega (arith, count)

pub loop-after-preserved : goal.loop-after-preserved
loop-after-preserved c = shapes_on c.args.delta.now c.loop-after.rest.now _ _ c.loop-after.invariant c.in-Some.ensures

pub returns-then-is_empty-clause-whole : goal.returns-then-is_empty-clause-whole
returns-then-is_empty-clause-whole c =
    shapes_whole c.args.delta.now c.loop-after.rest.now c.loop-after.invariant (eqb-true _ _ (sym c.if-is_empty.ensures))

pub returns-else-is_empty-clause-cut : goal.returns-else-is_empty-clause-cut
returns-else-is_empty-clause-cut c = λ base_size most.
    let delta = c.args.delta.now in
    let rest = c.loop-after.rest.now in
    let some = eqb-false (length rest) 0 (sym c.if-is_empty.ensures) in
    delta_reading-cut base_size delta (length delta - length rest) (shapes_cut delta rest c.loop-after.invariant c.in_default.ensures (omega (arith, some)))
