use Rattle.std.proofs.Common.{sym, ◌∙◌}
use Rattle.text_model.proofs.PathLemmas.{turn, last}
use Rattle.ref_map.proofs.PartLemmas.{fit_on, unfit, last_part}
use Rattle.ref_map.proofs.fit.has_ref_parts.Goals as goal

pub returns-then-not-is_ref_part : goal.returns-then-not-is_ref_part
returns-then-not-is_ref_part c =
    let t = turn c.loop-part.rest.now c.in-Some.part.now c.in-Some.after.now c.in-Some.ensures in
    sym (unfit c.args.name.now c.loop-part.rest.now c.in-Some.part.now c.in-Some.after.now c.loop-part.invariant t (sym c.if-not-is_ref_part.ensures))

pub loop-part-smaller : goal.loop-part-smaller
loop-part-smaller c = (turn c.loop-part.rest.now c.in-Some.part.now c.in-Some.after.now c.in-Some.ensures).len

pub loop-part-preserved : goal.loop-part-preserved
loop-part-preserved c =
    let t = turn c.loop-part.rest.now c.in-Some.part.now c.in-Some.after.now c.in-Some.ensures in
    fit_on c.args.name.now c.loop-part.rest.now c.in-Some.part.now c.in-Some.after.now c.loop-part.invariant t (sym c.if-not-is_ref_part.ensures)

pub returns : goal.returns
returns c = c.is_ref_part-2.ensures ∙ sym (last_part c.args.name.now c.loop-part.rest.now c.loop-part.invariant (last c.loop-part.rest.now c.in_default.ensures))
