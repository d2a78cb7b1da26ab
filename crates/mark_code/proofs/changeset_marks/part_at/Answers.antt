use Rattle.std.proofs.Common.{Some, None, arith, sym, ◌∙◌}
use Rattle.mark_code.proofs.ExtrasLemmas.{part-other, part-read}
use Rattle.mark_code.proofs.changeset_marks.part_at.Goals as goal

pub returns-then-ne-clause-read : goal.returns-then-ne-clause-read
returns-then-ne-clause-read c =
    part-other c.args.extras.now c.args.place c.at-item.result.now c.item.inside.key c.item.inside.value (omega arith) c.at-item.ensures c.item.view_is
    c.args.key.now c.as_slice.result.now c.as_slice.ensures c.if-ne.ensures

pub returns-in-Some-clause-read : goal.returns-in-Some-clause-read
returns-in-Some-clause-read c =
    part-read c.args.extras.now c.args.place c.at-item.result.now c.item.inside.key c.item.inside.value (omega arith) c.at-item.ensures c.item.view_is
    c.args.key.now c.as_slice.result.now c.as_slice-2.result.now (Some c.in-Some.part) c.as_slice.ensures c.if-ne.ensures c.as_slice-2.ensures (sym c.in-Some.is ∙ c.in_ok-part.ensures)

pub returns-in-None-clause-read : goal.returns-in-None-clause-read
returns-in-None-clause-read c =
    part-read c.args.extras.now c.args.place c.at-item.result.now c.item.inside.key c.item.inside.value (omega arith) c.at-item.ensures c.item.view_is
    c.args.key.now c.as_slice.result.now c.as_slice-2.result.now None c.as_slice.ensures c.if-ne.ensures c.as_slice-2.ensures (sym c.in-None.is ∙ c.in_ok-part.ensures)
