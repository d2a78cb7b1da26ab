use Rattle.std.proofs.Common.{Some, None, arith}
use Rattle.mark_code.proofs.ExtrasLemmas.{count-other, count-read}
use Rattle.mark_code.proofs.changeset_marks.count_at.Goals as goal

pub returns-then-ne-clause-read : goal.returns-then-ne-clause-read
returns-then-ne-clause-read c =
    count-other c.args.extras.now c.args.place c.at-item.result.now c.item.inside.key c.item.inside.value (omega arith) c.at-item.ensures c.item.view_is
    c.as_slice.result.now c.as_slice.ensures c.if-ne.ensures

pub returns-in_err-count-clause-read : goal.returns-in_err-count-clause-read
returns-in_err-count-clause-read c =
    rw c.from_residual.ensures
    (count-read c.args.extras.now c.args.place c.at-item.result.now c.item.inside.key c.item.inside.value (omega arith) c.at-item.ensures c.item.view_is
    c.as_slice.result.now c.as_slice-2.result.now None c.as_slice.ensures c.if-ne.ensures c.as_slice-2.ensures c.in_err-count.ensures)

pub returns-clause-read : goal.returns-clause-read
returns-clause-read c =
    count-read c.args.extras.now c.args.place c.at-item.result.now c.item.inside.key c.item.inside.value (omega arith) c.at-item.ensures c.item.view_is
    c.as_slice.result.now c.as_slice-2.result.now (Some c.in_ok-count.count) c.as_slice.ensures c.if-ne.ensures c.as_slice-2.ensures c.in_ok-count.ensures
