use Rattle.std.proofs.Common.{sym, ap, ◌∙◌, option_map, arith}
use Rattle.text_model.proofs.ByteLemmas.{IsBytes-by_index}
use Rattle.mark_code.specs.Values.{mark_value}
use Rattle.mark_code.proofs.ListLemmas.{at-start, mark-list, at-end, no-line, shorter, no-mark, goes-on, no-place}
use Rattle.mark_code.proofs.list.CommitMarks.read.Goals as goal

pub lines-init : goal.lines-init
lines-init c = rw c.new-marks.ensures (at-start c.args.headers.now (IsBytes-by_index c.args.headers.now (λ i. omega (arith, c.type_inv.headers i))))

pub returns-in_default-2 : goal.returns-in_default-2
returns-in_default-2 c =
    no-mark c.args.headers.now c.lines.marks c.lines.rest.now c.lines.invariant c.in-Some.line.now c.in-Some.after.now c.in-Some.ensures
    (sym (ap (option_map mark_value) c.in_default-2.is) ∙ c.in_ok-mark.ensures)

pub returns-then-not-may_end : goal.returns-then-not-may_end
returns-then-not-may_end c =
    no-place c.args.headers.now c.lines.marks c.lines.rest.now c.lines.invariant c.in-Some.line.now c.in-Some.after.now c.in-Some.ensures
    (mark_value c.in-Some-2.mark) (sym (ap (option_map mark_value) c.in-Some-2.is) ∙ c.in_ok-mark.ensures) c.if-not-may_end.ensures

pub push-requires : goal.push-requires
push-requires c =
    mark-list c.args.headers.now _ c.in-Some.after.now
    (goes-on c.args.headers.now c.lines.marks c.lines.rest.now c.lines.invariant c.in-Some.line.now c.in-Some.after.now c.in-Some.ensures
    (mark_value c.in-Some-2.mark) (sym (ap (option_map mark_value) c.in-Some-2.is) ∙ c.in_ok-mark.ensures) c.if-not-may_end.ensures)

pub lines-smaller : goal.lines-smaller
lines-smaller c = shorter c.args.headers.now c.lines.marks c.lines.rest.now c.lines.invariant c.in-Some.line.now c.in-Some.after.now c.in-Some.ensures

pub lines-preserved : goal.lines-preserved
lines-preserved c =
    rw c.in_ok-push.ensures.ok
    (goes-on c.args.headers.now c.lines.marks c.lines.rest.now c.lines.invariant c.in-Some.line.now c.in-Some.after.now c.in-Some.ensures
    (mark_value c.in-Some-2.mark) (sym (ap (option_map mark_value) c.in-Some-2.is) ∙ c.in_ok-mark.ensures) c.if-not-may_end.ensures)

pub returns-then-is_empty : goal.returns-then-is_empty
returns-then-is_empty c = at-end c.args.headers.now c.lines.marks c.lines.rest.now c.lines.invariant c.if-is_empty.ensures

pub returns-else-is_empty : goal.returns-else-is_empty
returns-else-is_empty c = no-line c.args.headers.now c.lines.marks c.lines.rest.now c.lines.invariant c.in_default.ensures c.if-is_empty.ensures
