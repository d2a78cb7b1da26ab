use Rattle.std.proofs.Common.{◌≡◌, length, arith}
use Rattle.std.proofs.lemmas.Result.{err_from_is_err_and}
use Rattle.git_batch.proofs.ReadLemmas.{body_over, body_ended, body_unended}
use Rattle.git_batch.proofs.content.read_text.Goals as goal

pub returns-in_err-within_limit-clause-judged : goal.returns-in_err-within_limit-clause-judged
returns-in_err-within_limit-clause-judged g c =
    let p = err_from_is_err_and c.from_residual.result c.from_residual.ensures.1 in
    let long : c.len.result ≡ length c.in-Some.lent = c.len.ensures.value in
    rw (p.1, p.2)
    (body_over c.args.at c.args.size _ _ c.in-Some.lent c.in_err-within_limit.field-0.0 c.in-Some.ensures.bytes c.in-Some.ensures.count (rw long at c.in_err-within_limit.ensures.judged))

pub returns-then-as_slice-size-ne10-clause-judged : goal.returns-then-as_slice-size-ne10-clause-judged
returns-then-as_slice-size-ne10-clause-judged g c =
    body_unended c.args.at c.args.size _ _ c.in-Some.lent c.in-Some.ensures.bytes c.in-Some.ensures.count
    (omega (arith, c.in_ok-within_limit.ensures.all, c.len.ensures.value, c.in-Some.ensures.count)) (rw c.as_slice.ensures at c.if-as_slice-size-ne10.true)

pub returns-in-Some-clause-judged : goal.returns-in-Some-clause-judged
returns-in-Some-clause-judged g c =
    body_ended c.args.at c.args.size _ _ c.in-Some.lent c.in-Some.ensures.bytes c.in-Some.ensures.count
    (omega (arith, c.in_ok-within_limit.ensures.all, c.len.ensures.value, c.in-Some.ensures.count)) (rw c.as_slice.ensures at c.if-as_slice-size-ne10.false)
