use Rattle.std.proofs.Common.{◌≡◌, length, arith, rules}
use Rattle.std.proofs.lemmas.Result.{err_from_is_err_and}
use Rattle.git_batch.proofs.ReadLemmas.{body_over}
use Rattle.git_batch.proofs.content.read_content.Goals as goal

pub returns-then-len-size-clause-cause : goal.returns-then-len-size-clause-cause
returns-then-len-size-clause-cause g c = rw c.in_ok-fill_vec.ensures.cause (c.input_ends.ensures.cause _)

pub returns-in_err-within_limit-clause-judged : goal.returns-in_err-within_limit-clause-judged
returns-in_err-within_limit-clause-judged g c =
    let p = err_from_is_err_and c.from_residual-in_err-within_limit.result c.from_residual-in_err-within_limit.ensures.1 in
    let long : c.len.result ≡ length c.fill_vec.new.into.items = search (rules, c.len.ensures) in
    rw (p.1, p.2)
    (body_over c.args.at c.args.size _ _ c.fill_vec.new.into.items c.in_err-within_limit.field-0.0 c.in_ok-fill_vec.ensures.bytes (omega (arith, long, c.in_ok-fill_vec.ensures.len, c.if-len-size.false, c.len-2.ensures)) (rw long at c.in_err-within_limit.ensures.judged))
