use Rattle.std.proofs.Common.{arith}
use Rattle.std.proofs.lemmas.Result.{err_from_is_err_and}
use Rattle.git_batch.proofs.ReadLemmas.{unless_fault}
use Rattle.git_batch.proofs.line.judge_line.Goals as goal

pub returns-in_err-within_limit-in-Limit-clause-reads : goal.returns-in_err-within_limit-in-Limit-clause-reads
returns-in_err-within_limit-in-Limit-clause-reads c =
    let p = err_from_is_err_and c.from_residual.result c.from_residual.ensures.1 in
    rw (c.in-Limit.is, p.1, p.2) (unless_fault _ _ c.in_err-within_limit-in-Limit.field-0.0 (c.in_err-within_limit-in-Limit.ensures.judged _ (omega arith)))

pub returns-in_err-within_limit-in-Lf-clause-reads : goal.returns-in_err-within_limit-in-Lf-clause-reads
returns-in_err-within_limit-in-Lf-clause-reads c =
    let p = err_from_is_err_and c.from_residual-in_err-within_limit-in-Lf.result c.from_residual-in_err-within_limit-in-Lf.ensures.1 in
    rw (c.in-Lf.is, p.1, p.2) (unless_fault _ _ c.in_err-within_limit-in-Lf.field-0.0 (c.in_err-within_limit-in-Lf.ensures.judged _ (omega arith)))
