use Rattle.std.proofs.Transfers.{starts_with_of_append, starts_with_trans}
use Rattle.mark_code.proofs.writing.put_marks.Goals as goal

pub returns-in_err-put_mark-clause-front : goal.returns-in_err-put_mark-clause-front
returns-in_err-put_mark-clause-front c =
    starts_with_trans _ _ _ c.put_mark.ensures.front (starts_with_of_append _ _ _ c.loop-mark.invariant)
