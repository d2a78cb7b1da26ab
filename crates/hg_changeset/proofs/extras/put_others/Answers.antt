use Rattle.std.proofs.Transfers.{starts_with_of_append, starts_with_trans}
use Rattle.hg_changeset.proofs.extras.put_others.Goals as goal

pub returns-in_err-put_other-clause-front : goal.returns-in_err-put_other-clause-front
returns-in_err-put_other-clause-front c =
    starts_with_trans _ _ _ c.put_other.ensures.front (starts_with_of_append _ _ _ c.loop-item.invariant)
