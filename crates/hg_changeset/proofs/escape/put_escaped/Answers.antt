use Rattle.std.proofs.Transfers.{starts_with_of_append, starts_with_trans}
use Rattle.hg_changeset.proofs.escape.put_escaped.Goals as goal

pub returns-in_err-put_byte-clause-front : goal.returns-in_err-put_byte-clause-front
returns-in_err-put_byte-clause-front c =
    starts_with_trans _ _ _ c.put_byte.ensures.front (starts_with_of_append _ _ _ c.loop-byte.invariant)
