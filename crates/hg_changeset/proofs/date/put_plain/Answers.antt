use Rattle.std.proofs.Transfers.{starts_with_of_append, starts_with_trans}
use Rattle.hg_changeset.proofs.date.put_plain.Goals as goal

pub returns-clause-front : goal.returns-clause-front
returns-clause-front c =
    starts_with_trans _ _ _ c.put.ensures.front
    (starts_with_trans _ _ _ c.put_signed-2.ensures.front (starts_with_trans _ _ _ (starts_with_of_append _ _ _ c.in_ok-push.ensures.items) c.put_signed.ensures.front))
