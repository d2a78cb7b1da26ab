use Rattle.std.proofs.Transfers.{starts_with_of_append, starts_with_trans}
use Rattle.state_part.proofs.map.append_lines.Goals as goal

pub returns-in_err-append_pair-clause-front : goal.returns-in_err-append_pair-clause-front
returns-in_err-append_pair-clause-front c =
    starts_with_trans _ _ _ c.append_pair.ensures.front (starts_with_of_append _ _ _ c.loop-pair.invariant)
