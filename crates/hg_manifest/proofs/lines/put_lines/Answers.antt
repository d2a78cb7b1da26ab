use Rattle.std.proofs.Transfers.{starts_with_of_append, starts_with_trans}
use Rattle.hg_manifest.proofs.lines.put_lines.Goals as goal

pub returns-in_err-put_line-clause-front : goal.returns-in_err-put_line-clause-front
returns-in_err-put_line-clause-front c =
    starts_with_trans _ _ _ c.put_line.ensures.front (starts_with_of_append _ _ _ c.loop-entry.invariant)
