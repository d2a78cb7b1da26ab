use Rattle.bridge_cli.proofs.CountLemmas.{bundle_told}
use Rattle.bridge_cli.proofs.RefusedLemmas.{check-hg-refused}
use Rattle.bridge_cli.proofs.output.bundle_counts.Goals as goal

pub returns-in-Ok-clause-makes : goal.returns-in-Ok-clause-makes
returns-in-Ok-clause-makes g c =
    (c.in-Ok.ensures.end, bundle_told _ _ _ _ c.new.ensures c.in-Ok.ensures.reads c.in_ok-revision_counts-in-Ok.ensures)

pub returns-clause-makes : goal.returns-clause-makes
returns-clause-makes g c =
    rw c.from.ensures (check-hg-refused (g.I.Source.left c.args.input.now) _ c.in-Err.fault c.new.ensures c.in-Err.ensures.names c.in-Err.ensures.reads)
