use Rattle.bridge_cli.proofs.MadeLemmas.{made-refuses}
use Rattle.bridge_cli.proofs.made.counts_of_made.Goals as goal

pub returns-in-Err-clause-makes : goal.returns-in-Err-clause-makes
returns-in-Err-clause-makes g c = λ input slot.
    rw c.from.ensures (made-refuses c.args.n c.args.seed c.in-Err.fault c.in-Err.ensures.names c.in-Err.ensures.refused input slot)
