use Rattle.bridge_cli.proofs.RefusedLemmas.{list-git-refused}
use Rattle.bridge_cli.proofs.output.stream_lines.Goals as goal

pub returns-in-Err-clause-makes : goal.returns-in-Err-clause-makes
returns-in-Err-clause-makes g c = rw c.from.ensures (list-git-refused (g.I.Source.left c.args.input.now) c.in-Err.fault c.in-Err.ensures.names c.in-Err.ensures.lists)
