use Rattle.std.proofs.lemmas.Result.{IfOk-weaker}
use Rattle.bridge_cli.proofs.DumpLemmas.{dumps-found}
use Rattle.bridge_cli.proofs.printed.dumps_of.Goals as goal

pub returns-in-Some : goal.returns-in-Some
returns-in-Some c = IfOk-weaker c.dumps_in.result _ _ (λ found told. dumps-found _ found c.args.fetched.now c.in-Some.is told) c.dumps_in.ensures
