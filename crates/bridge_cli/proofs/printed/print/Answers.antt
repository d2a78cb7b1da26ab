use Rattle.std.proofs.lemmas.Result.{IfOk-weaker}
use Rattle.bridge_cli.proofs.printed.print.Goals as goal

pub returns-in-Map : goal.returns-in-Map
returns-in-Map c = rw c.in-Map.is (IfOk-weaker c.map_of.result _ _ (λ bytes told m saved. told m (saved.saved).stands) c.map_of.ensures)
