use Rattle.increment_law.proofs.Output.{goes-back}
use Rattle.increment_law.proofs.outputs_return.Goals as goal

pub returns : goal.returns
returns c = goes-back
