use Rattle.state_law.proofs.Back.{come-back}
use Rattle.state_law.proofs.names_come_back.Goals as goal

pub returns : goal.returns
returns c = come-back
