use Rattle.state_law.proofs.Names.{names-stay}
use Rattle.state_law.proofs.names_stay.Goals as goal

pub returns : goal.returns
returns c = names-stay
