use Rattle.state_law.proofs.Set.{set-left}
use Rattle.state_law.proofs.set_is_left.Goals as goal

pub returns : goal.returns
returns c = set-left
