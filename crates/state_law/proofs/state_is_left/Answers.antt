use Rattle.state_law.proofs.Next.{state-left}
use Rattle.state_law.proofs.state_is_left.Goals as goal

pub returns : goal.returns
returns c = state-left
