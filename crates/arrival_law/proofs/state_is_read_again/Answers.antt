use Rattle.arrival_law.proofs.Whole.{read-again}
use Rattle.arrival_law.proofs.state_is_read_again.Goals as goal

pub returns : goal.returns
returns c = read-again
