use Rattle.arrival_law.proofs.Whole.{read-again}
use Rattle.arrival_law.proofs.dumps_arrive.Goals as goal

pub returns-clause-bundle : goal.returns-clause-bundle
returns-clause-bundle c = λ s is. (read-again s is).bundle

pub returns-clause-stream : goal.returns-clause-stream
returns-clause-stream c = λ s is. (read-again s is).stream
