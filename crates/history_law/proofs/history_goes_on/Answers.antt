use Rattle.history_law.proofs.States.{goes-on, done, stopped}
use Rattle.history_law.proofs.history_goes_on.Goals as goal

pub returns-clause-pulls : goal.returns-clause-pulls
returns-clause-pulls c = goes-on

pub returns-clause-accepted : goal.returns-clause-accepted
returns-clause-accepted c = done

pub returns-clause-refused : goal.returns-clause-refused
returns-clause-refused c = stopped
