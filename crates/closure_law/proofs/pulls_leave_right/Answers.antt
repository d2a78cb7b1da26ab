use Rattle.closure_law.proofs.After.{accepted-after, refused-after, right-after}
use Rattle.closure_law.proofs.pulls_leave_right.Goals as goal

pub returns-clause-accepted : goal.returns-clause-accepted
returns-clause-accepted c = accepted-after

pub returns-clause-refused : goal.returns-clause-refused
returns-clause-refused c = refused-after

pub returns-clause-right : goal.returns-clause-right
returns-clause-right c = right-after
