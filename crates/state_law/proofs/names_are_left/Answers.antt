use Rattle.state_law.proofs.Printed.{same-names}
use Rattle.state_law.proofs.names_are_left.Goals as goal

pub returns : goal.returns
returns c = same-names
