use Rattle.filled_law.proofs.Filled.{filled-is, unmarking-is_right}
use Rattle.filled_law.proofs.Right.{right-is_unmarking}
use Rattle.filled_law.proofs.changeset_is_filled.Goals as goal

pub returns-clause-filled : goal.returns-clause-filled
returns-clause-filled c = filled-is

pub returns-clause-asked : goal.returns-clause-asked
returns-clause-asked c = unmarking-is_right

pub returns-clause-right : goal.returns-clause-right
returns-clause-right c = right-is_unmarking
