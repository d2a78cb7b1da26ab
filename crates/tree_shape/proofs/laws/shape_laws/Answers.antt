use Rattle.tree_shape.proofs.Walking.{no-fault, rows-again}
use Rattle.tree_shape.proofs.laws.shape_laws.Goals as goal

pub returns-clause-fits : goal.returns-clause-fits
returns-clause-fits c = no-fault

pub returns-clause-rows : goal.returns-clause-rows
returns-clause-rows c = rows-again
