use Rattle.closure_law.proofs.Kept.{kept-right, empty-right}
use Rattle.closure_law.proofs.pulls_keep_right.Goals as goal

pub returns-clause-empty : goal.returns-clause-empty
returns-clause-empty c = empty-right

pub returns-clause-pull : goal.returns-clause-pull
returns-clause-pull c = kept-right
