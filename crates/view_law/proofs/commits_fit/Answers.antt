use Rattle.view_law.proofs.Left.{commits_fit-left}
use Rattle.view_law.proofs.commits_fit.Goals as goal

pub returns : goal.returns
returns c = commits_fit-left
