use Rattle.view_law.proofs.Left.{commits-left}
use Rattle.view_law.proofs.commits_are_views.Goals as goal

pub returns : goal.returns
returns c = commits-left
