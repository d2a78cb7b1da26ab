use Rattle.view_law.proofs.Left.{changesets-left}
use Rattle.view_law.proofs.changesets_are_views.Goals as goal

pub returns : goal.returns
returns c = changesets-left
