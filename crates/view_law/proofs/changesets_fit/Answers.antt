use Rattle.view_law.proofs.Fits.{changesets_fit-left}
use Rattle.view_law.proofs.changesets_fit.Goals as goal

pub returns : goal.returns
returns c = changesets_fit-left
