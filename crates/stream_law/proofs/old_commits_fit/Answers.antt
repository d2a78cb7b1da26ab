use Rattle.stream_law.proofs.Fits.{old-fit}
use Rattle.stream_law.proofs.old_commits_fit.Goals as goal

pub returns : goal.returns
returns c = old-fit
