use Rattle.bundle_increment_law.proofs.Accepted.{goes_on}
use Rattle.bundle_increment_law.proofs.bundle_goes_on.Goals as goal

pub returns : goal.returns
returns c = goes_on
