use Rattle.stream_increment_law.proofs.Accepted.{goes_on}
use Rattle.stream_increment_law.proofs.stream_goes_on.Goals as goal

pub returns : goal.returns
returns c = goes_on
