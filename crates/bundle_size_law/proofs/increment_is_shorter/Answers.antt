use Rattle.bundle_size_law.proofs.Shorter.{shorter}
use Rattle.bundle_size_law.proofs.increment_is_shorter.Goals as goal

pub returns : goal.returns
returns c = shorter
