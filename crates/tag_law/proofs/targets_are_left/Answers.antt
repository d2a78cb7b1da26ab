use Rattle.tag_law.proofs.Targets.{targets-left}
use Rattle.tag_law.proofs.targets_are_left.Goals as goal

pub returns : goal.returns
returns c = targets-left
