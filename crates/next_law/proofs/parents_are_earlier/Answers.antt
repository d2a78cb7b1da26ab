use Rattle.next_law.proofs.EarlierLeft.{earlier-left}
use Rattle.next_law.proofs.parents_are_earlier.Goals as goal

pub returns : goal.returns
returns c = earlier-left
