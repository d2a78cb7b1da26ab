use Rattle.next_law.proofs.OneHg.{none-left}
use Rattle.next_law.proofs.revisions_are_one.Goals as goal

pub returns : goal.returns
returns c = none-left
