use Rattle.next_law.proofs.OneGit.{none-other_left}
use Rattle.next_law.proofs.objects_are_one.Goals as goal

pub returns : goal.returns
returns c = none-other_left
