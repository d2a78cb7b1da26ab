use Rattle.next_law.proofs.Room.{room-left}
use Rattle.next_law.proofs.limits_are_kept.Goals as goal

pub returns : goal.returns
returns c = room-left
