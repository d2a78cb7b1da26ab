use Rattle.next_law.proofs.Alone.{distinct-left}
use Rattle.next_law.proofs.members_are_distinct.Goals as goal

pub returns : goal.returns
returns c = distinct-left
