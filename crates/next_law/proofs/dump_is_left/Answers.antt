use Rattle.next_law.proofs.DumpLeft.{dump-left}
use Rattle.next_law.proofs.dump_is_left.Goals as goal

pub returns : goal.returns
returns c = dump-left
