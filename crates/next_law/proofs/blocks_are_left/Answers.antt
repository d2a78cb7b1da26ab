use Rattle.next_law.proofs.Blocks.{blocks-left}
use Rattle.next_law.proofs.blocks_are_left.Goals as goal

pub returns : goal.returns
returns c = blocks-left
