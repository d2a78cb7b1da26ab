use Rattle.stream_law.proofs.StreamLeft.{stream-left}
use Rattle.stream_law.proofs.stream_is_left.Goals as goal

pub returns : goal.returns
returns c = stream-left
