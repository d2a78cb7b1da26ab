use Rattle.stream_return_law.proofs.Whole.{stream_right, stream_pulled}
use Rattle.stream_return_law.proofs.stream_keeps_right.Goals as goal

pub returns-clause-brought : goal.returns-clause-brought
returns-clause-brought c = stream_right

pub returns-clause-pulled : goal.returns-clause-pulled
returns-clause-pulled c = stream_pulled
