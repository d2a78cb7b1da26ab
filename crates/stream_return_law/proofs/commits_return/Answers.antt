use Rattle.stream_return_law.proofs.Bodies.{bodies_one}
use Rattle.stream_return_law.proofs.Commits.{commits_bring}
use Rattle.stream_return_law.proofs.Placement.{in_order}
use Rattle.stream_return_law.proofs.commits_return.Goals as goal

pub returns-clause-order : goal.returns-clause-order
returns-clause-order c = in_order

pub returns-clause-bodies : goal.returns-clause-bodies
returns-clause-bodies c = bodies_one

pub returns-clause-blocks : goal.returns-clause-blocks
returns-clause-blocks c = λ known objects k g shaped w read h. commits_bring known objects k g shaped (bodies_one known objects k.blocks shaped.commits w shaped.one_object h) read h
