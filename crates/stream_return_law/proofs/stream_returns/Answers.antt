use Rattle.std.proofs.Common.{◌++◌}
use Rattle.git_model.specs.Stream.{stream_text}
use Rattle.pair_model.specs.Block.{commits_in}
use Rattle.state_model.specs.Kept.{git_dump}
use Rattle.closure_model.specs.Closure.{nothing}
use Rattle.stream_return_law.proofs.Accepted.{accepted, nothing_sound}
use Rattle.stream_return_law.proofs.Outcome.{not_refused}
use Rattle.stream_return_law.proofs.stream_returns.Goals as goal

pub returns-clause-accepted : goal.returns-clause-accepted
returns-clause-accepted c = accepted

pub returns-clause-no_fault : goal.returns-clause-no_fault
returns-clause-no_fault c = λ k h shaped w saved small a. not_refused nothing nothing_sound (git_dump (commits_in k.blocks) ++ stream_text k.tags) k.blocks k.tags (accepted k h shaped w saved small a)
