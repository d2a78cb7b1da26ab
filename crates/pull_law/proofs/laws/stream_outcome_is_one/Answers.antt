use Rattle.pull_law.proofs.Stream.{outputs, refusals, not-both}
use Rattle.pull_law.proofs.laws.stream_outcome_is_one.Goals as goal

pub returns-clause-outputs : goal.returns-clause-outputs
returns-clause-outputs c = outputs

pub returns-clause-refusals : goal.returns-clause-refusals
returns-clause-refusals c = refusals

pub returns-clause-not_both : goal.returns-clause-not_both
returns-clause-not_both c = not-both
