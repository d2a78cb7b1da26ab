use Rattle.std.proofs.Common.{[], refl}
use Rattle.pull_law.proofs.Known.{own-added}
use Rattle.pull_law.proofs.Bundle.{outputs, refusals, not-both}
use Rattle.pull_law.proofs.laws.bundle_outcome_is_one.Goals as goal

pub returns-clause-empty : goal.returns-clause-empty
returns-clause-empty c = record { revisions = tt; objects = tt; blocks = record { nodes = refl; ids = refl; there = tt; rows = tt } }

pub returns-clause-stored : goal.returns-clause-stored
returns-clause-stored c s added are table = record { revisions = own-added [] s.revisions added; objects = are.ids; blocks = table }

pub returns-clause-outputs : goal.returns-clause-outputs
returns-clause-outputs c = outputs

pub returns-clause-refusals : goal.returns-clause-refusals
returns-clause-refusals c = refusals

pub returns-clause-not_both : goal.returns-clause-not_both
returns-clause-not_both c = not-both
