use Rattle.std.proofs.Common.{refl}
use Rattle.git_model.proofs.CommitLemmas.{commit_fault-text, parent_ids-text}
use Rattle.git_model.proofs.OneTextLemmas.{one_commit}
use Rattle.git_object.proofs.laws.commit_laws.Goals as goal

pub returns-clause-one : goal.returns-clause-one
returns-clause-one c = one_commit

pub returns-clause-fits : goal.returns-clause-fits
returns-clause-fits c = commit_fault-text

pub returns-clause-written : goal.returns-clause-written
returns-clause-written c commit is = (is, refl)

pub returns-clause-parents : goal.returns-clause-parents
returns-clause-parents c = parent_ids-text
