use Rattle.name_law.proofs.Kept.{refs-kept, names-kept}
use Rattle.name_law.proofs.names_are_kept.Goals as goal

pub returns-clause-refs : goal.returns-clause-refs
returns-clause-refs c = refs-kept

pub returns-clause-names : goal.returns-clause-names
returns-clause-names c = names-kept
