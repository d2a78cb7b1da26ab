use Rattle.dump_law.proofs.Names.{targets-saved, names-saved}
use Rattle.dump_law.proofs.saved_names_are_kept.Goals as goal

pub returns-clause-targets : goal.returns-clause-targets
returns-clause-targets c = targets-saved

pub returns-clause-names : goal.returns-clause-names
returns-clause-names c = names-saved
