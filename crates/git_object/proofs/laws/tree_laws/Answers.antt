use Rattle.std.proofs.Common.{refl}
use Rattle.git_model.proofs.TreeTextLemmas.{tree_fault-text, tree_entries-text, one_tree}
use Rattle.git_object.proofs.laws.tree_laws.Goals as goal

pub returns-clause-one : goal.returns-clause-one
returns-clause-one c = one_tree

pub returns-clause-fits : goal.returns-clause-fits
returns-clause-fits c = tree_fault-text

pub returns-clause-written : goal.returns-clause-written
returns-clause-written c entries is = (is, refl)

pub returns-clause-entries : goal.returns-clause-entries
returns-clause-entries c = tree_entries-text
