use Rattle.name_law.proofs.Kept.{refs-kept, names-kept}
use Rattle.name_law.proofs.Across.{names-back, refs-back}
use Rattle.name_law.proofs.names_go_across.Goals as goal

pub returns-clause-names : goal.returns-clause-names
returns-clause-names c = λ t names a n. names-back t a names n

pub returns-clause-refs : goal.returns-clause-refs
returns-clause-refs c = λ t names a n. refs-back t a names n

pub returns-clause-from_refs : goal.returns-clause-from_refs
returns-clause-from_refs c = λ t text names a e. names-back t a names (refs-kept t text names e)

pub returns-clause-from_names : goal.returns-clause-from_names
returns-clause-from_names c = λ t text names a e. refs-back t a names (names-kept t text names e)
