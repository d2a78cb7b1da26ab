use Rattle.name_law.proofs.Across.{names-one, refs-one}
use Rattle.name_law.proofs.names_are_one.Goals as goal

pub returns-clause-names : goal.returns-clause-names
returns-clause-names c = λ t xs ys a x y e. names-one t a xs ys x y e

pub returns-clause-refs : goal.returns-clause-refs
returns-clause-refs c = λ t xs ys a x y e. refs-one t a xs ys x y e
