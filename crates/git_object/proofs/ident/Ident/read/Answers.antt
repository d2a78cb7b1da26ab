use Rattle.git_object.proofs.IdentSteps.{found}
use Rattle.git_object.proofs.ident.Ident.read.Goals as goal

pub returns-clause-found : goal.returns-clause-found
returns-clause-found c = found _ _ c.ident_in.ensures
