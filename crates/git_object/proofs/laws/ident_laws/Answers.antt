use Rattle.git_model.proofs.IdentLemmas.{ident_of-takes, ident_of-text}
use Rattle.std.proofs.Common.{ap, ◌∙◌}
use Rattle.git_model.specs.Commit.{ident_of}
use Rattle.git_object.proofs.laws.ident_laws.Goals as goal

pub returns-clause-takes : goal.returns-clause-takes
returns-clause-takes c = ident_of-takes

pub returns-clause-again : goal.returns-clause-again
returns-clause-again c line ident is = ap ident_of is.1 ∙ ident_of-text ident is.0
