use Rattle.hg_model.proofs.DateLemmas.{date_of-is, date_of-text}
use Rattle.hg_changeset.proofs.laws.date_laws.Goals as goal

pub returns-clause-is : goal.returns-clause-is
returns-clause-is c = date_of-is

pub returns-clause-one : goal.returns-clause-one
returns-clause-one c = date_of-text
