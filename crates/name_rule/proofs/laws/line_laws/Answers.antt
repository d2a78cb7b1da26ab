use Rattle.pair_model.proofs.AddressLemmas.{address_of-named}
use Rattle.pair_model.proofs.UserLemmas.{line-one_line}
use Rattle.name_rule.proofs.laws.line_laws.Goals as goal

pub returns-clause-named : goal.returns-clause-named
returns-clause-named c = address_of-named

pub returns-clause-one_line : goal.returns-clause-one_line
returns-clause-one_line c = line-one_line
