use Rattle.pair_model.proofs.UserLemmas.{user-some, user-one_line, time-within, tz-within}
use Rattle.name_rule.proofs.laws.user_laws.Goals as goal

pub returns-clause-some : goal.returns-clause-some
returns-clause-some c = user-some

pub returns-clause-one_line : goal.returns-clause-one_line
returns-clause-one_line c = user-one_line

pub returns-clause-time : goal.returns-clause-time
returns-clause-time c = time-within

pub returns-clause-zone : goal.returns-clause-zone
returns-clause-zone c = tz-within
