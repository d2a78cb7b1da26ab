use Rattle.pair_model.proofs.ZoneLemmas.{is_zone-of, tz_of_zone-of}
use Rattle.name_rule.proofs.laws.zone_laws.Goals as goal

pub returns-clause-zone : goal.returns-clause-zone
returns-clause-zone c = is_zone-of

pub returns-clause-again : goal.returns-clause-again
returns-clause-again c = tz_of_zone-of
