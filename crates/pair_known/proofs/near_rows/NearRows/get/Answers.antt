use Rattle.std.proofs.Common.{subst}
use Rattle.text_model.specs.Lists.{In}
use Rattle.pair_known.proofs.NearLemmas.{in_at}
use Rattle.pair_known.proofs.near_rows.NearRows.get.Goals as goal

pub returns-clause-among : goal.returns-clause-among
returns-clause-among c = subst (In c.in_ok-row.row.now) c.self.view_is (in_at c.self.inside.rows.now c.place_from-self-inside.result c.in_ok-row.row.now c.in_ok-row.ensures.lookup.3.0 c.in_ok-row.ensures.lookup.1)
