use Rattle.std.proofs.Common.{length, ◌-◌}
use Rattle.pair_known.proofs.near_rows.place_from.Given as goal

abbrev pub decreases-rows : goal.decreases-rows
decreases-rows l = length l.rows - l.place
