use Rattle.std.proofs.Common.{length, ◌-◌}
use Rattle.commit_rule.proofs.near_blobs.place_from.Given as goal

abbrev pub decreases-rows : goal.decreases-rows
decreases-rows l = length l.rows - l.place
