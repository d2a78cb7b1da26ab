use Rattle.partner_model.specs.Partner.{IsHeldView}
use Rattle.frame_law.proofs.Kept.{block_for_down, block_for_up, deep_down, deep_up, collision_down, collision_up}
use Rattle.frame_law.proofs.Depths.{depth_down, depth_up}
use Rattle.frame_law.proofs.block_is_kept.Goals as goal

pub returns-clause-longer : goal.returns-clause-longer
returns-clause-longer c = λ blocks others known more g h a. block_for_down blocks (IsHeldView known) others (IsHeldView more) (record { first = g; second = h; among = a })

pub returns-clause-shorter : goal.returns-clause-shorter
returns-clause-shorter c = λ blocks others known more g h a. block_for_up blocks (IsHeldView known) others (IsHeldView more) (record { first = g; second = h; among = a })

pub returns-clause-depth : goal.returns-clause-depth
returns-clause-depth c = λ blocks others known more g h a m n p. (depth_down blocks (IsHeldView known) others (IsHeldView more) (record { first = g; second = h; among = a }) n m p, depth_up blocks (IsHeldView known) others (IsHeldView more) (record { first = g; second = h; among = a }) n m p)

pub returns-clause-deep : goal.returns-clause-deep
returns-clause-deep c = λ blocks others known more g h a m p. (deep_down blocks (IsHeldView known) others (IsHeldView more) (record { first = g; second = h; among = a }) m p, deep_up blocks (IsHeldView known) others (IsHeldView more) (record { first = g; second = h; among = a }) m p)

pub returns-clause-collision : goal.returns-clause-collision
returns-clause-collision c = λ blocks others known more g h a objects m p. (collision_down blocks (IsHeldView known) others (IsHeldView more) (record { first = g; second = h; among = a }) objects m p, collision_up blocks (IsHeldView known) others (IsHeldView more) (record { first = g; second = h; among = a }) objects m p)
