use Rattle.partner_model.specs.Partner.{IsHeldView}
use Rattle.depth_law.proofs.Depths.{depth_one}
use Rattle.depth_law.proofs.depth_is_one.Goals as goal

pub returns : goal.returns
returns c = λ blocks known. depth_one blocks (IsHeldView known)
