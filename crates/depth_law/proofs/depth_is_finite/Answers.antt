use Rattle.partner_model.specs.Partner.{IsHeldView}
use Rattle.depth_law.proofs.Falls.{falls}
use Rattle.depth_law.proofs.Depths.{depth_bounded, has_depth}
use Rattle.depth_law.proofs.depth_is_finite.Goals as goal

pub returns-clause-falls : goal.returns-clause-falls
returns-clause-falls c = λ blocks known. falls blocks (IsHeldView known)

pub returns-clause-bounded : goal.returns-clause-bounded
returns-clause-bounded c = λ blocks known. depth_bounded blocks (IsHeldView known)

pub returns-clause-there : goal.returns-clause-there
returns-clause-there c = λ blocks known. has_depth blocks (IsHeldView known)
