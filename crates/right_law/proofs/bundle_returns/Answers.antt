use Rattle.std.proofs.Common.{refl}
use Rattle.state_model.specs.Kept.{kept_of}
use Rattle.right_law.proofs.Closed.{bundle_accepted, no_bundle_fault}
use Rattle.right_law.proofs.bundle_returns.Goals as goal

pub returns-clause-accepted : goal.returns-clause-accepted
returns-clause-accepted c = λ s h shaped small a. (bundle_accepted (kept_of s) shaped small a h, refl)

pub returns-clause-no_fault : goal.returns-clause-no_fault
returns-clause-no_fault c = λ s h shaped small a. no_bundle_fault (kept_of s) shaped small a h
