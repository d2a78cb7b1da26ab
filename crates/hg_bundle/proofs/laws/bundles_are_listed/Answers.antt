use Rattle.hg_model.proofs.BundleLemmas.{listed_bundle}
use Rattle.hg_model.proofs.ListingLemmas.{bundle_listed}
use Rattle.hg_bundle.proofs.laws.bundles_are_listed.Goals as goal

pub returns-clause-complete : goal.returns-clause-complete
returns-clause-complete c = bundle_listed

pub returns-clause-sound : goal.returns-clause-sound
returns-clause-sound c = listed_bundle
