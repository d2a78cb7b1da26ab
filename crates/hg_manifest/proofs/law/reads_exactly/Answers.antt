use Rattle.hg_model.proofs.ManifestLemmas.{one_manifest, manifest_fault-text, some_manifest}
use Rattle.hg_manifest.proofs.law.reads_exactly.Goals as goal

pub returns-clause-one : goal.returns-clause-one
returns-clause-one c = one_manifest

pub returns-clause-no_fault : goal.returns-clause-no_fault
returns-clause-no_fault c = manifest_fault-text

pub returns-clause-some : goal.returns-clause-some
returns-clause-some c = some_manifest
