use Rattle.std.proofs.Common.{ap}
use Rattle.hg_model.specs.Revision.{manifest_name}
use Rattle.hg_model.proofs.ManifestLemmas.{manifest_fault-text}
use Rattle.hg_store.proofs.parse.parse_manifest.Goals as goal

pub returns-in-Ok-clause-shape : goal.returns-in-Ok-clause-shape
returns-in-Ok-clause-shape c = ap manifest_name (manifest_fault-text c.args.text.now c.in-Ok.manifest c.in-Ok.ensures.manifest)
