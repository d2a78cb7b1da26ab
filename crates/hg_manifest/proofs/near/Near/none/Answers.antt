use Rattle.std.proofs.Common.{sym, refl}
use Rattle.hg_model.proofs.ManifestLemmas.{manifest_text-none}
use Rattle.hg_manifest.proofs.near.Near.none.Goals as goal

pub invariant_of-result : goal.invariant_of-result
invariant_of-result c = ((tt, refl), sym manifest_text-none)
