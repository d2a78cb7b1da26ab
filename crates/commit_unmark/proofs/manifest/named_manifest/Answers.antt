use Rattle.std.proofs.Common.{subst}
use Rattle.view_model.specs.View.{ManifestParents, AreManifestParents}
use Rattle.commit_unmark.proofs.manifest.named_manifest.Goals as goal

pub returns-then-is_manifest : goal.returns-then-is_manifest
returns-then-is_manifest c = λ ps rows over.
    let made = c.in_ok-made.ensures ps rows over in
    (made, subst (λ (m : ManifestParents). AreManifestParents m rows) made.is ((c.is_manifest.ensures rows over.of_rows).0 c.if-is_manifest.true))
