use Rattle.std.proofs.Common.{List, Some, refl, subst}
use Rattle.text_model.specs.Lists.{Each}
use Rattle.hg_model.specs.Manifest.{ManifestEntry}
use Rattle.view_model.specs.Dump.{revisions_in}
use Rattle.pair_model.specs.Block.{changesets_in}
use Rattle.state_audit.specs.Seen.{IsLineSeen}
use Rattle.state_audit.proofs.SeenLemmas.{lines-seen}
use Rattle.state_audit.proofs.Walks.{near-known}
use Rattle.state_audit.proofs.seen.lines_near.Goals as goal

pub manifest_of-requires : goal.manifest_of-requires
manifest_of-requires c =
    let hg = c.args.hg.now in
    let ck = c.args.checked.now in
    let w = c.requires.walked.1 in
    let n = near-known hg hg refl ck.referred c.requires.walked.0 ck.nodes w.referred w.nodes (Some c.in-Some.node) c.in-Some.ensures in
    record { held = (n.0, n.1) }

pub returns-in-Some : goal.returns-in-Some
returns-in-Some c = λ front walked.
    let hg = c.args.hg.now in
    let ck = c.args.checked.now in
    let n = near-known hg hg refl ck.referred front ck.nodes walked.referred walked.nodes (Some c.in-Some.node) c.in-Some.ensures in
    subst (λ (es : List ManifestEntry). Each (IsLineSeen front) es) (c.manifest_of.ensures n.0 n.1) (lines-seen front (n.0).rows (n.2 (revisions_in (changesets_in front)) walked.referred.refers))
