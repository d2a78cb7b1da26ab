use Rattle.std.proofs.Common.{sym, ap, subst, ◌∙◌}
use Rattle.text_model.specs.Id.{Id}
use Rattle.hg_store.specs.Views.{IsManifestOf}
use Rattle.hg_dump.specs.Marks.{view_marks}
use Rattle.hg_dump.proofs.HeldLemmas.{held-marks, held-entries, held-names_manifest}
use Rattle.hg_dump.proofs.brought.named_lines.Goals as goal

pub unreachable-requires : goal.unreachable-requires
unreachable-requires c =
    held-names_manifest c.args.store.now c.in-None.ensures.known c.args.node.now c.requires.held.0 c.requires.held.1 c.in-None.ensures.value

pub returns-clause-marks : goal.returns-clause-marks
returns-clause-marks c = λ h held.
    let known = c.args.store.now in
    let node = c.args.node.now in
    let es = c.in-Some.found.1 in
    let is = c.in-Some.ensures.value in
    held-marks known c.in-Some.ensures.known node h held is.p is.q is.fields es is.changeset (subst (λ (n : Id). IsManifestOf known n es) is.named is.is_manifest)
    ∙ ap (λ (n : Id). view_marks node n es) (sym is.named)

pub returns-clause-lines : goal.returns-clause-lines
returns-clause-lines c = λ h held.
    let known = c.args.store.now in
    let es = c.in-Some.found.1 in
    let is = c.in-Some.ensures.value in
    held-entries known c.in-Some.ensures.known c.args.node.now h held is.p is.q is.fields es is.changeset (subst (λ (n : Id). IsManifestOf known n es) is.named is.is_manifest)
