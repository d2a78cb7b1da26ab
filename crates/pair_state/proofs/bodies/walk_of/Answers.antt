use Rattle.std.proofs.Common.{subst, sym, ◌∙◌}
use Rattle.text_model.specs.Id.{Id}
use Rattle.hg_store.specs.Views.{IsManifestOf}
use Rattle.pair_state.specs.Step.{AreBlobs}
use Rattle.hg_dump.proofs.HeldLemmas.{held-entries}
use Rattle.pair_state.proofs.bodies.walk_of.Goals as goal

pub returns-in-Some : goal.returns-in-Some
returns-in-Some c = λ git agreed.
    let hg = c.args.hg.now in
    let es = c.in-Some.manifest.now in
    let is = c.in-Some.ensures.value in
    let named = subst (λ (n : Id). IsManifestOf hg n es) is.named is.is_manifest in
    subst (AreBlobs hg git) (sym c.new.ensures) (agreed c.args.parent.now (sym c.contains.ensures ∙ c.if-not-contains.false) es
    (λ w held. held-entries hg c.in-Some.ensures.known c.args.parent.now w held is.p is.q is.fields es is.changeset named))
