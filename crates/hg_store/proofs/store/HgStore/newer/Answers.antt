use Rattle.std.proofs.Common.{◌≡◌, sym, subst, ◌∙◌}
use Rattle.std.proofs.lemmas.Slice.Eq.{bytes_eq-Decides}
use Rattle.hg_model.specs.Revision.{Manifests}
use Rattle.hg_store.specs.Groups.{HasValue, IsNewerIn}
use Rattle.text_model.proofs.Options.{not_false}
use Rattle.hg_store.proofs.NewerLemmas.{newer-of}
use Rattle.hg_store.proofs.store.HgStore.newer.Goals as goal

pub returns-in-Manifest : goal.returns-in-Manifest
returns-in-Manifest c =
    let held = c.in_ok-held.held.now in
    let first : held.p ≡ c.args.other.now = (bytes_eq-Decides held.p c.args.other.now).0 (not_false _ (sym c.ne.ensures ∙ c.if-ne.false)) in
    newer-of c.args.self.now c.args.node.now c.args.other.now held c.in-Manifest.field-0 c.in-Manifest.newer c.get.ensures.known (sym c.in_ok-held.ensures.revision)
    (subst (HasValue Manifests held.text) c.in-Manifest.is c.in_ok-held.ensures.value) (subst (IsNewerIn c.args.self.now held.p) c.in-Manifest.is c.in_ok-held.ensures.newer) first
