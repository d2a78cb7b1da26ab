use Rattle.std.proofs.Common.{◌≡◌, ◌+◌, ◌++◌, [], ◌∷◌, List, take, Some, refl, sym, ap, subst, ◌∙◌}
use Rattle.std.proofs.lemmas.Option.{slice_get-get_or}
use Rattle.text_model.specs.Id.{Id}
use Rattle.text_model.proofs.Elements.{take_push}
use Rattle.view_model.specs.Held.{AreChangesetsHeld}
use Rattle.hg_dump.proofs.HeldLemmas.{held-at, held-entries, held-has_view, held-push}
use Rattle.hg_store.specs.Views.{IsManifestOf}
use Rattle.hg_store.proofs.ViewLemmas.{null-has_none}
use Rattle.hg_view.proofs.Held.{view-is_held}
use Rattle.hg_dump.specs.Held.{AreLinesKnown}
use Rattle.hg_dump.proofs.HeldLines.{rows-known}
use Rattle.hg_dump.proofs.Walked.{walked-none, walked-put}
use Rattle.hg_dump.proofs.held.are_held.Goals as goal

pub loop-node-init : goal.loop-node-init
loop-node-init c = record {
  held = ([], tt);
  before = null-has_none c.args.store.now _ c.none-near.result refl c.none-near.ensures;
  near = subst (AreLinesKnown c.args.store.now) (sym c.none-near.ensures) tt;
  walked = walked-none c.args.store.now c.new-walked.result (AreLinesKnown c.args.store.now) c.new-walked.ensures;
}

pub lines_of-near-requires : goal.lines_of-near-requires
lines_of-near-requires c = record { held = view-is_held c.args.store.now c.in-Ok.ensures.known c.node-item.result c.in-Ok.view c.in-Ok.ensures.value }

pub loop-node-preserved : goal.loop-node-preserved
loop-node-preserved c =
    let known = c.args.store.now in
    let nodes = c.as_slice-node-items.result.now in
    let order = c.args.order.now in
    let node = c.node-item.result in
    let i = c.loop-node.node-index in
    let hs = c.loop-node.invariant.held in
    let one = view-is_held known c.in-Ok.ensures.known node c.in-Ok.view c.in-Ok.ensures.value in
    let next : take (i + 1) order ≡ take i order ++ node ∷ [] =
    ap (take (i + 1)) (sym c.as_slice-node-items.ensures) ∙ take_push nodes i node (slice_get-get_or nodes i node c.loop-node-test.true ∙ ap Some (sym c.node-item.is)) ∙ ap (λ (l : List Id). take i l ++ node ∷ []) c.as_slice-node-items.ensures in
    let is = c.in-Ok.ensures.value in
    let v = c.in-Ok.view in
    let own : IsManifestOf known _ _ = subst (λ (n : Id). IsManifestOf known n (v.manifest).now) is.manifest_node is.manifest in
    let entries = held-entries known c.in-Ok.ensures.known node one.0 one.1 v.p1 v.p2 _ (v.manifest).now is.changeset own in
    let all = rows-known known (one.0).rows one.1.files in
    record {
      held = (hs.0 ++ one.0 ∷ [], subst (λ (l : List Id). AreChangesetsHeld known l (hs.0 ++ one.0 ∷ [])) (sym next) (held-push known (take i order) hs.0 node one.0 hs.1 one.1));
      before = subst (IsManifestOf known v.manifest_node) (sym entries ∙ c.lines_of-near.ensures one.0 one.1) is.manifest;
      near = subst (AreLinesKnown known) (c.lines_of-near.ensures one.0 one.1) all;
      walked =
          walked-put known c.loop-node.walked (AreLinesKnown known) v.manifest_node (v.manifest).now c.insert.new.self c.in_ok-insert.field-0 c.in_ok-insert.ensures.ok c.loop-node.invariant.walked is.manifest
          (subst (AreLinesKnown known) entries all);
    }

pub returns-in_default-clause-all : goal.returns-in_default-clause-all
returns-in_default-clause-all c = λ hs are.
    let known = c.args.store.now in
    let node = c.node-item.result in
    let nodes-are = subst (λ (l : List Id). AreChangesetsHeld known l hs) (sym c.as_slice-node-items.ensures) are in
    let at = held-at known c.as_slice-node-items.result.now hs nodes-are c.loop-node.node-index node node c.loop-node-test.true c.node-item.is in
    absurd (held-has_view known c.in_default.ensures.known node at.view at.held c.in_default.field-0 c.in_default.ensures.value)
