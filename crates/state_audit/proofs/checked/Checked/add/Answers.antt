use Rattle.std.proofs.Common.{◌≡◌, ◌∙◌, ◌+◌, not, List, [], ◌∷◌, ◌++◌, ap, sym, subst, map, length, take, drop, arith}
use Rattle.std.specs.Prelude.{slice_get, if◌then◌else◌}
use Rattle.text_model.specs.Id.{Id, has_id}
use Rattle.hg_model.specs.Revision.{Revision}
use Rattle.view_model.specs.View.{changeset_node}
use Rattle.view_model.specs.Held.{AreChangesetsHeld}
use Rattle.view_model.specs.Dump.{revisions_in}
use Rattle.pair_model.specs.Block.{changesets_in}
use Rattle.pair_state.specs.Blocks.{BlockValue}
use Rattle.pair_state.specs.declared.blocks.Block.{Block}
use Rattle.state_audit.proofs.Turns.{own, block-at, own-below, own-nodes, own-held}
use Rattle.state_audit.proofs.Walks.{near-known, walked-more}
use Rattle.state_audit.proofs.checked.Checked.add.Goals as goal

pub part_of-nodes-requires : goal.part_of-nodes-requires
part_of-nodes-requires c =
    let s = c.args.state.now in
    let place = c.args.place in
    let p = c.requires.turn in
    let at = ap (λ (l : List Block). slice_get l place) (sym c.blocks-2.ensures) ∙ c.at-block.ensures in
    let links = ap (λ (v : BlockValue). v.links) (block-at s place c.args.self.now p.0 p.1 p.2 p.3 p.4 c.at-block.result.now at) in
    omega (arith, own-below s place c.args.self.now p.0 p.1 p.2 p.3 p.4, links, c.from-count.ensures, ap length (c.as_slice.ensures ∙ c.changesets.ensures))

pub add-requires-clause-held : goal.add-requires-clause-held
add-requires-clause-held c =
    let s = c.args.state.now in
    let place = c.args.place in
    let p = c.requires.turn in
    let b = p.2 in
    let at = ap (λ (l : List Block). slice_get l place) (sym c.blocks-2.ensures) ∙ c.at-block.ensures in
    let links = ap (λ (v : BlockValue). v.links) (block-at s place c.args.self.now p.0 p.1 b p.3 p.4 c.at-block.result.now at) in
    let nodes = c.part_of-nodes.ensures ∙ (λ i. take (c.from-count.result + 1) (drop c.args.self.now.changesets ((c.as_slice.ensures ∙ c.changesets.ensures) i)))
    ∙ own-nodes s place c.args.self.now p.0 p.1 b p.3 p.4 (c.from-count.result + 1) (omega (arith, c.from-count.ensures, links)) in
    let held = subst (λ (rs : List Revision). AreChangesetsHeld rs (map changeset_node (own b)) (own b)) (sym (ap (λ k. k.hg) c.known.ensures)) (own-held s place c.args.self.now p.0 p.1 b p.3 p.4) in
    (own b, subst (λ (ns : List Id). AreChangesetsHeld c.known.result.now.hg ns (own b)) (sym nodes) held)

pub add-requires-clause-near : goal.add-requires-clause-near
add-requires-clause-near c =
    let p = c.requires.turn in
    near-known c.args.state.now.known.hg c.known.result.now.hg (ap (λ k. k.hg) c.known.ensures) c.args.self.now.referred p.1 c.args.self.now.nodes (p.4.walked).referred (p.4.walked).nodes c.near_of-near.result c.near_of-near.ensures

pub returns : goal.returns
returns c = λ m front b rest t.
    let s = c.args.state.now in
    let place = c.args.place in
    let ck = c.args.self.now in
    let at = ap (λ (l : List Block). slice_get l place) (sym c.blocks-2.ensures) ∙ c.at-block.ensures in
    let value = block-at s place ck m front b rest t c.at-block.result.now at in
    let links = ap (λ (v : BlockValue). v.links) value in
    let node = ap (λ (v : BlockValue). v.node) value in
    let nodes = c.part_of-nodes.ensures ∙ (λ i. take (c.from-count.result + 1) (drop ck.changesets ((c.as_slice.ensures ∙ c.changesets.ensures) i)))
    ∙ own-nodes s place ck m front b rest t (c.from-count.result + 1) (omega (arith, c.from-count.ensures, links)) in
    let held = subst (λ (rs : List Revision). AreChangesetsHeld rs (map changeset_node (own b)) (own b)) (sym (ap (λ k. k.hg) c.known.ensures)) (own-held s place ck m front b rest t) in
    let there = subst (λ (ns : List Id). AreChangesetsHeld c.known.result.now.hg ns (own b)) (sym nodes) held in
    let refers = c.in_ok-add.ensures (own b) (revisions_in (changesets_in front)) there ((t.walked).referred).refers in
    let fresh = c.in_ok-insert.field-0 in
    let was = subst (λ (n : Id). fresh ≡ not (has_id ck.nodes n)) node c.in_ok-insert.ensures.new in
    let is = subst (λ (n : Id). c.insert.new.self ≡ (if fresh then ck.nodes ++ n ∷ [] else ck.nodes)) node c.in_ok-insert.ensures.ok in
    walked-more s place ck m front b rest t c.insert.new.self (ck.changesets + (c.from-count.result + 1)) c.add.new.self fresh (omega (arith, c.from-count.ensures, links)) was is refers
