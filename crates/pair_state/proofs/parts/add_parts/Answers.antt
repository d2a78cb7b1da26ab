use Rattle.std.proofs.Common.{◌≡◌, ◌+◌, Err, List, length, arith, sym, ap, subst, ◌∙◌}
use Rattle.std.proofs.lemmas.Result.{err_from_is_err_and}
use Rattle.text_model.specs.Id.{Id}
use Rattle.pair_state.proofs.GrowthLemmas.{errs}
use Rattle.pair_state.proofs.PartLemmas.{no-texts, LinksSo, links-none, link, link-over, links-more, link-collides, links-length, links-nodes, last-over, all-came, last-collides, item-at}
use Rattle.pair_state.proofs.parts.add_parts.Goals as goal

pub loop-link-init : goal.loop-link-init
loop-link-init c = λ blocks ls h a.
    subst (λ (nodes : List Id). LinksSo c.args.hg.now c.args.hg.now c.args.saved.now nodes blocks ls h 0) (sym c.new-links.ensures) (links-none c.args.hg.now c.args.saved.now c.args.block.now blocks ls h a)

pub add_part-requires : goal.add_part-requires
add_part-requires c =
    let d = c.args.block.now in
    let blocks = c.requires.parts.0 in
    let ls = c.requires.parts.1 in
    let h = c.requires.parts.2 in
    let a = c.requires.parts.3 in
    let l = c.loop-link in
    let at = item-at d.links c.as_slice-list.result.now l.link-index c.link-item.result c.as_slice-list.ensures c.loop-link-test.true c.link-item.is in
    let x = link c.args.hg.now l.hg c.args.saved.now l.links d blocks ls h l.link-index a (l.invariant blocks ls h a) c.link-item.result at in
    record {
      part = (c.args.hg.now, x.view, link-over c.args.hg.now l.hg c.args.saved.now l.links d blocks ls h l.link-index a (l.invariant blocks ls h a) c.link-item.result at);
      texts = no-texts c.link-item.result c.none.result c.none.ensures.changeset c.none.ensures.manifest;
    }

pub returns-in_err-node-clause-collision : goal.returns-in_err-node-clause-collision
returns-in_err-node-clause-collision c = λ is blocks ls h a.
    let d = c.args.block.now in
    let l = c.loop-link in
    let at = item-at d.links c.as_slice-list.result.now l.link-index c.link-item.result c.as_slice-list.ensures c.loop-link-test.true c.link-item.is in
    let so = l.invariant blocks ls h a in
    let x = link c.args.hg.now l.hg c.args.saved.now l.links d blocks ls h l.link-index a so c.link-item.result at in
    let q = err_from_is_err_and c.from_residual.result c.from_residual.ensures.1 in
    link-collides c.args.hg.now l.hg c.args.saved.now l.links d blocks ls h l.link-index a so c.link-item.result at
    (c.in_err-node.ensures.collision (errs _ _ (ap Err (sym q.2) ∙ sym q.1 ∙ is)) c.args.hg.now x.view (link-over c.args.hg.now l.hg c.args.saved.now l.links d blocks ls h l.link-index a so c.link-item.result at))

pub loop-link-preserved : goal.loop-link-preserved
loop-link-preserved c = λ blocks ls h a.
    let d = c.args.block.now in
    let l = c.loop-link in
    let at = item-at d.links c.as_slice-list.result.now l.link-index c.link-item.result c.as_slice-list.ensures c.loop-link-test.true c.link-item.is in
    let so = l.invariant blocks ls h a in
    let x = link c.args.hg.now l.hg c.args.saved.now l.links d blocks ls h l.link-index a so c.link-item.result at in
    let over = link-over c.args.hg.now l.hg c.args.saved.now l.links d blocks ls h l.link-index a so c.link-item.result at in
    subst (λ (nodes : List Id). LinksSo c.args.hg.now c.add_part.new.hg c.args.saved.now nodes blocks ls h (l.link-index + 1)) (sym c.in_ok-push.ensures.ok)
    (links-more c.args.hg.now l.hg c.args.saved.now l.links d blocks ls h l.link-index a so c.link-item.result at c.add_part.new.hg c.in_ok-node.node
    (c.in_ok-node.ensures.node c.args.hg.now x.view over) (c.in_ok-node.ensures.came c.args.hg.now x.view over))

pub add_part-requires-2 : goal.add_part-requires-2
add_part-requires-2 c =
    let d = c.args.block.now in
    let blocks = c.requires.parts.0 in
    let ls = c.requires.parts.1 in
    let h = c.requires.parts.2 in
    let a = c.requires.parts.3 in
    let l = c.loop-link in
    let all : length ls ≡ l.link-index = omega (arith, links-length c.args.hg.now d.links ls a.links, ap length c.as_slice-list.ensures, c.loop-link-test.false, l.auto.link-index-end) in
    record { part = (c.args.hg.now, h, last-over c.args.hg.now l.hg c.args.saved.now l.links d blocks ls h l.link-index a (l.invariant blocks ls h a) all); texts = c.requires.texts }

pub returns-in_err-last-clause-collision : goal.returns-in_err-last-clause-collision
returns-in_err-last-clause-collision c = λ is blocks ls h a.
    let d = c.args.block.now in
    let l = c.loop-link in
    let so = l.invariant blocks ls h a in
    let all : length ls ≡ l.link-index = omega (arith, links-length c.args.hg.now d.links ls a.links, ap length c.as_slice-list.ensures, c.loop-link-test.false, l.auto.link-index-end) in
    let q = err_from_is_err_and c.from_residual-in_err-last.result c.from_residual-in_err-last.ensures.1 in
    last-collides c.args.hg.now l.hg c.args.saved.now l.links d blocks ls h l.link-index a so all
    (c.in_err-last.ensures.collision (errs _ _ (ap Err (sym q.2) ∙ sym q.1 ∙ is)) c.args.hg.now h (last-over c.args.hg.now l.hg c.args.saved.now l.links d blocks ls h l.link-index a so all))

pub returns-clause-links : goal.returns-clause-links
returns-clause-links c = λ blocks ls h a.
    let d = c.args.block.now in
    let l = c.loop-link in
    let all : length ls ≡ l.link-index = omega (arith, links-length c.args.hg.now d.links ls a.links, ap length c.as_slice-list.ensures, c.loop-link-test.false, l.auto.link-index-end) in
    links-nodes c.args.hg.now l.hg c.args.saved.now l.links d blocks ls h l.link-index a (l.invariant blocks ls h a) all

pub returns-clause-last : goal.returns-clause-last
returns-clause-last c = λ blocks ls h a.
    let d = c.args.block.now in
    let l = c.loop-link in
    let so = l.invariant blocks ls h a in
    let all : length ls ≡ l.link-index = omega (arith, links-length c.args.hg.now d.links ls a.links, ap length c.as_slice-list.ensures, c.loop-link-test.false, l.auto.link-index-end) in
    c.in_ok-last.ensures.node c.args.hg.now h (last-over c.args.hg.now l.hg c.args.saved.now l.links d blocks ls h l.link-index a so all)

pub returns-clause-came : goal.returns-clause-came
returns-clause-came c = λ blocks ls h a.
    let d = c.args.block.now in
    let l = c.loop-link in
    let so = l.invariant blocks ls h a in
    let all : length ls ≡ l.link-index = omega (arith, links-length c.args.hg.now d.links ls a.links, ap length c.as_slice-list.ensures, c.loop-link-test.false, l.auto.link-index-end) in
    all-came c.args.hg.now l.hg c.args.saved.now l.links d blocks ls h l.link-index a so all c.add_part-2.new.hg
    (c.in_ok-last.ensures.came c.args.hg.now h (last-over c.args.hg.now l.hg c.args.saved.now l.links d blocks ls h l.link-index a so all))
