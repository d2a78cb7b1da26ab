use Rattle.std.proofs.Common.{◌+◌, ◌==◌, ℕ, List, [], ◌∷◌, ◌++◌, sym, ap, subst, ◌∙◌, arith}
use Rattle.std.proofs.lemmas.Bool.{le-ltb, lt-ltb, ne_eqb}
use Rattle.state_text.specs.declared.heads.Head.{Head}
use Rattle.state_text.proofs.HeadLemmas.{IsSoFar, placed, after-head, after-link, after-many, all-heads, all-lead}
use Rattle.state_text.proofs.heads.heads_among.Goals as goal
use Rattle.state_text.proofs.heads.heads_among.Goals.{then-not-is_link_of+in_ok-push, else-not-is_link_of+then-links-lt-LINK_LIMIT}

pub is_link_of-requires : goal.is_link_of-requires
is_link_of-requires c =
    let at = placed c.args.store.now c.args.nodes.now c.requires.held.0 c.loop-node.node-index c.node-item.result c.requires.held.1 c.loop-node-test.true c.node-item.is in
    record { held = (at.view, at.held) }

pub returns-else-links-lt-LINK_LIMIT : goal.returns-else-links-lt-LINK_LIMIT
returns-else-links-lt-LINK_LIMIT c =
    after-many c.args.store.now c.args.nodes.now c.loop-node.heads c.loop-node.links c.loop-node.node-index c.node-item.result c.loop-node.invariant.so_far c.loop-node-test.true c.node-item.is
    c.is_link_of.result c.is_link_of.ensures c.if-not-is_link_of.false (le-ltb c.loop-node.links 62 c.if-links-lt-LINK_LIMIT.false)

pub loop-node-preserved : goal.loop-node-preserved
loop-node-preserved c =
    let store = c.args.store.now in
    let nodes = c.args.nodes.now in
    let heads = c.loop-node.heads in
    let n = c.loop-node.links in
    let i = c.loop-node.node-index in
    let node = c.node-item.result in
    let so_far = c.loop-node.invariant.so_far in
    elim c.if-not-is_link_of.branch [
      | then-not-is_link_of+in_ok-push w ↦
          let all : List Head = heads ++ record { node = node; links = n } ∷ [] in
          record {
            so_far = subst (λ (l : List Head). IsSoFar store nodes l c.if-not-is_link_of.links (i + 1)) (sym (w.heads-is ∙ w.in_ok-push.ensures.ok))
                (subst (λ (k : ℕ). IsSoFar store nodes all k (i + 1)) (sym w.links-is)
                (after-head store nodes heads n i node so_far c.loop-node-test.true c.node-item.is c.is_link_of.result c.is_link_of.ensures w.if-not-is_link_of.true));
            few = omega (arith, w.links-is);
          }
      | else-not-is_link_of+then-links-lt-LINK_LIMIT w ↦ record {
        so_far = subst (λ (l : List Head). IsSoFar store nodes l c.if-not-is_link_of.links (i + 1)) (sym w.heads-is)
            (subst (λ (k : ℕ). IsSoFar store nodes heads k (i + 1)) (sym w.links-is)
            (after-link store nodes heads n i node so_far c.loop-node-test.true c.node-item.is c.is_link_of.result c.is_link_of.ensures w.if-not-is_link_of.false
            (lt-ltb n 62 w.if-links-lt-LINK_LIMIT.true)));
        few = omega (arith, w.links-is, w.if-links-lt-LINK_LIMIT.true);
      }
    ]

pub returns-then-links-eq0 : goal.returns-then-links-eq0
returns-then-links-eq0 c = λ hs held. (
  all-lead c.args.store.now c.args.nodes.now c.loop-node.heads c.loop-node.links c.loop-node.node-index c.loop-node.invariant.so_far c.loop-node-test.false hs held
      ∙ ap (λ (k : ℕ). k == 0) c.if-links-eq0.true,
  all-heads c.args.store.now c.args.nodes.now c.loop-node.heads c.loop-node.links c.loop-node.node-index c.loop-node.invariant.so_far c.loop-node-test.false hs held,
)

pub returns-else-links-eq0 : goal.returns-else-links-eq0
returns-else-links-eq0 c = λ hs held.
    all-lead c.args.store.now c.args.nodes.now c.loop-node.heads c.loop-node.links c.loop-node.node-index c.loop-node.invariant.so_far c.loop-node-test.false hs held
    ∙ ne_eqb c.loop-node.links 0 (λ e. absurd (omega (arith, e, c.if-links-eq0.false)))
