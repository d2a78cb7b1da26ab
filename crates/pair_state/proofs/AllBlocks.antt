-- The history refers to each revision that a state knows, also when a block comes.
use Rattle.std.proofs.Common.{◌≡◌, ◌⊎◌, true, List, [], ◌∷◌, ◌++◌, map, inl, inr, refl, sym, ap, subst, ◌∙◌, append-nil}
use Rattle.std.specs.Prelude.{IsTrue}
use Rattle.std.proofs.lemmas.List.Concat.{flat_map-append}
use Rattle.text_model.specs.Lists.{Each, In}
use Rattle.text_model.specs.Id.{Id, has_id}
use Rattle.text_model.proofs.EachLemmas.{Each-weaker}
use Rattle.text_model.proofs.Elements.{each_from, each_in, in_left}
use Rattle.text_model.proofs.OrderLemmas.{has_id-In, In-has_id}
use Rattle.tree_shape.proofs.Elements.{in-append}
use Rattle.hg_model.specs.Revision.{Revision, knows, known_after_all}
use Rattle.hg_store.specs.Known.{AreAdded}
use Rattle.view_model.specs.View.{ChangesetView, changeset_node}
use Rattle.view_model.specs.Held.{IsChangesetHeld, AreChangesetsHeld}
use Rattle.view_model.specs.Dump.{revisions_in}
use Rattle.pair_model.specs.Block.{Block, changesets_in}
use Rattle.pair_known.proofs.HeldViews.{one_view}
use Rattle.pair_state.specs.AllBlocks.{HasAllBlocks, is_referred, stands_in}
use Rattle.pair_state.specs.Blocks.{IsStateOf}
use Rattle.pair_state.specs.Names.{with_names}
use Rattle.state_model.specs.Kept.{NameRow}
use Rattle.history_model.specs.Pull.{is_saved}
use Rattle.pair_state.specs.declared.state_parts.StateParts.{StateParts}
use Rattle.pair_state.proofs.BlockLemmas.{has-view, parts_of, nodes-append}
use Rattle.pair_state.proofs.CameLemmas.{all-in}
use Rattle.pair_state.proofs.PushChangeset.{block-saved}
use Rattle.pair_state.proofs.Refers.{knows-in, referred-more, referred-rest}

-- ---- the changesets of a state, however its blocks are told

-- the views of these nodes are one list
one-views : (known : List Revision) → AreAdded known → (vs ws : List ChangesetView) → map changeset_node vs ≡ map changeset_node ws
    → AreChangesetsHeld known (map changeset_node vs) vs → AreChangesetsHeld known (map changeset_node ws) ws → vs ≡ ws
one-views known added [] [] same a b = refl
one-views known added [] (w ∷ ws) same a b = absurd cc
one-views known added (v ∷ vs) [] same a b = absurd cc
one-views known added (v ∷ vs) (w ∷ ws) same a b =
    let first = one_view known added (changeset_node w) v w (subst (λ (n : Id). IsChangesetHeld known n v) (head same) a.0) b.0 in
    (λ i. first i ∷ one-views known added vs ws (tail same) a.1 b.1 i)
  where
    head : {x y : Id} {xs ys : List Id} → x ∷ xs ≡ y ∷ ys → x ≡ y
    head e = cc

    tail : {x y : Id} {xs ys : List Id} → x ∷ xs ≡ y ∷ ys → xs ≡ ys
    tail e = cc

pub one-history : (s : StateParts) (others blocks : List Block) → IsStateOf s others → IsStateOf s blocks → changesets_in others ≡ changesets_in blocks
one-history s others blocks a b =
    one-views s.known.hg a.held.added (changesets_in others) (changesets_in blocks) (sym a.changesets ∙ b.changesets) a.held.held.changesets b.held.held.changesets

-- ---- revisions to which the history refers

-- a state that knows no revision
pub none-known : (s : StateParts) → IsStateOf s [] → s.known.hg ≡ [] → HasAllBlocks s []
none-known s state none = record { state = state; saved = subst (Each (λ r. IsTrue (is_referred [] r))) (sym none) tt }

-- a state that has all its blocks has them however they are told
pub all-told : (s : StateParts) (others blocks : List Block) → HasAllBlocks s others → IsStateOf s blocks → HasAllBlocks s blocks
all-told s others blocks all state = record {
  state = state;
  saved = subst (λ (vs : List ChangesetView). Each (λ r. IsTrue (knows (revisions_in vs) r.group r.node)) s.known.hg) (one-history s others blocks all.state state) all.saved;
}

-- to which blocks refer, these and others behind them refer
pub referred-on : (blocks new : List Block) (r : Revision) → is_referred blocks r ≡ true → is_referred (blocks ++ new) r ≡ true
referred-on blocks new r h =
    ap (λ (vs : List ChangesetView). knows (revisions_in vs) r.group r.node) (flat_map-append parts_of blocks new) ∙ referred-more (changesets_in blocks) (changesets_in new) r.group r.node h

referred-new : (blocks new : List Block) (r : Revision) → In r (revisions_in (changesets_in new)) → is_referred (blocks ++ new) r ≡ true
referred-new blocks new r i =
    ap (λ (vs : List ChangesetView). knows (revisions_in vs) r.group r.node) (flat_map-append parts_of blocks new)
    ∙ referred-rest (changesets_in blocks) (changesets_in new) r.group r.node (knows-in (revisions_in (changesets_in new)) r i)

-- what holds of what was known and of what came holds of what is known then
pub each-after : (P : Revision → Type 0) (known rs : List Revision) → Each P known → Each P rs → Each P (known_after_all known rs)
each-after P known rs old new = each_from P (known_after_all known rs) (λ r i. by r (in-append r known rs (all-in known rs r i)))
  where
    by : (r : Revision) → In r known ⊎ In r rs → P r
    by r (inl i) = each_in P known r old i
    by r (inr i) = each_in P rs r new i

-- blocks came to a state that has all its blocks, and with them the revisions of their changesets
pub all-after : (s next : StateParts) (blocks new : List Block) → HasAllBlocks s blocks → IsStateOf next (blocks ++ new)
    → next.known.hg ≡ known_after_all s.known.hg (revisions_in (changesets_in new)) → HasAllBlocks next (blocks ++ new)
all-after s next blocks new all state revisions_are =
    let rs = revisions_in (changesets_in new) in
    record {
      state = state;
      saved = subst (Each (λ r. IsTrue (is_referred (blocks ++ new) r))) (sym revisions_are)
          (each-after (λ r. IsTrue (is_referred (blocks ++ new) r)) s.known.hg rs
          (Each-weaker (λ r. IsTrue (is_referred blocks r)) (λ r. IsTrue (is_referred (blocks ++ new) r)) (referred-on blocks new) s.known.hg all.saved)
          (each_from (λ r. IsTrue (is_referred (blocks ++ new) r)) rs (referred-new blocks new)));
    }

-- a block came, and the others may be told otherwise
pub all-pushed : (s next : StateParts) (others blocks : List Block) (b : Block) → HasAllBlocks s others → IsStateOf s blocks → IsStateOf next (blocks ++ b ∷ [])
    → next.known.hg ≡ known_after_all s.known.hg (revisions_in (parts_of b)) → HasAllBlocks next (blocks ++ b ∷ [])
all-pushed s next others blocks b all of state revisions_are =
    all-after s next blocks (b ∷ []) (all-told s others blocks all of) state
    (revisions_are ∙ ap (λ (vs : List ChangesetView). known_after_all s.known.hg (revisions_in vs)) (sym (append-nil (parts_of b))))

-- ---- one block, and some behind others

more-nodes : (nodes more : List Id) (node : Id) → has_id nodes node ≡ true → has_id (nodes ++ more) node ≡ true
more-nodes nodes more node h = In-has_id (nodes ++ more) node (in_left node nodes more (has_id-In nodes node h))

pub saved-stands : (blocks : List Block) (node : Id) → is_saved blocks node ≡ true → stands_in blocks node ≡ true
saved-stands blocks node h = sym (has-view (changesets_in blocks) node) ∙ block-saved blocks node h

pub stands-more : (blocks new : List Block) (node : Id) → stands_in blocks node ≡ true → stands_in (blocks ++ new) node ≡ true
stands-more blocks new node h =
    sym (has-view (changesets_in (blocks ++ new)) node) ∙ ap (λ (ns : List Id). has_id ns node) (nodes-append blocks new)
    ∙ more-nodes (map changeset_node (changesets_in blocks)) (map changeset_node (changesets_in new)) node (has-view (changesets_in blocks) node ∙ h)

-- other names change nothing of the history
pub named-all : (s : StateParts) (names : List NameRow) (blocks : List Block) → HasAllBlocks s blocks → HasAllBlocks (with_names s names) blocks
named-all s names blocks h = record {
  state = record {
    held = (h.state).held;
    sound = (h.state).sound;
    blocks_are = (h.state).blocks_are;
    changesets = (h.state).changesets;
    commits = (h.state).commits;
    agreed = (h.state).agreed;
  };
  saved = h.saved;
}
