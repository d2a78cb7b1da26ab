-- The next block of a saved state behind those that were found right: where its parts stand in the state, and that they are held.
use Rattle.std.proofs.Common.{◌≡◌, ◌≤◌, ◌<◌, ◌+◌, ℕ, false, List, [], ◌∷◌, ◌++◌, length, map, take, drop, Some, None, refl, sym, ap, subst, ◌∙◌, inl, inr, arith, append_assoc}
use Rattle.std.specs.Prelude.{slice_get}
use Rattle.std.proofs.lemmas.List.{length-map, length-append}
use Rattle.text_model.specs.Lists.{In}
use Rattle.text_model.specs.Id.{Id}
use Rattle.text_model.proofs.Elements.{each_in, in_map, in_right, map_append, flat_map_append, take_front, drop_front, get_unmap}
use Rattle.text_model.proofs.Options.{some_is}
use Rattle.hg_model.specs.Revision.{Revision}
use Rattle.git_model.specs.Object.{Object}
use Rattle.git_model.specs.Unfold.{walk_fault}
use Rattle.view_model.specs.View.{ChangesetView, IsCommitView, changeset_node, commit_id}
use Rattle.view_model.specs.Held.{IsChangesetHeld, IsCommitHeld, AreChangesetsHeld, AreCommitsHeld}
use Rattle.pair_model.specs.Block.{Block, node_of, id_of, changesets_in, commits_in}
use Rattle.pair_model.specs.Octopus.{is_link_view}
use Rattle.state_model.specs.Kept.{State}
use Rattle.next_law.proofs.Known.{saved-of}
use Rattle.pair_known.specs.Blocks.{IsHistoryHeld}
use Rattle.pair_state.specs.declared.blocks.Block as pair
use Rattle.pair_state.specs.declared.state_parts.StateParts.{StateParts}
use Rattle.pair_state.specs.Blocks.{BlockValue, value_of, block_value, IsStateOf}
use Rattle.state_audit.specs.declared.checked.Checked.{Checked}
use Rattle.state_audit.specs.Before.{IsBefore}
use Rattle.state_audit.specs.Audited.{IsTurn}
use Rattle.state_audit.proofs.Grounds.{before}

-- ---- one of what is held

commit-in : (git : List Object) (bs : List Block) → AreCommitsHeld git (map commit_id (commits_in bs)) (commits_in bs) → (b : Block) → In b bs → IsCommitHeld git (id_of b) b.commit
commit-in git [] held b i = absurd i
commit-in git (x ∷ bs) held b (inl e) = subst (λ (y : Block). IsCommitHeld git (id_of y) y.commit) (sym e) held.0
commit-in git (x ∷ bs) held b (inr j) = commit-in git bs held.1 b j

held-part : (hg : List Revision) (xs ys zs : List ChangesetView) → AreChangesetsHeld hg (map changeset_node (xs ++ (ys ++ zs))) (xs ++ (ys ++ zs)) → AreChangesetsHeld hg (map changeset_node ys) ys
held-part hg (x ∷ xs) ys zs h = held-part hg xs ys zs h.1
held-part hg [] [] zs h = tt
held-part hg [] (y ∷ ys) zs h = (h.0, held-part hg [] ys zs h.1)

held-last : (hg : List Revision) (xs : List ChangesetView) (y : ChangesetView) → AreChangesetsHeld hg (map changeset_node (xs ++ y ∷ [])) (xs ++ y ∷ []) → IsChangesetHeld hg (changeset_node y) y
held-last hg [] y h = h.0
held-last hg (x ∷ xs) y h = held-last hg xs y h.1

pub held-first : (hg : List Revision) (xs ys : List ChangesetView) → AreChangesetsHeld hg (map changeset_node (xs ++ ys)) (xs ++ ys) → AreChangesetsHeld hg (map changeset_node xs) xs
held-first hg [] ys h = tt
held-first hg (x ∷ xs) ys h = (h.0, held-first hg xs ys h.1)

get-behind : {X : Type 0} (xs ys : List X) (x : X) → slice_get (xs ++ x ∷ ys) (length xs) ≡ Some x
get-behind [] ys x = refl
get-behind (y ∷ xs) ys x = get-behind xs ys x

below-end : {X : Type 0} (xs ys : List X) (x : X) → length xs < length (xs ++ x ∷ ys)
below-end xs ys x = omega (arith, length-append xs (x ∷ ys))

-- the parts of a block, in their order
abbrev pub own : Block → List ChangesetView
own b = b.links ++ b.changeset ∷ []

module _ (s : StateParts) (place : ℕ) (c : Checked) (m : State) (front : List Block) (b : Block) (rest : List Block) (t : IsTurn s place c m front b rest) where
  pub state : IsStateOf s m.blocks
  state = ((t.stands).blocks).state

  pub history : IsHistoryHeld s.known m.blocks
  history = state.held

  among : In b m.blocks
  among = subst (λ (bs : List Block). In b bs) (sym t.split) (in_right b front (b ∷ rest) (inl refl))

  pub is-before : IsBefore s.known m.blocks front c.nodes
  is-before = before s.known m front (b ∷ rest) c.nodes t.saved history t.split (t.walked).nodes

  -- ---- its commit and its changesets are held

  pub commit-held : IsCommitHeld s.known.git (id_of b) b.commit
  commit-held = commit-in s.known.git m.blocks (history.held).commits b among

  pub walk : walk_fault s.known.git ((b.commit).value).tree_id ≡ None
  walk = each_in (λ (x : Block). walk_fault s.known.git ((x.commit).value).tree_id ≡ None) m.blocks b (history.held).walks among

  pub commit-view : IsCommitView b.commit
  commit-view = each_in IsCommitView (commits_in m.blocks) b.commit ((saved-of m t.saved).commits).views (in_map (λ (x : Block). x.commit) b m.blocks among)

  pub no-link : is_link_view b.changeset ≡ false
  no-link = each_in (λ (x : Block). is_link_view x.changeset ≡ false) m.blocks b history.no_links among

  pub changesets-are : changesets_in m.blocks ≡ changesets_in front ++ (own b ++ changesets_in rest)
  changesets-are = ap changesets_in t.split ∙ flat_map_append own front (b ∷ rest)

  pub own-held : AreChangesetsHeld s.known.hg (map changeset_node (own b)) (own b)
  own-held = held-part s.known.hg (changesets_in front) (own b) (changesets_in rest) (subst (λ (hs : List ChangesetView). AreChangesetsHeld s.known.hg (map changeset_node hs) hs) changesets-are (history.held).changesets)

  pub changeset-held : IsChangesetHeld s.known.hg (node_of b) b.changeset
  changeset-held = held-last s.known.hg b.links b.changeset own-held

  pub links-held : AreChangesetsHeld s.known.hg (map changeset_node b.links) b.links
  links-held = held-first s.known.hg b.links (b.changeset ∷ []) own-held

  -- ---- where the block stands

  values : map value_of s.blocks ≡ map block_value front ++ block_value b ∷ map block_value rest
  values = state.blocks_are ∙ ap (map block_value) t.split ∙ map_append block_value front (b ∷ rest)

  at-front : length (map block_value front) ≡ place
  at-front = length-map front block_value ∙ sym t.place_is

  pub place-below : place < length s.blocks
  place-below = omega (arith, below-end (map block_value front) (map block_value rest) (block_value b), ap length values, length-map s.blocks value_of, at-front)

  value-at : slice_get (map value_of s.blocks) place ≡ Some (block_value b)
  value-at = ap (λ (l : List BlockValue). slice_get l place) values ∙ ap (slice_get (map block_value front ++ block_value b ∷ map block_value rest)) (sym at-front) ∙ get-behind (map block_value front) (map block_value rest) (block_value b)

  pub block-at : (x : pair.Block) → slice_get s.blocks place ≡ Some x → value_of x ≡ block_value b
  block-at x at =
      let y = get_unmap value_of s.blocks place (block_value b) value-at in
      ap value_of (some_is (sym at ∙ y.1)) ∙ y.2

  -- ---- where its changesets stand

  nodes-split : s.changesets ≡ map changeset_node (changesets_in front) ++ (map changeset_node (own b) ++ map changeset_node (changesets_in rest))
  nodes-split =
      state.changesets ∙ ap (map changeset_node) changesets-are ∙ map_append changeset_node (changesets_in front) (own b ++ changesets_in rest)
      ∙ ap (λ (l : List Id). map changeset_node (changesets_in front) ++ l) (map_append changeset_node (own b) (changesets_in rest))

  start-is : c.changesets ≡ length (map changeset_node (changesets_in front))
  start-is = (t.walked).changesets ∙ sym (length-map (changesets_in front) changeset_node)

  behind : drop c.changesets s.changesets ≡ map changeset_node (own b) ++ map changeset_node (changesets_in rest)
  behind = (λ i. drop (start-is i) (nodes-split i)) ∙ drop_front (map changeset_node (changesets_in front)) (map changeset_node (own b) ++ map changeset_node (changesets_in rest))

  own-count : length (map changeset_node (own b)) ≡ length b.links + 1
  own-count = length-map (own b) changeset_node ∙ length-append b.links (b.changeset ∷ [])

  pub own-below : c.changesets + length b.links + 1 ≤ length s.changesets
  own-below =
      omega (
        arith,
        ap length nodes-split,
        length-append (map changeset_node (changesets_in front)) (map changeset_node (own b) ++ map changeset_node (changesets_in rest)),
        length-append (map changeset_node (own b)) (map changeset_node (changesets_in rest)),
        own-count,
        start-is,
      )

  pub own-nodes : (n : ℕ) → n ≡ length b.links + 1 → take n (drop c.changesets s.changesets) ≡ map changeset_node (own b)
  own-nodes n is = (λ i. take ((is ∙ sym own-count) i) (behind i)) ∙ take_front (map changeset_node (own b)) (map changeset_node (changesets_in rest))

  pub link-nodes : (n : ℕ) → n ≡ length b.links → take n (drop c.changesets s.changesets) ≡ map changeset_node b.links
  link-nodes n is =
      let parts : map changeset_node (own b) ++ map changeset_node (changesets_in rest) ≡ map changeset_node b.links ++ (node_of b ∷ map changeset_node (changesets_in rest)) =
      ap (λ (l : List Id). l ++ map changeset_node (changesets_in rest)) (map_append changeset_node b.links (b.changeset ∷ [])) ∙ append_assoc (map changeset_node b.links) (node_of b ∷ []) (map changeset_node (changesets_in rest)) in
      (λ i. take ((is ∙ sym (length-map b.links changeset_node)) i) ((behind ∙ parts) i)) ∙ take_front (map changeset_node b.links) (node_of b ∷ map changeset_node (changesets_in rest))
