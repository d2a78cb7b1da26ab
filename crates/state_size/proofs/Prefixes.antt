-- The first blocks of a history, with what holds of their members.
use Rattle.std.proofs.Common.{◌≡◌, ℕ, zero, suc, ◌+◌, ◌≤◌, List, [], ◌∷◌, ◌++◌, length, map, take, drop, refl, sym, ap, subst, ◌∙◌, arith}
use Rattle.std.specs.Prelude.{None}
use Rattle.std.proofs.lemmas.List.{length-append, length-map, take-map, take-append-drop}
use Rattle.std.proofs.lemmas.List.Sums.{sum_by-cons}
use Rattle.text_model.specs.Lists.{Each}
use Rattle.text_model.specs.Id.{Id}
use Rattle.text_model.proofs.Elements.{take_front, flat_map_append}
use Rattle.hg_model.specs.Revision.{Revision}
use Rattle.git_model.specs.Object.{Object}
use Rattle.git_model.specs.Unfold.{walk_fault}
use Rattle.view_model.specs.View.{ChangesetView, CommitView, changeset_node, commit_id}
use Rattle.view_model.specs.Held.{AreChangesetsHeld, AreCommitsHeld}
use Rattle.view_model.specs.Dump.{revisions_of}
use Rattle.pair_model.specs.Block as model
use Rattle.pair_model.specs.Block.{id_of, changesets_in, commits_in}
use Rattle.hg_dump.proofs.HeldLemmas.{held-take}
use Rattle.hg_dump_law.specs.Taken.{AreParentsEarlier}
use Rattle.git_dump.specs.Commits.{HasWalk, AreWalkableCommits}
use Rattle.pair_state.specs.Blocks.{IsStateOf, value_of, block_value}
use Rattle.pair_state.specs.declared.blocks.Block.{Block}
use Rattle.pair_state.specs.declared.state_parts.StateParts.{StateParts}
use Rattle.state_size.specs.Sizes.{count_of}

-- ---- parts of lists

earlier-take : (before : List Revision) (hs : List ChangesetView) (n : ℕ) → AreParentsEarlier before hs → AreParentsEarlier before (take n hs)
earlier-take before hs zero h = tt
earlier-take before [] (suc n) h = tt
earlier-take before (x ∷ hs) (suc n) h = (h.0, earlier-take (before ++ revisions_of x) hs n h.1)

commits-take : (known : List Object) (ids : List Id) (cs : List CommitView) (n : ℕ) → AreCommitsHeld known ids cs → AreCommitsHeld known (take n ids) (take n cs)
commits-take known [] [] zero h = tt
commits-take known [] [] (suc n) h = tt
commits-take known [] (c ∷ cs) n h = absurd h
commits-take known (id ∷ ids) [] n h = absurd h
commits-take known (id ∷ ids) (c ∷ cs) zero h = tt
commits-take known (id ∷ ids) (c ∷ cs) (suc n) h = (h.0, commits-take known ids cs n h.1)

walks-take : (known : List Object) (cs : List CommitView) (n : ℕ) → Each (HasWalk known) cs → Each (HasWalk known) (take n cs)
walks-take known cs zero h = tt
walks-take known [] (suc n) h = tt
walks-take known (c ∷ cs) (suc n) h = (h.0, walks-take known cs n h.1)

walkable-take : (known : List Object) (ids : List Id) (cs : List CommitView) (n : ℕ) → AreWalkableCommits known ids cs → AreWalkableCommits known (take n ids) (take n cs)
walkable-take known ids cs n h = (commits-take known ids cs n h.0, walks-take known cs n h.1)

-- ---- a state

module _ (s : StateParts) (blocks : List model.Block) (state : IsStateOf s blocks) where
  held : AreChangesetsHeld s.known.hg s.changesets (changesets_in blocks)
  held = subst (λ (ids : List Id). AreChangesetsHeld s.known.hg ids (changesets_in blocks)) (sym state.changesets) ((state.held).held).changesets

  ids-are : (bs : List model.Block) → map commit_id (commits_in bs) ≡ map id_of bs
  ids-are [] = refl
  ids-are (b ∷ bs) = ap (λ (l : List Id). id_of b ∷ l) (ids-are bs)

  walks-are : (bs : List model.Block) → Each (λ b. walk_fault s.known.git ((b.commit).value).tree_id ≡ None) bs → Each (HasWalk s.known.git) (commits_in bs)
  walks-are [] h = tt
  walks-are (b ∷ bs) h = (h.0, walks-are bs h.1)

  walkable : AreWalkableCommits s.known.git s.commits (commits_in blocks)
  walkable = (
    subst (λ (l : List Id). AreCommitsHeld s.known.git l (commits_in blocks)) (ids-are blocks ∙ sym state.commits) ((state.held).held).commits,
    walks-are blocks ((state.held).held).walks,
  )

  -- as many changesets as the pairs say
  count-same : (xs : List Block) (bs : List model.Block) → map value_of xs ≡ map block_value bs → count_of xs ≡ length (changesets_in bs)
  count-same [] [] e = refl
  count-same [] (b ∷ bs) e = absurd cc
  count-same (x ∷ xs) [] e = absurd cc
  count-same (x ∷ xs) (b ∷ bs) e =
      let head : value_of x ≡ block_value b = cc in
      let tail : map value_of xs ≡ map block_value bs = cc in
      let links : x.links ≡ length b.links = ap (λ v. v.links) head in
      omega (
        arith,
        sum_by-cons (λ (p : Block). p.links + 1) x xs,
        count-same xs bs tail,
        links,
        length-append (b.links ++ b.changeset ∷ []) (changesets_in bs),
        length-append b.links (b.changeset ∷ []),
      )

  pub count-is : (n : ℕ) → count_of (take n s.blocks) ≡ length (changesets_in (take n blocks))
  count-is n =
      count-same (take n s.blocks) (take n blocks)
      (sym (take-map value_of n s.blocks) ∙ ap (take n) state.blocks_are ∙ take-map block_value n blocks)

  split : (n : ℕ) → changesets_in blocks ≡ changesets_in (take n blocks) ++ changesets_in (drop n blocks)
  split n =
      ap changesets_in (sym (take-append-drop n blocks)) ∙ flat_map_append (λ (b : model.Block). b.links ++ b.changeset ∷ []) (take n blocks) (drop n blocks)

  -- the first changesets are those of the first blocks
  first-changesets : (n : ℕ) → take (count_of (take n s.blocks)) (changesets_in blocks) ≡ changesets_in (take n blocks)
  first-changesets n =
      (λ i. take (count-is n i) (split n i)) ∙ take_front (changesets_in (take n blocks)) (changesets_in (drop n blocks))

  pub count-within : (n : ℕ) → count_of (take n s.blocks) ≤ length s.changesets
  count-within n = omega (
    arith,
    count-is n,
    ap length (split n),
    length-append (changesets_in (take n blocks)) (changesets_in (drop n blocks)),
    ap length state.changesets,
    length-map (changesets_in blocks) changeset_node,
  )

  pub blocks-count : length s.blocks ≡ length blocks
  blocks-count = sym (length-map s.blocks value_of) ∙ ap length state.blocks_are ∙ length-map blocks block_value

  pub commits-count : length s.commits ≡ length s.blocks
  commits-count = ap length state.commits ∙ length-map blocks id_of ∙ sym blocks-count

  -- ---- what holds of the first blocks

  held-front : (n : ℕ) → AreChangesetsHeld s.known.hg (take (count_of (take n s.blocks)) s.changesets) (changesets_in (take n blocks))
  held-front n =
      let count = count_of (take n s.blocks) in
      subst (AreChangesetsHeld s.known.hg (take count s.changesets)) (first-changesets n) (held-take s.known.hg s.changesets (changesets_in blocks) count held)

  pub earlier-front : (n : ℕ) → AreParentsEarlier [] (changesets_in blocks) → AreParentsEarlier [] (changesets_in (take n blocks))
  earlier-front n h = subst (AreParentsEarlier []) (first-changesets n) (earlier-take [] (changesets_in blocks) (count_of (take n s.blocks)) h)

  walkable-front : (n : ℕ) → AreWalkableCommits s.known.git (take n s.commits) (commits_in (take n blocks))
  walkable-front n =
      subst (AreWalkableCommits s.known.git (take n s.commits)) (take-map (λ (b : model.Block). b.commit) n blocks)
      (walkable-take s.known.git s.commits (commits_in blocks) n walkable)

  nodes-front : (n : ℕ) → take (count_of (take n s.blocks)) s.changesets ≡ map changeset_node (changesets_in (take n blocks))
  nodes-front n =
      let count = count_of (take n s.blocks) in
      ap (take count) state.changesets ∙ take-map changeset_node count (changesets_in blocks) ∙ ap (map changeset_node) (first-changesets n)

  -- the same of lists and stores that are those of the state
  pub front-held : (n count : ℕ) (nodes : List Id) (hg : List Revision) → count ≡ count_of (take n s.blocks) → nodes ≡ s.changesets → hg ≡ s.known.hg
      → AreChangesetsHeld hg (take count nodes) (changesets_in (take n blocks))
  front-held n count nodes hg count-same nodes-same hg-same =
      let hs = changesets_in (take n blocks) in
      subst (λ (k : List Revision). AreChangesetsHeld k (take count nodes) hs) (sym hg-same)
      (subst (λ (l : List Id). AreChangesetsHeld s.known.hg l hs) (sym (λ i. take (count-same i) (nodes-same i))) (held-front n))

  pub front-nodes : (n count : ℕ) (nodes : List Id) → count ≡ count_of (take n s.blocks) → nodes ≡ s.changesets → take count nodes ≡ map changeset_node (changesets_in (take n blocks))
  front-nodes n count nodes count-same nodes-same = (λ i. take (count-same i) (nodes-same i)) ∙ nodes-front n

  pub front-walkable : (n : ℕ) (commits : List Id) (git : List Object) → commits ≡ s.commits → git ≡ s.known.git → AreWalkableCommits git (take n commits) (commits_in (take n blocks))
  front-walkable n commits git commits-same git-same =
      let cs = commits_in (take n blocks) in
      subst (λ (k : List Object). AreWalkableCommits k (take n commits) cs) (sym git-same) (subst (λ (l : List Id). AreWalkableCommits s.known.git (take n l) cs) (sym commits-same) (walkable-front n))
