-- A changeset that has a partner over the first list is judged alike over both, be it over a link.
use Rattle.std.proofs.Common.{◌≡◌, ℕ, zero, suc, ◌%◌, ◌⊎◌, Bool, true, false, List, [], ◌∷◌, Option, Some, None, refl, sym, subst, inl, inr, arith}
use Rattle.std.specs.Prelude.{◌||◌, IsTrue}
use Rattle.std.proofs.lemmas.Bool.{true≢false}
use Rattle.text_model.specs.Lists.{Each}
use Rattle.text_model.specs.Id.{Id, is_null}
use Rattle.git_model.specs.Object.{Object}
use Rattle.view_model.specs.View.{ChangesetView, CommitView, SameChangeset, SameCommit}
use Rattle.pair_model.specs.Block.{Block, block_of_node, not_null}
use Rattle.pair_model.specs.Octopus.{links_of}
use Rattle.partner_model.specs.Mark.{mark_commit}
use Rattle.partner_model.specs.Partner.{Member, OfHg, OfGit, IsKnownAs, UnmarksChangeset, IsPlain, HasDepth, AreChangesetParentsPaired, AreCommitParentsPaired}
use Rattle.partner_model.specs.Given.{IsCommitFor, IsOnLink, is_link_parent, IsTooDeep, depth_limit, Peels}
use Rattle.partner_model.specs.Clash.{IsColliding, MeetsCollision}
use Rattle.unmark_law.proofs.Tables.{HasNode}
use Rattle.unmark_law.proofs.Same.{same_commit}
use Rattle.depth_law.proofs.Depths.{unmarking_one}
use Rattle.frame_law.specs.Ground.{AreParentsPaired}
use Rattle.frame_law.proofs.Frame.{AreTwo, ground_table, rest_paired, changeset_same, links_same}
use Rattle.frame_law.proofs.Depths.{down, up, next_paired, plain_down, plain_up, changeset_down, below_paired, depth_up, peels_down, peels_up}
use Rattle.frame_law.proofs.Kept.{plain_back, commit_for_up, deep_down, deep_up, collision_down, collision_up, peeled_paired}

-- ---- a parent that has a partner is no link

no_link_at : (blocks : List Block) (n : Id) (rest : List Id) → Each (HasNode blocks) (not_null (n ∷ rest)) → IsTrue (is_link_parent blocks n) → ⊥
no_link_at blocks n rest p l = by (is_null n) (block_of_node blocks n) refl refl
  where
    by : (t : Bool) (o : Option Block) → is_null n ≡ t → block_of_node blocks n ≡ o → ⊥
    by true o e f =
        let g = rw e at l in
        absurd (true≢false (sym g))
    by false None e f =
        let g = rw e at p in
        let k = rw f at g.0 in
        absurd (true≢false (sym k))
    by false (Some b) e f =
        let g = rw (e, f) at l in
        absurd (true≢false (sym g))

either : (a b : Bool) → IsTrue (a || b) → IsTrue a ⊎ IsTrue b
either true b h = inl refl
either false b h = inr h

no_link_parent : (blocks : List Block) (h : ChangesetView) → AreChangesetParentsPaired blocks h → IsTrue (is_link_parent blocks h.p || is_link_parent blocks h.q) → ⊥
no_link_parent blocks h p l = by (either (is_link_parent blocks h.p) (is_link_parent blocks h.q) l)
  where
    by : IsTrue (is_link_parent blocks h.p) ⊎ IsTrue (is_link_parent blocks h.q) → ⊥
    by (inl a) = no_link_at blocks h.p (h.q ∷ []) p a
    by (inr a) = no_link_at blocks h.q [] (rest_paired (HasNode blocks) h.p (h.q ∷ []) p) a

-- a changeset with a partner is on no link without an unmarking
pub not_on_link : (blocks : List Block) (K : ChangesetView → Type 0) (h : ChangesetView) (c : CommitView) → IsCommitFor blocks K h c → ¬ (IsOnLink blocks K h)
not_on_link blocks K h c (inl x) l = no_link_parent blocks h x.1 l.0
not_on_link blocks K h c (inr x) l = l.1 c x.1

module _ (xs : List Block) (K : ChangesetView → Type 0) (ys : List Block) (L : ChangesetView → Type 0) (t : AreTwo xs K ys L) (h : ChangesetView) (c : CommitView) where
  -- ---- an unmarking over both lists

  plain_first : IsPlain xs (OfHg h) → IsPlain ys (OfHg h)
  plain_first e = plain_down xs K ys L t (OfHg h) e.0 e

  module _ (u : UnmarksChangeset xs K h c) (v : UnmarksChangeset ys L h c) where
    odd_up : (n : ℕ) → n % 2 ≡ 1 → HasDepth ys L n (OfHg h) → HasDepth xs K n (OfHg h)
    unfolding HasDepth
    odd_up zero e d = absurd (omega arith)
    odd_up (suc n) e d =
        let same = unmarking_one ys L (ground_table ys L t.second) (t.second).apart (OfHg h) d.1 (OfGit c) d.2 v in
        ((λ p. d.0 (plain_first p)), OfGit c, u, depth_up xs K ys L t n (OfGit c) u.paired (subst (λ (x : Member). HasDepth ys L n x) same d.3))

    first_down : (i : ℕ) (k : Member) → Peels xs K i (OfHg h) k → Peels ys L i (OfHg h) k
    unfolding Peels
    first_down zero k p = p
    first_down (suc i) k p =
        let same = unmarking_one xs K (ground_table xs K t.first) (t.first).apart (OfHg h) p.1 (OfGit c) p.2 u in
        ((λ e. p.0 (plain_back xs K ys L t h c u v e)), OfGit c, v, peels_down xs K ys L t i (OfGit c) k u.paired (subst (λ (x : Member). Peels xs K i x k) same p.3))

    first_up : (i : ℕ) (k : Member) → Peels ys L i (OfHg h) k → Peels xs K i (OfHg h) k
    unfolding Peels
    first_up zero k p = p
    first_up (suc i) k p =
        let same = unmarking_one ys L (ground_table ys L t.second) (t.second).apart (OfHg h) p.1 (OfGit c) p.2 v in
        ((λ e. p.0 (plain_first e)), OfGit c, u, peels_up xs K ys L t i (OfGit c) k u.paired (subst (λ (x : Member). Peels ys L i x k) same p.3))

    -- what stands below it has its parents' partners
    below_it : (i : ℕ) (k : Member) → Peels xs K i (OfHg h) k → (OfHg h ≡ k) ⊎ AreParentsPaired xs k
    unfolding Peels
    below_it zero k p = inl p
    below_it (suc i) k p = inr (peeled_paired xs K i p.1 k (next_paired xs K (OfHg h) p.1 p.2) p.3)

    marked_down : (k : Member) → (OfHg h ≡ k) ⊎ AreParentsPaired xs k → ¬ (IsPlain xs k) → ¬ (IsPlain ys k)
    marked_down k (inl e) n p = n (subst (IsPlain xs) e (plain_back xs K ys L t h c u v (subst (IsPlain ys) (sym e) p)))
    marked_down k (inr paired) n p = n (plain_up xs K ys L t k paired p)

    marked_up : (k : Member) → (OfHg h ≡ k) ⊎ AreParentsPaired xs k → ¬ (IsPlain ys k) → ¬ (IsPlain xs k)
    marked_up k (inl e) n p = n (subst (IsPlain ys) e (plain_first (subst (IsPlain xs) (sym e) p)))
    marked_up k (inr paired) n p = n (plain_down xs K ys L t k paired p)

    colliding_first : (objects : List Object) (k : Member) → (OfHg h ≡ k) ⊎ AreParentsPaired xs k → IsColliding xs K objects k → IsColliding ys L objects k
    colliding_first objects (OfHg g) (inl e) x = by e x
      where
        by : OfHg h ≡ OfHg g → IsColliding xs K objects (OfHg g) → IsColliding ys L objects (OfHg g)
        by e x = subst (IsColliding ys L objects) e (c, v, (subst (IsColliding xs K objects) (sym e) x).2)
    colliding_first objects (OfHg g) (inr paired) x = (x.0, down xs K ys L t (OfHg g) (OfGit x.0) paired x.1, x.2)
    colliding_first objects (OfGit d) e x = absurd x

    colliding_back : (objects : List Object) (k : Member) → (OfHg h ≡ k) ⊎ AreParentsPaired xs k → IsColliding ys L objects k → IsColliding xs K objects k
    colliding_back objects (OfHg g) (inl e) x = by e x
      where
        by : OfHg h ≡ OfHg g → IsColliding ys L objects (OfHg g) → IsColliding xs K objects (OfHg g)
        by e x = subst (IsColliding xs K objects) e (c, u, (subst (IsColliding ys L objects) (sym e) x).2)
    colliding_back objects (OfHg g) (inr paired) x = (x.0, up xs K ys L t (OfHg g) (OfGit x.0) paired x.1, x.2)
    colliding_back objects (OfGit d) e x = absurd x

    meets_down : (objects : List Object) → MeetsCollision xs K objects (OfHg h) → MeetsCollision ys L objects (OfHg h)
    meets_down objects x =
        let there = below_it x.count x.member x.peels in
        record {
          count = x.count;
          below = x.below;
          member = x.member;
          peels = first_down x.count x.member x.peels;
          marked = marked_down x.member there x.marked;
          collides = colliding_first objects x.member there x.collides;
        }

    meets_up : (objects : List Object) → MeetsCollision ys L objects (OfHg h) → MeetsCollision xs K objects (OfHg h)
    meets_up objects x =
        let peels = first_up x.count x.member x.peels in
        let there = below_it x.count x.member peels in
        record {
          count = x.count;
          below = x.below;
          member = x.member;
          peels = peels;
          marked = marked_up x.member there x.marked;
          collides = colliding_back objects x.member there x.collides;
        }

  -- ---- a partner over the first list

  module _ (walked : Each (IsKnownAs L) (links_of xs c)) where
    pub deep_too : IsCommitFor xs K h c → IsTooDeep ys L (OfHg h) → IsTooDeep xs K (OfHg h)
    deep_too (inl x) d = deep_up xs K ys L t (OfHg h) x.1 d
    deep_too (inr x) d = (d.0, first_up x.1 (changeset_down xs K ys L t h c x.1 walked) depth_limit d.0 d.1)

    pub deep_again : IsCommitFor xs K h c → IsTooDeep xs K (OfHg h) → IsTooDeep ys L (OfHg h)
    deep_again (inl x) d = deep_down xs K ys L t (OfHg h) x.1 d
    deep_again (inr x) d = (d.0, first_down x.1 (changeset_down xs K ys L t h c x.1 walked) depth_limit d.0 d.1)

    pub collision_too : (objects : List Object) → IsCommitFor xs K h c → MeetsCollision ys L objects (OfHg h) → MeetsCollision xs K objects (OfHg h)
    collision_too objects (inl x) m = collision_up xs K ys L t objects (OfHg h) x.1 m
    collision_too objects (inr x) m = meets_up x.1 (changeset_down xs K ys L t h c x.1 walked) objects m

    pub collision_again : (objects : List Object) → IsCommitFor xs K h c → MeetsCollision xs K objects (OfHg h) → MeetsCollision ys L objects (OfHg h)
    collision_again objects (inl x) m = collision_down xs K ys L t objects (OfHg h) x.1 m
    collision_again objects (inr x) m = meets_down x.1 (changeset_down xs K ys L t h c x.1 walked) objects m

  -- ---- a partner over the second list, whose parents have partners in the first

  pub commit_for_back : ((l : ChangesetView) → IsKnownAs L l → IsKnownAs K l) → AreCommitParentsPaired xs c → IsCommitFor ys L h c → IsCommitFor xs K h c
  commit_for_back known paired (inl x) =
      commit_for_up xs K ys L t h c (below_paired xs K ys L t c h paired x.1 (subst (λ (d : CommitView). SameCommit (mark_commit ys h) d) (sym x.2) (same_commit (mark_commit ys h)))) (inl x)
  commit_for_back known paired (inr x) =
      let v = x.1 in
      let u : UnmarksChangeset xs K h c = record {
        view = v.view;
        paired = paired;
        marked = subst (λ (g : ChangesetView). SameChangeset g h) (sym (changeset_same xs K ys L t c paired)) v.marked;
        walked = each_known (links_of xs c) (subst (λ (ls : List ChangesetView). Each (IsKnownAs L) ls) (sym (links_same xs K ys L t c paired)) v.walked);
        bodies = v.bodies;
      } in
      inr (((x.0).0, (x.0).1, odd_up u v (x.0).0 (x.0).1 (x.0).2), u)
    where
      each_known : (ls : List ChangesetView) → Each (IsKnownAs L) ls → Each (IsKnownAs K) ls
      each_known [] e = tt
      each_known (l ∷ ls) e = (known l e.0, each_known ls e.1)
