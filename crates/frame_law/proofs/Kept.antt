-- The block of a member over the first list is its block over the second.
use Rattle.std.proofs.Common.{◌≡◌, ℕ, zero, suc, ◌≤◌, ◌%◌, List, length, sym, subst, ◌∙◌, inl, inr, arith}
use Rattle.text_model.specs.Lists.{Each}
use Rattle.git_model.specs.Object.{Object}
use Rattle.view_model.specs.View.{ChangesetView, CommitView, SameCommit}
use Rattle.pair_model.specs.Block.{Block}
use Rattle.pair_model.specs.Octopus.{links_of, partners_of_parents}
use Rattle.partner_model.specs.Mark.{mark_commit}
use Rattle.partner_model.specs.Partner.{Member, OfHg, OfGit, IsKnownAs, UnmarksChangeset, IsPlain, HasDepth, AreChangesetParentsPaired, AreCommitParentsPaired}
use Rattle.partner_model.specs.Given.{IsCommitFor, IsChangesetFor, IsBlockFor, block_with, IsTooDeep, depth_limit, Peels}
use Rattle.partner_model.specs.Clash.{IsColliding, MeetsCollision}
use Rattle.frame_law.specs.Ground.{AreParentsPaired}
use Rattle.unmark_law.proofs.Tables.{HasNode}
use Rattle.depth_law.proofs.PlainCommit.{commit_paired}
use Rattle.depth_law.proofs.Depths.{unmarking_one}
use Rattle.unmark_law.proofs.Same.{same_commit}
use Rattle.frame_law.proofs.Frame.{AreTwo, ground_table, commit_same, changeset_same, links_same, partners_same, partners_there}
use Rattle.frame_law.proofs.Links.{few_below}
use Rattle.frame_law.proofs.Depths.{paired_there, changeset_down, changeset_up, like_parents, commit_down, commit_up, down, up, next_paired, plain_down, plain_up, depth_down, depth_up, peels_down, peels_up}

-- where a changeset is plain over the second list and has an unmarking over the first, its parents have partners in the first
pub plain_back : (xs : List Block) (K : ChangesetView → Type 0) (ys : List Block) (L : ChangesetView → Type 0) → AreTwo xs K ys L → (h : ChangesetView) (c : CommitView) → UnmarksChangeset xs K h c → UnmarksChangeset ys L h c → IsPlain ys (OfHg h) → IsPlain xs (OfHg h)
plain_back xs K ys L t h c u v e =
    let few = few_below ys L t.second h c e.0 v in
    let same : partners_of_parents xs c ≡ partners_of_parents ys c = partners_same xs K ys L t (c.value).parents u.paired in
    let little : length (partners_of_parents xs c) ≤ 2 = subst (λ x. length x ≤ 2) (sym same) few in
    let paired : AreChangesetParentsPaired xs h = subst (λ x. Each (HasNode xs) x) (sym (like_parents xs K t.first h c u little)) (partners_there xs c u.paired) in
    plain_up xs K ys L t (OfHg h) paired e

odd_down : (xs : List Block) (K : ChangesetView → Type 0) (ys : List Block) (L : ChangesetView → Type 0) → AreTwo xs K ys L → (h : ChangesetView) (c : CommitView) → UnmarksChangeset xs K h c → UnmarksChangeset ys L h c → (n : ℕ) → n % 2 ≡ 1 → HasDepth xs K n (OfHg h) → HasDepth ys L n (OfHg h)
unfolding HasDepth
odd_down xs K ys L t h c u v zero e d = absurd (omega arith)
odd_down xs K ys L t h c u v (suc n) e d =
    let same = unmarking_one xs K (ground_table xs K t.first) (t.first).apart (OfHg h) d.1 (OfGit c) d.2 u in
    ((λ p. d.0 (plain_back xs K ys L t h c u v p)), OfGit c, v, depth_down xs K ys L t n (OfGit c) u.paired (subst (λ (x : Member). HasDepth xs K n x) same d.3))

pub commit_for_down : (xs : List Block) (K : ChangesetView → Type 0) (ys : List Block) (L : ChangesetView → Type 0) → AreTwo xs K ys L → (h : ChangesetView) (c : CommitView) → Each (IsKnownAs L) (links_of xs c) → IsCommitFor xs K h c → IsCommitFor ys L h c
commit_for_down xs K ys L t h c w (inl x) = inl (((x.0).0, (x.0).1, depth_down xs K ys L t (x.0).0 (OfHg h) x.1 (x.0).2), paired_there xs K ys L t (OfHg h) x.1, x.2 ∙ commit_same xs K ys L t h x.1)
commit_for_down xs K ys L t h c w (inr x) =
    let v = changeset_down xs K ys L t h c x.1 w in
    inr (((x.0).0, (x.0).1, odd_down xs K ys L t h c x.1 v (x.0).0 (x.0).1 (x.0).2), v)

pub commit_for_up : (xs : List Block) (K : ChangesetView → Type 0) (ys : List Block) (L : ChangesetView → Type 0) → AreTwo xs K ys L → (h : ChangesetView) (c : CommitView) → AreChangesetParentsPaired xs h → IsCommitFor ys L h c → IsCommitFor xs K h c
commit_for_up xs K ys L t h c p (inl x) = inl (((x.0).0, (x.0).1, depth_up xs K ys L t (x.0).0 (OfHg h) p (x.0).2), p, x.2 ∙ sym (commit_same xs K ys L t h p))
commit_for_up xs K ys L t h c p (inr x) = inr (((x.0).0, (x.0).1, depth_up xs K ys L t (x.0).0 (OfHg h) p (x.0).2), changeset_up xs K ys L t h c p x.1)

pub changeset_for_down : (xs : List Block) (K : ChangesetView → Type 0) (ys : List Block) (L : ChangesetView → Type 0) → AreTwo xs K ys L → (c : CommitView) (h : ChangesetView) → IsChangesetFor xs K c h → IsChangesetFor ys L c h
changeset_for_down xs K ys L t c h (inl x) = inl (((x.0).0, (x.0).1, depth_down xs K ys L t (x.0).0 (OfGit c) x.1 (x.0).2), paired_there xs K ys L t (OfGit c) x.1, x.2 ∙ changeset_same xs K ys L t c x.1)
changeset_for_down xs K ys L t c h (inr x) =
    let p = commit_paired xs c h (x.1).paired (x.1).marked in
    inr (((x.0).0, (x.0).1, depth_down xs K ys L t (x.0).0 (OfGit c) p (x.0).2), commit_down xs K ys L t c h x.1)

pub changeset_for_up : (xs : List Block) (K : ChangesetView → Type 0) (ys : List Block) (L : ChangesetView → Type 0) → AreTwo xs K ys L → (c : CommitView) (h : ChangesetView) → AreCommitParentsPaired xs c → IsChangesetFor ys L c h → IsChangesetFor xs K c h
changeset_for_up xs K ys L t c h p (inl x) = inl (((x.0).0, (x.0).1, depth_up xs K ys L t (x.0).0 (OfGit c) p (x.0).2), p, x.2 ∙ sym (changeset_same xs K ys L t c p))
changeset_for_up xs K ys L t c h p (inr x) = inr (((x.0).0, (x.0).1, depth_up xs K ys L t (x.0).0 (OfGit c) p (x.0).2), commit_up xs K ys L t c h p x.1)

-- ---- blocks

-- the parents of a partner have partners
pub commit_for_paired : (xs : List Block) (K : ChangesetView → Type 0) (h : ChangesetView) (c : CommitView) → IsCommitFor xs K h c → AreCommitParentsPaired xs c
commit_for_paired xs K h c (inl x) = commit_paired xs c h x.1 (subst (λ z. SameCommit (mark_commit xs h) z) (sym x.2) (same_commit (mark_commit xs h)))
commit_for_paired xs K h c (inr x) = (x.1).paired

changeset_for_paired : (xs : List Block) (K : ChangesetView → Type 0) (c : CommitView) (h : ChangesetView) → IsChangesetFor xs K c h → AreCommitParentsPaired xs c
changeset_for_paired xs K c h (inl x) = x.1
changeset_for_paired xs K c h (inr x) = commit_paired xs c h (x.1).paired (x.1).marked

block_same : (xs : List Block) (K : ChangesetView → Type 0) (ys : List Block) (L : ChangesetView → Type 0) → AreTwo xs K ys L → (h : ChangesetView) (c : CommitView) → AreCommitParentsPaired xs c → block_with xs h c ≡ block_with ys h c
block_same xs K ys L t h c p = λ i. record { links = links_same xs K ys L t c p i; changeset = h; commit = c }

pub block_for_down : (xs : List Block) (K : ChangesetView → Type 0) (ys : List Block) (L : ChangesetView → Type 0) → AreTwo xs K ys L → (m : Member) (b : Block) → Each (IsKnownAs L) b.links → IsBlockFor xs K m b → IsBlockFor ys L m b
block_for_down xs K ys L t (OfHg h) b w x =
    let walked = subst (λ z. Each (IsKnownAs L) z.links) x.2 w in
    (x.0, commit_for_down xs K ys L t h x.0 walked x.1, x.2 ∙ block_same xs K ys L t h x.0 (commit_for_paired xs K h x.0 x.1))
block_for_down xs K ys L t (OfGit c) b w x = (x.0, changeset_for_down xs K ys L t c x.0 x.1, x.2 ∙ block_same xs K ys L t x.0 c (changeset_for_paired xs K c x.0 x.1))

pub block_for_up : (xs : List Block) (K : ChangesetView → Type 0) (ys : List Block) (L : ChangesetView → Type 0) → AreTwo xs K ys L → (m : Member) (b : Block) → AreParentsPaired xs m → IsBlockFor ys L m b → IsBlockFor xs K m b
block_for_up xs K ys L t (OfHg h) b p x =
    let c = commit_for_up xs K ys L t h x.0 p x.1 in
    (x.0, c, x.2 ∙ sym (block_same xs K ys L t h x.0 (commit_for_paired xs K h x.0 c)))
block_for_up xs K ys L t (OfGit c) b p x = (x.0, changeset_for_up xs K ys L t c x.0 p x.1, x.2 ∙ sym (block_same xs K ys L t x.0 c p))

pub deep_down : (xs : List Block) (K : ChangesetView → Type 0) (ys : List Block) (L : ChangesetView → Type 0) → AreTwo xs K ys L → (m : Member) → AreParentsPaired xs m → IsTooDeep xs K m → IsTooDeep ys L m
deep_down xs K ys L t m p d = (d.0, peels_down xs K ys L t depth_limit m d.0 p d.1)

pub deep_up : (xs : List Block) (K : ChangesetView → Type 0) (ys : List Block) (L : ChangesetView → Type 0) → AreTwo xs K ys L → (m : Member) → AreParentsPaired xs m → IsTooDeep ys L m → IsTooDeep xs K m
deep_up xs K ys L t m p d = (d.0, peels_up xs K ys L t depth_limit m d.0 p d.1)

-- ---- collisions of bodies

pub peeled_paired : (xs : List Block) (K : ChangesetView → Type 0) (i : ℕ) (m k : Member) → AreParentsPaired xs m → Peels xs K i m k → AreParentsPaired xs k
unfolding Peels
peeled_paired xs K zero m k p h = subst (AreParentsPaired xs) h p
peeled_paired xs K (suc i) m k p h = peeled_paired xs K i h.1 k (next_paired xs K m h.1 h.2) h.3

colliding_down : (xs : List Block) (K : ChangesetView → Type 0) (ys : List Block) (L : ChangesetView → Type 0) → AreTwo xs K ys L → (objects : List Object) (m : Member) → AreParentsPaired xs m
    → IsColliding xs K objects m → IsColliding ys L objects m
colliding_down xs K ys L t objects (OfHg h) p x = (x.0, down xs K ys L t (OfHg h) (OfGit x.0) p x.1, x.2)
colliding_down xs K ys L t objects (OfGit c) p x = absurd x

colliding_up : (xs : List Block) (K : ChangesetView → Type 0) (ys : List Block) (L : ChangesetView → Type 0) → AreTwo xs K ys L → (objects : List Object) (m : Member) → AreParentsPaired xs m
    → IsColliding ys L objects m → IsColliding xs K objects m
colliding_up xs K ys L t objects (OfHg h) p x = (x.0, up xs K ys L t (OfHg h) (OfGit x.0) p x.1, x.2)
colliding_up xs K ys L t objects (OfGit c) p x = absurd x

pub collision_down : (xs : List Block) (K : ChangesetView → Type 0) (ys : List Block) (L : ChangesetView → Type 0) → AreTwo xs K ys L → (objects : List Object) (m : Member) → AreParentsPaired xs m
    → MeetsCollision xs K objects m → MeetsCollision ys L objects m
collision_down xs K ys L t objects m p x =
    let there = peeled_paired xs K x.count m x.member p x.peels in
    record {
      count = x.count;
      below = x.below;
      member = x.member;
      peels = peels_down xs K ys L t x.count m x.member p x.peels;
      marked = λ e. x.marked (plain_up xs K ys L t x.member there e);
      collides = colliding_down xs K ys L t objects x.member there x.collides;
    }

pub collision_up : (xs : List Block) (K : ChangesetView → Type 0) (ys : List Block) (L : ChangesetView → Type 0) → AreTwo xs K ys L → (objects : List Object) (m : Member) → AreParentsPaired xs m
    → MeetsCollision ys L objects m → MeetsCollision xs K objects m
collision_up xs K ys L t objects m p x =
    let peels = peels_up xs K ys L t x.count m x.member p x.peels in
    let there = peeled_paired xs K x.count m x.member p peels in
    record {
      count = x.count;
      below = x.below;
      member = x.member;
      peels = peels;
      marked = λ e. x.marked (plain_down xs K ys L t x.member there e);
      collides = colliding_up xs K ys L t objects x.member there x.collides;
    }
