-- A changeset has one block where its links are known, and a commit where bodies of one blob id are one.
use Rattle.std.proofs.Common.{◌≡◌, ℕ, suc, ◌%◌, false, List, ◌∷◌, sym, ap, subst, ◌∙◌, inl, inr, ◌⊎◌, arith}
use Rattle.text_model.specs.Lists.{Each}
use Rattle.pair_model.specs.Block.{Block, changesets_in}
use Rattle.view_model.specs.View.{files_among, ChangesetView, IsChangesetView, CommitView, IsCommitView, SameChangeset, SameCommit, HaveSameBodies}
use Rattle.pair_model.specs.Octopus.{links_of, is_link_view}
use Rattle.partner_model.specs.Mark.{mark_commit, mark_changeset}
use Rattle.partner_model.specs.Partner.{IsKnownAs, Member, OfHg, OfGit, Unmarks, UnmarksCommit, UnmarksChangeset, HasDepth, HasEvenDepth, Pairs, IsBlock, IsPartner}
use Rattle.partner_model.specs.Table.{IsTable, AreApart, AreLinksKnown, AreBlobsApart}
use Rattle.partner_law.specs.Depths.{AreDepthsNext, DepthsAreNext}
use Rattle.partner_law.specs.Pairs.{ChangesetBlockIsOne, CommitBlockIsOne, BlockIsPair}
use Rattle.unmark_law.proofs.CommitOne.{commit_one}
use Rattle.unmark_law.proofs.ChangesetOne.{changeset_one}
use Rattle.depth_law.proofs.PlainCommit.{plain_commit, commit_is_plain}
use Rattle.depth_law.proofs.PlainChangeset.{plain_changeset, changeset_is_plain}
use Rattle.unmark_law.proofs.Same.{same_changeset, same_commit}
use Rattle.depth_law.proofs.Falls.{IsBare, plain_is_bare}
use Rattle.depth_law.proofs.Depths.{depth_one, bare_or_not}
use Rattle.partner_law.proofs.Parities.{changesets_through, commits_through, plain_up}
use Rattle.partner_law.proofs.Returns.{commit_returns, changeset_returns}
use Rattle.partner_law.proofs.Agreeing.{unmarks_from}

-- ---- links that are known

turn : (x y : ChangesetView) → SameChangeset x y → SameChangeset y x
turn x y s = changesets_through x y x s (same_changeset x)

-- ---- depths

deeper : (blocks : List Block) (Known : ChangesetView → Type 0) → IsTable blocks → AreApart Known → (m k : Member) → Unmarks blocks Known m k → (¬ (IsBare m)) → HasEvenDepth blocks Known k → HasEvenDepth blocks Known m → ⊥
unfolding HasDepth
deeper blocks Known t a m k u n e f =
    let up : HasDepth blocks Known (suc e.0) m = ((λ p. n (plain_is_bare blocks m p)), k, u, e.2) in
    let same = depth_one blocks Known t a m (suc e.0) f.0 up f.2 in
    absurd (omega (arith, e.1, f.1, ap (λ (x : ℕ). x % 2) same))

-- ---- one commit for a changeset

abbrev Walked : List Block → (ChangesetView → Type 0) → CommitView → Type 0
Walked blocks Known c = Each (IsKnownAs Known) (links_of blocks c)

commit_for : (blocks : List Block) (Known : ChangesetView → Type 0) → IsTable blocks → AreApart Known → (h : ChangesetView) (c d : CommitView)
    → Pairs blocks Known h c → Pairs blocks Known h d → IsCommitView c → IsCommitView d → Walked blocks Known c → Walked blocks Known d → HaveSameBodies h.rows (files_among c.rows) → HaveSameBodies h.rows (files_among d.rows) → SameCommit c d
commit_for blocks Known t a h c d (inl x) (inl y) vc vd wc wd bc bd = commits_through (mark_commit blocks h) c d x.2 y.2
commit_for blocks Known t a h c d (inr x) (inr y) vc vd wc wd bc bd =
    let u : UnmarksChangeset blocks Known h c = record { view = vc; paired = x.1; marked = x.2; walked = wc; bodies = bc } in
    let v : UnmarksChangeset blocks Known h d = record { view = vd; paired = y.1; marked = y.2; walked = wd; bodies = bd } in
    subst (λ z. SameCommit c z) (changeset_one blocks Known t a h c d u v) (same_commit c)
commit_for blocks Known t a h c d (inl x) (inr y) vc vd wc wd bc bd = by (bare_or_not (OfHg h))
  where
    u : UnmarksChangeset blocks Known h d
    u = record { view = vd; paired = y.1; marked = y.2; walked = wd; bodies = bd }

    by : IsBare (OfHg h) ⊎ (¬ (IsBare (OfHg h))) → SameCommit c d
    by (inl b) = commits_through (mark_commit blocks h) c d x.2 (subst (λ z. SameCommit (mark_commit blocks h) z) (plain_changeset blocks Known t h d b.0 b.1 u b.2).marked (same_commit (mark_commit blocks h)))
    by (inr n) = absurd (deeper blocks Known t a (OfHg h) (OfGit d) u n y.0 x.0)
commit_for blocks Known t a h c d (inr x) (inl y) vc vd wc wd bc bd = by (bare_or_not (OfHg h))
  where
    u : UnmarksChangeset blocks Known h c
    u = record { view = vc; paired = x.1; marked = x.2; walked = wc; bodies = bc }

    by : IsBare (OfHg h) ⊎ (¬ (IsBare (OfHg h))) → SameCommit c d
    by (inl b) = commits_through (mark_commit blocks h) c d (subst (λ z. SameCommit (mark_commit blocks h) z) (plain_changeset blocks Known t h c b.0 b.1 u b.2).marked (same_commit (mark_commit blocks h))) y.2
    by (inr n) = absurd (deeper blocks Known t a (OfHg h) (OfGit c) u n x.0 y.0)

-- ---- one changeset for a commit

changeset_for : (blocks : List Block) (Known : ChangesetView → Type 0) → IsTable blocks → AreApart Known → (c : CommitView) (h k : ChangesetView)
    → Pairs blocks Known h c → Pairs blocks Known k c → IsChangesetView h → IsChangesetView k → is_link_view h ≡ false → is_link_view k ≡ false → HaveSameBodies h.rows (files_among c.rows) → HaveSameBodies k.rows (files_among c.rows)
    → AreBlobsApart (h ∷ changesets_in blocks) → AreBlobsApart (k ∷ changesets_in blocks) → SameChangeset h k
changeset_for blocks Known t a c h k (inr x) (inr y) vh vk lh lk bh bk ah ak = changesets_through (mark_changeset blocks c) h k x.2 y.2
changeset_for blocks Known t a c h k (inl x) (inl y) vh vk lh lk bh bk ah ak =
    subst (λ z. SameChangeset h z) (commit_one blocks t c h k (unmarks_from blocks h c ah vh lh x.1 x.2 bh) (unmarks_from blocks k c ak vk lk y.1 y.2 bk)) (same_changeset h)
changeset_for blocks Known t a c h k (inl x) (inr y) vh vk lh lk bh bk ah ak = by (bare_or_not (OfGit c))
  where
    u : UnmarksCommit blocks c h
    u = unmarks_from blocks h c ah vh lh x.1 x.2 bh

    by : IsBare (OfGit c) ⊎ (¬ (IsBare (OfGit c))) → SameChangeset h k
    by (inl b) = subst (λ z. SameChangeset z k) (plain_commit blocks t c h u b) y.2
    by (inr n) = absurd (deeper blocks Known t a (OfGit c) (OfHg h) u n x.0 y.0)
changeset_for blocks Known t a c h k (inr x) (inl y) vh vk lh lk bh bk ah ak = by (bare_or_not (OfGit c))
  where
    u : UnmarksCommit blocks c k
    u = unmarks_from blocks k c ak vk lk y.1 y.2 bk

    by : IsBare (OfGit c) ⊎ (¬ (IsBare (OfGit c))) → SameChangeset h k
    by (inl b) = turn k h (subst (λ z. SameChangeset z h) (plain_commit blocks t c k u b) x.2)
    by (inr n) = absurd (deeper blocks Known t a (OfGit c) (OfHg k) u n y.0 x.0)

-- ---- the laws on blocks

block_walked : (blocks : List Block) (Known : ChangesetView → Type 0) (b : Block) → IsBlock blocks Known b → AreLinksKnown blocks Known b → Each (IsKnownAs Known) (links_of blocks b.commit)
block_walked blocks Known b i k = subst (λ x. Each (IsKnownAs Known) x) i.links_are k

pub changeset_block_one : (blocks : List Block) (Known : ChangesetView → Type 0) → IsTable blocks → AreApart Known → ChangesetBlockIsOne blocks Known
changeset_block_one blocks Known t a h b d i j kb kd =
    let same : d.changeset ≡ b.changeset = j.1 ∙ sym i.1 in
    let pairs = subst (λ x. Pairs blocks Known x d.commit) same (j.0).pair in
    let bodies = subst (λ x. HaveSameBodies x.rows (files_among (d.commit).rows)) same (j.0).bodies in (
      commit_for blocks Known t a b.changeset b.commit d.commit (i.0).pair pairs (i.0).commit (j.0).commit (block_walked blocks Known b i.0 kb) (block_walked blocks Known d j.0 kd) (i.0).bodies bodies,
      subst (λ x. SameChangeset b.changeset x) (sym same) (same_changeset b.changeset),
    )

pub commit_block_one : (blocks : List Block) (Known : ChangesetView → Type 0) → IsTable blocks → AreApart Known → CommitBlockIsOne blocks Known
commit_block_one blocks Known t a c b d i j ab ad =
    let same : d.commit ≡ b.commit = j.1 ∙ sym i.1 in
    let pairs = subst (λ x. Pairs blocks Known d.changeset x) same (j.0).pair in
    let bodies = subst (λ x. HaveSameBodies (d.changeset).rows (files_among x.rows)) same (j.0).bodies in (
      subst (λ x. SameCommit b.commit x) (sym same) (same_commit b.commit),
      changeset_for blocks Known t a b.commit b.changeset d.changeset (i.0).pair pairs (i.0).changeset (j.0).changeset (i.0).no_link (j.0).no_link (i.0).bodies bodies ab ad,
    )

-- what a block's pair says: one of the two is the unmarking of the other, which has even depth
abbrev pub IsUnmarkedPair : List Block → (ChangesetView → Type 0) → ChangesetView → CommitView → Type 0
IsUnmarkedPair blocks Known h c = (HasEvenDepth blocks Known (OfHg h) × UnmarksCommit blocks c h) ⊎ (HasEvenDepth blocks Known (OfGit c) × UnmarksChangeset blocks Known h c)

pub unmarked_pair : (blocks : List Block) (Known : ChangesetView → Type 0) (b : Block) → IsBlock blocks Known b → AreLinksKnown blocks Known b → AreBlobsApart (b.changeset ∷ changesets_in blocks) → IsUnmarkedPair blocks Known b.changeset b.commit
unmarked_pair blocks Known b i known apart = by i.pair
  where
    by : Pairs blocks Known b.changeset b.commit → IsUnmarkedPair blocks Known b.changeset b.commit
    by (inl x) = inl (x.0, unmarks_from blocks b.changeset b.commit apart i.changeset i.no_link x.1 x.2 i.bodies)
    by (inr x) = inr (x.0, record { view = i.commit; paired = x.1; marked = x.2; walked = block_walked blocks Known b i known; bodies = i.bodies })

pub block_is_pair : (blocks : List Block) (Known : ChangesetView → Type 0) → IsTable blocks → AreApart Known → BlockIsPair blocks Known
block_is_pair blocks Known t a b i known apart = by (unmarked_pair blocks Known b i known apart)
  where
    by : IsUnmarkedPair blocks Known b.changeset b.commit → IsPartner blocks Known (OfHg b.changeset) (OfGit b.commit) × IsPartner blocks Known (OfGit b.commit) (OfHg b.changeset)
    by (inl x) = (inl (x.0, (x.1).paired, (x.1).marked), commit_returns blocks Known t b.changeset b.commit x.1 x.0)
    by (inr x) = (changeset_returns blocks Known t b.changeset b.commit x.1 x.0, inl (x.0, (x.1).paired, (x.1).marked))

pub depths_next : (blocks : List Block) (Known : ChangesetView → Type 0) → IsTable blocks → AreApart Known → DepthsAreNext blocks Known
unfolding HasDepth
depths_next blocks Known t a b i known apart = by (unmarked_pair blocks Known b i known apart) (bare_or_not (OfHg b.changeset)) (bare_or_not (OfGit b.commit))
  where
    by : IsUnmarkedPair blocks Known b.changeset b.commit → IsBare (OfHg b.changeset) ⊎ (¬ (IsBare (OfHg b.changeset))) → IsBare (OfGit b.commit) ⊎ (¬ (IsBare (OfGit b.commit))) → AreDepthsNext blocks Known (OfHg b.changeset) (OfGit b.commit)
    by (inl x) h (inl c) =
        let p = commit_is_plain blocks t b.commit b.changeset x.1 c in
        inl (plain_up blocks Known t (OfGit b.commit) (OfHg b.changeset) x.1 p, p)
    by (inl x) h (inr n) = inr ((x.0).0, (x.0).1, inl ((x.0).2, ((λ p. n (plain_is_bare blocks (OfGit b.commit) p)), OfHg b.changeset, x.1, (x.0).2)))
    by (inr x) (inl h) c =
        let p = changeset_is_plain blocks Known t b.changeset b.commit h.0 h.1 x.1 h.2 in
        inl (p, plain_up blocks Known t (OfHg b.changeset) (OfGit b.commit) x.1 p)
    by (inr x) (inr n) c = inr ((x.0).0, (x.0).1, inr ((x.0).2, ((λ p. n (plain_is_bare blocks (OfHg b.changeset) p)), OfGit b.commit, x.1, (x.0).2)))
