-- The partner of the partner is the member itself, and pairs are partners.
use Rattle.std.proofs.Common.{◌≡◌, ℕ, zero, suc, ◌%◌, List, refl, sym, subst, inl, inr, ◌⊎◌, arith}
use Rattle.pair_model.specs.Block.{Block}
use Rattle.view_model.specs.View.{ChangesetView, CommitView, SameChangeset, SameCommit}
use Rattle.partner_model.specs.Partner.{Member, OfHg, OfGit, Unmarks, UnmarksCommit, UnmarksChangeset, IsPlain, HasDepth, HasEvenDepth, HasOddDepth, IsPartner}
use Rattle.partner_model.specs.Table.{IsTable, AreApart}
use Rattle.depth_law.proofs.PlainCommit.{plain_commit, commit_is_plain, commit_paired}
use Rattle.depth_law.proofs.PlainChangeset.{plain_changeset, changeset_is_plain}
use Rattle.unmark_law.proofs.Same.{same_changeset, same_commit}
use Rattle.depth_law.proofs.Falls.{IsBare, plain_is_bare}
use Rattle.depth_law.proofs.Depths.{unmarking_one, bare_or_not}

pub plain_depth : (blocks : List Block) (Known : ChangesetView → Type 0) (m : Member) → IsPlain blocks m → HasEvenDepth blocks Known m
unfolding HasDepth
plain_depth blocks Known m p = (0, refl, inl p)

pub odd_above : (blocks : List Block) (Known : ChangesetView → Type 0) (m k : Member) → Unmarks blocks Known m k → (¬ (IsBare m)) → HasEvenDepth blocks Known k → HasOddDepth blocks Known m
unfolding HasDepth
odd_above blocks Known m k u n e = (suc e.0, omega (arith, e.1), ((λ p. n (plain_is_bare blocks m p)), k, u, e.2))

pub even_below : (blocks : List Block) (Known : ChangesetView → Type 0) → IsTable blocks → AreApart Known → (m k : Member) → Unmarks blocks Known m k → HasOddDepth blocks Known m → HasEvenDepth blocks Known k
unfolding HasDepth
even_below blocks Known t a m k u o = by o.0 o.1 o.2
  where
    by : (n : ℕ) → n % 2 ≡ 1 → HasDepth blocks Known n m → HasEvenDepth blocks Known k
    by zero e h = absurd (omega arith)
    by (suc n) e h = (n, omega arith, subst (λ x. HasDepth blocks Known n x) (unmarking_one blocks Known t a m h.1 k h.2 u) h.3)

-- the marked commit of a changeset of even depth, of which the changeset is the unmarking, has it as its partner
pub commit_returns : (blocks : List Block) (Known : ChangesetView → Type 0) → IsTable blocks → (h : ChangesetView) (c : CommitView) → UnmarksCommit blocks c h → HasEvenDepth blocks Known (OfHg h) → IsPartner blocks Known (OfGit c) (OfHg h)
commit_returns blocks Known t h c u e = by (bare_or_not (OfGit c))
  where
    by : IsBare (OfGit c) ⊎ (¬ (IsBare (OfGit c))) → IsPartner blocks Known (OfGit c) (OfHg h)
    by (inl b) = inl (plain_depth blocks Known (OfGit c) (commit_is_plain blocks t c h u b), commit_paired blocks c h u.paired u.marked, subst (λ z. SameChangeset z h) (sym (plain_commit blocks t c h u b)) (same_changeset h))
    by (inr n) = inr (odd_above blocks Known (OfGit c) (OfHg h) u n e, u)

pub changeset_returns : (blocks : List Block) (Known : ChangesetView → Type 0) → IsTable blocks → (h : ChangesetView) (c : CommitView) → UnmarksChangeset blocks Known h c → HasEvenDepth blocks Known (OfGit c) → IsPartner blocks Known (OfHg h) (OfGit c)
changeset_returns blocks Known t h c u e = by (bare_or_not (OfHg h))
  where
    by : IsBare (OfHg h) ⊎ (¬ (IsBare (OfHg h))) → IsPartner blocks Known (OfHg h) (OfGit c)
    by (inl b) =
        let r = plain_changeset blocks Known t h c b.0 b.1 u b.2 in
        inl (plain_depth blocks Known (OfHg h) (changeset_is_plain blocks Known t h c b.0 b.1 u b.2), r.paired, subst (λ z. SameCommit z c) (sym r.marked) (same_commit c))
    by (inr n) = inr (odd_above blocks Known (OfHg h) (OfGit c) u n e, u)

-- and the unmarking of a member of odd depth has it as its partner
pub unmarked_commit_returns : (blocks : List Block) (Known : ChangesetView → Type 0) → IsTable blocks → AreApart Known → (h : ChangesetView) (c : CommitView) → UnmarksCommit blocks c h → HasOddDepth blocks Known (OfGit c) → IsPartner blocks Known (OfHg h) (OfGit c)
unmarked_commit_returns blocks Known t a h c u o = inl (even_below blocks Known t a (OfGit c) (OfHg h) u o, u.paired, u.marked)

pub unmarked_changeset_returns : (blocks : List Block) (Known : ChangesetView → Type 0) → IsTable blocks → AreApart Known → (h : ChangesetView) (c : CommitView) → UnmarksChangeset blocks Known h c → HasOddDepth blocks Known (OfHg h) → IsPartner blocks Known (OfGit c) (OfHg h)
unmarked_changeset_returns blocks Known t a h c u o = inl (even_below blocks Known t a (OfHg h) (OfGit c) u o, u.paired, u.marked)
