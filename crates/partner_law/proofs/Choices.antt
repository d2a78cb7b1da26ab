-- What the choice of a partner needs of depths, and that an exact block is one.
use Rattle.std.proofs.Common.{◌≡◌, ℕ, zero, suc, ◌<◌, ◌+◌, List, refl, sym, ap, subst, ◌∙◌, inl, inr, arith}
use Rattle.view_model.specs.View.{ChangesetView, CommitView}
use Rattle.pair_model.specs.Block.{Block}
use Rattle.partner_model.specs.Partner.{Member, OfHg, OfGit, Unmarks, IsPlain, HasDepth}
use Rattle.partner_model.specs.Table.{IsTable, AreApart}
use Rattle.partner_model.specs.Given.{Peels, IsCommitFor, IsChangesetFor, IsBlockFor, block_with, IsTooDeep, depth_limit}
use Rattle.depth_law.proofs.Depths.{unmarking_one}
use Rattle.unmark_law.proofs.CommitOne.{commit_one}
use Rattle.unmark_law.proofs.ChangesetOne.{changeset_one}
use Rattle.partner_law.proofs.Parities.{not_both}

-- one more turn of the loop
pub peels_on : (blocks : List Block) (Known : ChangesetView → Type 0) (i : ℕ) (m k n : Member) → Peels blocks Known i m k → (¬ (IsPlain blocks k)) → Unmarks blocks Known k n → Peels blocks Known (suc i) m n
unfolding Peels
peels_on blocks Known zero m k n p not u = (subst (λ (x : Member). ¬ (IsPlain blocks x)) (sym p) not, n, subst (λ (x : Member). Unmarks blocks Known x n) (sym p) u, refl)
peels_on blocks Known (suc i) m k n p not u = (p.0, p.1, p.2, peels_on blocks Known i p.1 k n p.3 not u)

-- unmarkings of members that aren't plain, and the depth of the last one
pub peeled_depth : (blocks : List Block) (Known : ChangesetView → Type 0) (i n : ℕ) (m k : Member) → Peels blocks Known i m k → HasDepth blocks Known n k → HasDepth blocks Known (i + n) m
unfolding Peels HasDepth
peeled_depth blocks Known zero n m k p h =
    let e : n ≡ 0 + n = omega arith in
    subst (λ (j : ℕ). HasDepth blocks Known j m) e (subst (λ (x : Member). HasDepth blocks Known n x) (sym p) h)
peeled_depth blocks Known (suc i) n m k p h =
    let e : suc (i + n) ≡ suc i + n = omega arith in
    subst (λ (j : ℕ). HasDepth blocks Known j m) e (p.0, p.1, p.2, peeled_depth blocks Known i n p.1 k p.3 h)

-- a depth bounds the unmarkings
pub few_peels : (blocks : List Block) (Known : ChangesetView → Type 0) → IsTable blocks → AreApart Known → (i n : ℕ) (m k : Member) → HasDepth blocks Known n m → n < i → Peels blocks Known i m k → ⊥
unfolding Peels HasDepth
few_peels blocks Known t a zero n m k h less p = omega (arith, less)
few_peels blocks Known t a (suc i) zero m k (inl plain) less p = p.0 plain
few_peels blocks Known t a (suc i) zero m k (inr none) less p = none p.1 p.2
few_peels blocks Known t a (suc i) (suc n) m k h less p =
    let e = unmarking_one blocks Known t a m h.1 p.1 h.2 p.2 in
    few_peels blocks Known t a i n p.1 k (subst (λ (x : Member). HasDepth blocks Known n x) e h.3) (omega (arith, less)) p.3

pub depth_is_below : (blocks : List Block) (Known : ChangesetView → Type 0) → IsTable blocks → AreApart Known → (m : Member) (n : ℕ) → HasDepth blocks Known n m → n < depth_limit → ¬ (IsTooDeep blocks Known m)
depth_is_below blocks Known t a m n h less deep = few_peels blocks Known t a depth_limit n m deep.0 h less deep.1

-- ---- the exact partner is one

commit_for_one : (blocks : List Block) (Known : ChangesetView → Type 0) → IsTable blocks → AreApart Known → (h : ChangesetView) (c d : CommitView) → IsCommitFor blocks Known h c → IsCommitFor blocks Known h d → c ≡ d
commit_for_one blocks Known t a h c d (inl x) (inl y) = x.2 ∙ sym y.2
commit_for_one blocks Known t a h c d (inl x) (inr y) = absurd (not_both blocks Known t a (OfHg h) x.0 y.0)
commit_for_one blocks Known t a h c d (inr x) (inl y) = absurd (not_both blocks Known t a (OfHg h) y.0 x.0)
commit_for_one blocks Known t a h c d (inr x) (inr y) = changeset_one blocks Known t a h c d x.1 y.1

changeset_for_one : (blocks : List Block) (Known : ChangesetView → Type 0) → IsTable blocks → AreApart Known → (c : CommitView) (h k : ChangesetView) → IsChangesetFor blocks Known c h → IsChangesetFor blocks Known c k → h ≡ k
changeset_for_one blocks Known t a c h k (inl x) (inl y) = x.2 ∙ sym y.2
changeset_for_one blocks Known t a c h k (inl x) (inr y) = absurd (not_both blocks Known t a (OfGit c) x.0 y.0)
changeset_for_one blocks Known t a c h k (inr x) (inl y) = absurd (not_both blocks Known t a (OfGit c) y.0 x.0)
changeset_for_one blocks Known t a c h k (inr x) (inr y) = commit_one blocks t c h k x.1 y.1

pub block_for_one : (blocks : List Block) (Known : ChangesetView → Type 0) → IsTable blocks → AreApart Known → (m : Member) (b d : Block) → IsBlockFor blocks Known m b → IsBlockFor blocks Known m d → b ≡ d
block_for_one blocks Known t a (OfHg h) b d x y = x.2 ∙ ap (λ (c : CommitView). block_with blocks h c) (commit_for_one blocks Known t a h x.0 y.0 x.1 y.1) ∙ sym y.2
block_for_one blocks Known t a (OfGit c) b d x y = x.2 ∙ ap (λ (h : ChangesetView). block_with blocks h c) (changeset_for_one blocks Known t a c x.0 y.0 x.1 y.1) ∙ sym y.2
