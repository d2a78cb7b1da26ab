-- Which members have a partner, and how deep a pair is.
use Rattle.std.proofs.Common.{◌≡◌, ℕ, zero, suc, ◌≤◌, ◌%◌, List, [], ◌∷◌, length, refl, sym, subst, ◌∙◌, inl, inr, ◌⊎◌, arith}
use Rattle.std.proofs.lemmas.Bool.{cases_eq}
use Rattle.std.proofs.lemmas.List.{length-map}
use Rattle.text_model.specs.Lists.{Each}
use Rattle.pair_model.specs.Block.{Block, hg_partner, not_null}
use Rattle.pair_model.specs.Octopus.{first_of, second_of, partners_of_parents}
use Rattle.view_model.specs.View.{ChangesetView, CommitView}
use Rattle.partner_model.specs.Mark.{mark_commit, mark_changeset}
use Rattle.partner_model.specs.Partner.{Member, OfHg, OfGit, Unmarks, UnmarksChangeset, AreCommitParentsPaired, AreChangesetParentsPaired, IsPlain, HasDepth, HasEvenDepth, HasOddDepth, IsPartner}
use Rattle.partner_model.specs.Table.{IsTable, AreApart}
use Rattle.partner_law.specs.Depths.{LimitIsOwn}
use Rattle.partner_law.specs.Pairs.{EachHasPartner, LinkedHasPartner}
use Rattle.unmark_law.proofs.Tables.{HasNode, HasId, hg_has, each_map}
use Rattle.unmark_law.proofs.ChangesetOne.{q_is, there}
use Rattle.depth_law.proofs.PlainCommit.{commit_few}
use Rattle.depth_law.proofs.PlainChangeset.{nodes_back, first_is}
use Rattle.unmark_law.proofs.Same.{same_changeset, same_commit}
use Rattle.depth_law.proofs.Depths.{has_depth, depth_one}

even_or_odd : (blocks : List Block) (Known : ChangesetView → Type 0) (m : Member) → (n : ℕ) × HasDepth blocks Known n m → HasEvenDepth blocks Known m ⊎ HasOddDepth blocks Known m
even_or_odd blocks Known m d = by (cases_eq (d.0 % 2) 0)
  where
    by : (d.0 % 2 ≡ 0) ⊎ (d.0 % 2 ≡ 0 → ⊥) → HasEvenDepth blocks Known m ⊎ HasOddDepth blocks Known m
    by (inl e) = inl (d.0, e, d.1)
    by (inr n) = inr (d.0, omega (arith, n), d.1)

-- a member of odd depth has an unmarking
odd_unmarking : (blocks : List Block) (Known : ChangesetView → Type 0) (m : Member) → HasOddDepth blocks Known m → (k : Member) × Unmarks blocks Known m k
unfolding HasDepth
odd_unmarking blocks Known m o = by o.0 o.1 o.2
  where
    by : (n : ℕ) → n % 2 ≡ 1 → HasDepth blocks Known n m → (k : Member) × Unmarks blocks Known m k
    by zero e h = absurd (omega arith)
    by (suc n) e h = (h.1, h.2)

pub each_has_partner : (blocks : List Block) (Known : ChangesetView → Type 0) → IsTable blocks → EachHasPartner blocks Known
each_has_partner blocks Known t decided = (of_commit, of_changeset)
  where
    of_commit : (c : CommitView) → AreCommitParentsPaired blocks c → (h : ChangesetView) × IsPartner blocks Known (OfGit c) (OfHg h)
    of_commit c paired = by (even_or_odd blocks Known (OfGit c) (has_depth blocks Known t decided (OfGit c)))
      where
        at : (k : Member) → Unmarks blocks Known (OfGit c) k → HasOddDepth blocks Known (OfGit c) → (h : ChangesetView) × IsPartner blocks Known (OfGit c) (OfHg h)
        at (OfHg h) u o = (h, inr (o, u))
        at (OfGit d) u o = absurd u

        by : HasEvenDepth blocks Known (OfGit c) ⊎ HasOddDepth blocks Known (OfGit c) → (h : ChangesetView) × IsPartner blocks Known (OfGit c) (OfHg h)
        by (inl e) = (mark_changeset blocks c, inl (e, paired, same_changeset (mark_changeset blocks c)))
        by (inr o) = let k = odd_unmarking blocks Known (OfGit c) o in at k.0 k.1 o

    of_changeset : (h : ChangesetView) → AreChangesetParentsPaired blocks h → (c : CommitView) × IsPartner blocks Known (OfHg h) (OfGit c)
    of_changeset h paired = by (even_or_odd blocks Known (OfHg h) (has_depth blocks Known t decided (OfHg h)))
      where
        at : (k : Member) → Unmarks blocks Known (OfHg h) k → HasOddDepth blocks Known (OfHg h) → (c : CommitView) × IsPartner blocks Known (OfHg h) (OfGit c)
        at (OfGit c) u o = (c, inr (o, u))
        at (OfHg d) u o = absurd u

        by : HasEvenDepth blocks Known (OfHg h) ⊎ HasOddDepth blocks Known (OfHg h) → (c : CommitView) × IsPartner blocks Known (OfHg h) (OfGit c)
        by (inl e) = (mark_commit blocks h, inl (e, paired, same_commit (mark_commit blocks h)))
        by (inr o) = let k = odd_unmarking blocks Known (OfHg h) o in at k.0 k.1 o

-- ---- a parent without a partner

paired_from_few : (blocks : List Block) (Known : ChangesetView → Type 0) → IsTable blocks → (h : ChangesetView) (c : CommitView) → UnmarksChangeset blocks Known h c → length (c.value).parents ≤ 2 → AreChangesetParentsPaired blocks h
paired_from_few blocks Known t h c u l =
    let few : length (partners_of_parents blocks c) ≤ 2 = simp length-map l in
    let p : h.p ≡ first_of (partners_of_parents blocks c) = sym (u.marked).p ∙ first_is blocks c few in
    let q : h.q ≡ second_of (partners_of_parents blocks c) = sym (u.marked).q ∙ q_is blocks c in
    let those : not_null (h.p ∷ h.q ∷ []) ≡ partners_of_parents blocks c = (λ i. not_null (p i ∷ q i ∷ [])) ∙ nodes_back (partners_of_parents blocks c) (there blocks t (c.value).parents u.paired) few in
    subst (λ x. Each (HasNode blocks) x) (sym those) (each_map (hg_partner blocks) (HasId blocks) (HasNode blocks) (hg_has blocks) (c.value).parents u.paired)

pub linked_has_partner : (blocks : List Block) (Known : ChangesetView → Type 0) → IsTable blocks → LinkedHasPartner blocks Known
unfolding HasDepth
linked_has_partner blocks Known t h c u n =
    let none : (k : Member) → ¬ (Unmarks blocks Known (OfGit c) k) = no_unmarking in
    let depth : HasDepth blocks Known 1 (OfHg h) = ((λ p. n p.0), OfGit c, u, inr none) in
    (depth, inr ((1, refl, depth), u))
  where
    no_unmarking : (k : Member) → Unmarks blocks Known (OfGit c) k → ⊥
    no_unmarking (OfHg k) v = n (paired_from_few blocks Known t h c u (commit_few blocks c k v.marked))
    no_unmarking (OfGit d) v = v

-- ---- the limit

plain_zero : (blocks : List Block) (Known : ChangesetView → Type 0) (m : Member) → IsPlain blocks m → HasDepth blocks Known 0 m
unfolding HasDepth
plain_zero blocks Known m p = inl p

pub limit_is_own : (blocks : List Block) (Known : ChangesetView → Type 0) → IsTable blocks → AreApart Known → LimitIsOwn blocks Known
limit_is_own blocks Known t a m k d (inl p) h =
    let z = depth_one blocks Known t a m d 0 h (plain_zero blocks Known m p.0) in
    ((λ o. absurd (over o.0 o.1 o.2)), λ l. absurd (omega (arith, z, l)))
  where
    over : (n : ℕ) → HasDepth blocks Known n m ⊎ HasDepth blocks Known n k → suc 16 ≤ n → ⊥
    over n (inl x) l = absurd (omega (arith, depth_one blocks Known t a m n 0 x (plain_zero blocks Known m p.0), l))
    over n (inr x) l = absurd (omega (arith, depth_one blocks Known t a k n 0 x (plain_zero blocks Known k p.1), l))
limit_is_own blocks Known t a m k d (inr (n, even, inl x)) h =
    let z = depth_one blocks Known t a m d n h x.0 in
    ((λ o. over o.0 o.1 o.2), λ l. (suc n, inr x.1, omega (arith, z, l)))
  where
    over : (i : ℕ) → HasDepth blocks Known i m ⊎ HasDepth blocks Known i k → suc 16 ≤ i → 16 ≤ d
    over i (inl y) l = omega (arith, depth_one blocks Known t a m i d y h, l)
    over i (inr y) l = omega (arith, depth_one blocks Known t a k i (suc n) y x.1, depth_one blocks Known t a m d n h x.0, l)
limit_is_own blocks Known t a m k d (inr (n, even, inr x)) h =
    let z = depth_one blocks Known t a m d (suc n) h x.1 in
    ((λ o. over o.0 o.1 o.2), λ l. (suc n, inl x.1, omega (arith, z, l, even)))
  where
    over : (i : ℕ) → HasDepth blocks Known i m ⊎ HasDepth blocks Known i k → suc 16 ≤ i → 16 ≤ d
    over i (inl y) l = omega (arith, depth_one blocks Known t a m i d y h, l)
    over i (inr y) l = omega (arith, depth_one blocks Known t a k i n y x.0, depth_one blocks Known t a m d (suc n) h x.1, l)
