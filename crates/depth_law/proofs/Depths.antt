-- A member has one depth, since its unmarking is one.
use Rattle.std.proofs.Common.{◌≡◌, ℕ, zero, suc, ◌≤◌, ◌<◌, ◌+◌, List, [], ◌∷◌, refl, sym, ap, subst, ◌∙◌, inl, inr, ◌⊎◌, arith}
use Rattle.pair_model.specs.Block.{Block}
use Rattle.view_model.specs.View.{ChangesetView}
use Rattle.partner_model.specs.Partner.{Member, OfHg, OfGit, Unmarks, IsPlain, HasDepth}
use Rattle.partner_model.specs.Table.{IsTable, AreApart}
use Rattle.partner_model.specs.Measure.{size_of}
use Rattle.hg_model.specs.Changeset.{DateLine, Plain, Raw, Extra}
use Rattle.depth_law.proofs.Falls.{IsBare, bare_is_plain, plain_is_bare, falls}
use Rattle.std.specs.Prelude.{ℤ}
use Rattle.unmark_law.proofs.CommitOne.{commit_one}
use Rattle.unmark_law.proofs.ChangesetOne.{changeset_one}

pub unmarking_one : (blocks : List Block) (Known : ChangesetView → Type 0) → IsTable blocks → AreApart Known → (m k l : Member) → Unmarks blocks Known m k → Unmarks blocks Known m l → k ≡ l
unmarking_one blocks Known t a (OfGit c) (OfHg h) (OfHg k) u v = ap OfHg (commit_one blocks t c h k u v)
unmarking_one blocks Known t a (OfGit c) (OfHg h) (OfGit k) u v = absurd v
unmarking_one blocks Known t a (OfGit c) (OfGit h) l u v = absurd u
unmarking_one blocks Known t a (OfHg h) (OfGit c) (OfGit d) u v = ap OfGit (changeset_one blocks Known t a h c d u v)
unmarking_one blocks Known t a (OfHg h) (OfGit c) (OfHg d) u v = absurd v
unmarking_one blocks Known t a (OfHg h) (OfHg c) l u v = absurd u

pub depth_one : (blocks : List Block) (Known : ChangesetView → Type 0) → IsTable blocks → AreApart Known → (m : Member) (i j : ℕ) → HasDepth blocks Known i m → HasDepth blocks Known j m → i ≡ j
unfolding HasDepth
depth_one blocks Known t a m zero zero h k = refl
depth_one blocks Known t a m zero (suc j) (inl p) k = absurd (k.0 p)
depth_one blocks Known t a m zero (suc j) (inr n) k = absurd (n k.1 k.2)
depth_one blocks Known t a m (suc i) zero h (inl p) = absurd (h.0 p)
depth_one blocks Known t a m (suc i) zero h (inr n) = absurd (n h.1 h.2)
depth_one blocks Known t a m (suc i) (suc j) h k =
    let e = unmarking_one blocks Known t a m h.1 k.1 h.2 k.2 in
    ap suc (depth_one blocks Known t a k.1 i j (subst (λ (x : Member). HasDepth blocks Known i x) e h.3) k.3)

-- ---- the measure bounds the depth, and where unmarking can be decided each member has one

pub depth_bounded : (blocks : List Block) (Known : ChangesetView → Type 0) → IsTable blocks → (m : Member) (n : ℕ) → HasDepth blocks Known n m → n ≤ size_of m
unfolding HasDepth
depth_bounded blocks Known t m zero h = omega arith
depth_bounded blocks Known t m (suc n) h =
    let a = depth_bounded blocks Known t h.1 n h.3 in
    let b = falls blocks Known t m h.1 h.2 h.0 in
    omega (arith, a, b)

cons_nil : (x : ℕ) (xs : List ℕ) → x ∷ xs ≡ [] → ⊥
cons_nil x xs e = cc

plain_apart : (t z : ℤ) (x : Extra) (xs : List Extra) (s y : ℤ) → Plain t z (x ∷ xs) ≡ Plain s y [] → ⊥
plain_apart t z x xs s y e = cc

raw_apart : (text : List ℕ) (s y : ℤ) → Raw text ≡ Plain s y [] → ⊥
raw_apart text s y e = cc

pub bare_or_not : (m : Member) → IsBare m ⊎ (¬ (IsBare m))
bare_or_not (OfGit c) = by (c.value).headers refl
  where
    by : (xs : List ℕ) → (c.value).headers ≡ xs → IsBare (OfGit c) ⊎ (¬ (IsBare (OfGit c)))
    by [] e = inl e
    by (x ∷ xs) e = inr (λ f. cons_nil x xs (sym e ∙ f))
bare_or_not (OfHg h) = by (h.fields).date refl
  where
    by : (d : DateLine) → (h.fields).date ≡ d → IsBare (OfHg h) ⊎ (¬ (IsBare (OfHg h)))
    by (Plain t z []) e = inl (t, z, e)
    by (Plain t z (x ∷ xs)) e = inr (λ f. plain_apart t z x xs f.0 f.1 (sym e ∙ f.2))
    by (Raw text) e = inr (λ f. raw_apart text f.0 f.1 (sym e ∙ f.2))

-- unmarking can be decided, as the code that unmarks shows
abbrev pub Decided : List Block → (ChangesetView → Type 0) → Type 0
Decided blocks Known = (m : Member) → ((k : Member) × Unmarks blocks Known m k) ⊎ ((k : Member) → ¬ (Unmarks blocks Known m k))

depth_with : (blocks : List Block) (Known : ChangesetView → Type 0) → IsTable blocks → Decided blocks Known → (fuel : ℕ) (m : Member) → size_of m < fuel → (n : ℕ) × HasDepth blocks Known n m
unfolding HasDepth
depth_with blocks Known t decided zero m l = absurd (omega arith)
depth_with blocks Known t decided (suc fuel) m l = by (decided m) (bare_or_not m) (depth_with blocks Known t decided fuel)
  where
    by : ((k : Member) × Unmarks blocks Known m k) ⊎ ((k : Member) → ¬ (Unmarks blocks Known m k)) → IsBare m ⊎ (¬ (IsBare m)) → ((k : Member) → size_of k < fuel → (n : ℕ) × HasDepth blocks Known n k) → (n : ℕ) × HasDepth blocks Known n m
    by (inr none) b go = (0, inr none)
    by (inl u) (inl b) go = (0, inl (bare_is_plain blocks Known t m u.0 u.1 b))
    by (inl u) (inr b) go =
        let not_plain : ¬ (IsPlain blocks m) = λ p. b (plain_is_bare blocks m p) in
        let r = go u.0 (omega (arith, falls blocks Known t m u.0 u.1 not_plain)) in
        (suc r.0, (not_plain, u.0, u.1, r.1))

pub has_depth : (blocks : List Block) (Known : ChangesetView → Type 0) → IsTable blocks → Decided blocks Known → (m : Member) → (n : ℕ) × HasDepth blocks Known n m
has_depth blocks Known t decided m = depth_with blocks Known t decided (size_of m + 1) m (omega arith)
