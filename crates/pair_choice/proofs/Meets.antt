-- Changesets whose bodies collide, on the way to a depth.
use Rattle.std.proofs.Common.{◌≡◌, ℕ, zero, suc, ◌+◌, ◌<◌, ◌==◌, nat_lt, Bool, true, false, List, refl, sym, subst, ◌∙◌, arith}
use Rattle.std.proofs.lemmas.Bool.Decides.{nat_tests}
use Rattle.view_model.specs.View.{ChangesetView}
use Rattle.pair_model.specs.Block.{Block}
use Rattle.partner_model.specs.Partner.{Member, OfHg, OfGit, IsHeldView, Unmarks, IsPlain}
use Rattle.partner_model.specs.Given.{Peels, depth_limit}
use Rattle.partner_model.specs.Clash.{IsColliding, MeetsCollision}
use Rattle.depth_law.proofs.Depths.{unmarking_one}
use Rattle.pair_known.specs.Blocks.{IsHistoryHeld}
use Rattle.pair_known.specs.declared.known.Known.{Known}
use Rattle.pair_choice.specs.Depths.{IsClear, MeetsNone}
use Rattle.commit_rule.proofs.Tables.{table}
use Rattle.pair_choice.proofs.Histories.{apart}

abbrev Stored : Known → ChangesetView → Type 0
Stored k = IsHeldView k.hg

module _ (k : Known) (blocks : List Block) where
  -- what collides has an unmarking
  unmarks-of : (m : Member) → IsColliding blocks (Stored k) k.git m → (n : Member) × Unmarks blocks (Stored k) m n
  unmarks-of (OfHg h) c = (OfGit c.0, c.1)
  unmarks-of (OfGit v) c = absurd c

  -- of the member itself alone
  pub clear-first : (top : Member) → (¬ (IsColliding blocks (Stored k) k.git top)) → IsClear k blocks 1 top
  unfolding Peels
  clear-first top not zero n less p collides = not (subst (λ (x : Member). IsColliding blocks (Stored k) k.git x) (sym p) collides)
  clear-first top not (suc j) n less p collides = omega (arith, less)

  pub clear-all : (top : Member) → IsClear k blocks depth_limit top → MeetsNone k blocks top
  clear-all top clear x = clear x.count x.member x.below x.peels x.collides

  pub plain-meets : (m : Member) → IsPlain blocks m → MeetsNone k blocks m
  unfolding Peels
  plain-meets m plain x = by x.count x.peels
    where
      by : (i : ℕ) → Peels blocks (Stored k) i m x.member → ⊥
      by zero p = x.marked (subst (IsPlain blocks) p plain)
      by (suc i) p = p.0 plain

  pub meets : (i : ℕ) (top m : Member) → i < depth_limit → Peels blocks (Stored k) i top m → (¬ (IsPlain blocks m)) → IsColliding blocks (Stored k) k.git m → MeetsCollision blocks (Stored k) k.git top
  meets i top m less p marked collides = record { count = i; below = less; member = m; peels = p; marked = marked; collides = collides }

module _ (k : Known) (blocks : List Block) (history : IsHistoryHeld k blocks) where
  one : (m n o : Member) → Unmarks blocks (Stored k) m n → Unmarks blocks (Stored k) m o → n ≡ o
  one m n o u v = unmarking_one blocks (Stored k) (table k blocks history) (apart k blocks history) m n o u v

  -- the member that stands below by so many unmarkings is one
  same : (i : ℕ) (top m n : Member) → Peels blocks (Stored k) i top m → Peels blocks (Stored k) i top n → m ≡ n
  unfolding Peels
  same zero top m n p q = sym p ∙ q
  same (suc i) top m n p q = same i q.1 m n (subst (λ (x : Member). Peels blocks (Stored k) i x m) (one top p.1 q.1 p.2 q.2) p.3) q.3

  -- one above the last can be unmarked
  past : (i j : ℕ) (top m n : Member) → i < j → Peels blocks (Stored k) i top m → Peels blocks (Stored k) j top n → (o : Member) × Unmarks blocks (Stored k) m o
  unfolding Peels
  past zero zero top m n less p q = absurd (omega (arith, less))
  past zero (suc j) top m n less p q = (q.1, subst (λ (x : Member). Unmarks blocks (Stored k) x q.1) p q.2)
  past (suc i) zero top m n less p q = absurd (omega (arith, less))
  past (suc i) (suc j) top m n less p q = past i j q.1 m n (omega (arith, less)) (subst (λ (x : Member). Peels blocks (Stored k) i x m) (one top p.1 q.1 p.2 q.2) p.3) q.3

  pub clear-more : (i : ℕ) (top m : Member) → IsClear k blocks i top → Peels blocks (Stored k) i top m → (¬ (IsColliding blocks (Stored k) k.git m)) → IsClear k blocks (i + 1) top
  clear-more i top m clear p not j n less q collides = by (j == i) refl
    where
      by : (t : Bool) → (j == i) ≡ t → ⊥
      by true e =
          let is : j ≡ i = grind (arith, e, nat_tests) in
          let member = same i top n m (subst (λ (x : ℕ). Peels blocks (Stored k) x top n) is q) p in
          not (subst (λ (x : Member). IsColliding blocks (Stored k) k.git x) member collides)
      by false e =
          let other : ¬ (j ≡ i) = grind (arith, e, nat_tests) in
          clear j n (omega (arith, less, other)) q collides

  -- where the last one has no unmarking, none collides
  pub clear-end : (i : ℕ) (top m : Member) → IsClear k blocks i top → Peels blocks (Stored k) i top m → ((n : Member) → ¬ (Unmarks blocks (Stored k) m n)) → MeetsNone k blocks top
  clear-end i top m clear p none x = by (nat_lt i x.count) refl
    where
      not : ¬ (IsColliding blocks (Stored k) k.git m)
      not collides = let u = unmarks-of k blocks m collides in none u.0 u.1

      by : (t : Bool) → nat_lt i x.count ≡ t → ⊥
      by true e =
          let less : i < x.count = grind (arith, e, nat_tests) in
          let u = past i x.count top m x.member less p x.peels in
          none u.0 u.1
      by false e =
          let over : ¬ (i < x.count) = grind (arith, e, nat_tests) in
          let less : x.count < i + 1 = omega (arith, over) in
          clear-more i top m clear p not x.count x.member less x.peels x.collides

  pub none-meets : (m : Member) → ((n : Member) → ¬ (Unmarks blocks (Stored k) m n)) → MeetsNone k blocks m
  unfolding Peels
  none-meets m none = clear-end 0 m m nothing (itself m) none
    where
      nothing : IsClear k blocks 0 m
      nothing j n less p c = omega (arith, less)

      itself : (m : Member) → Peels blocks (Stored k) 0 m m
      itself m = refl
