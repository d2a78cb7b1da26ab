-- The order of names, where one may begin with the other.
use Rattle.std.proofs.Common.{◌≡◌, ◌==◌, Bool, true, false, [], ◌∷◌, ◌++◌, length, take, drop, refl, sym, ap, ◌∙◌, Ordering, Less, Equal, Greater, nat_cmp, is_lt, true≢false, eq-eqb, take-append-drop}
use Rattle.std.specs.Ordering.{ordering_then}
use Rattle.std.specs.Cmp.Lexicographic.{slice_cmp, pointwise}
use Rattle.std.proofs.lemmas.Cmp.{nat_cmp_total, tied_itself, ranked}
use Rattle.text_model.specs.Text.{Bytes, is_below}
use Rattle.git_model.proofs.WordLemmas.{exact}

-- what begins alike is ordered by the rest
pub below-front : (base xs ys : Bytes) → is_below (base ++ xs) (base ++ ys) ≡ is_below xs ys
below-front [] xs ys = refl
below-front (b ∷ base) xs ys =
    ap (λ (o : Ordering). is_lt (ordering_then o (slice_cmp nat_cmp (base ++ xs) (base ++ ys)))) (tied_itself nat_cmp_total b) ∙ below-front base xs ys

-- what has the name as its front goes on from it
pub goes_on : (name text : Bytes) → pointwise ◌==◌ (take (length name) text) name ≡ true → text ≡ name ++ drop (length name) text
goes_on name text h = sym (take-append-drop (length name) text) ∙ ap (λ (l : Bytes). l ++ drop (length name) text) (exact (take (length name) text) name h)

-- the first names the front of the second
abbrev pub fronts : Bytes → Bytes → Bool
fronts name text = pointwise ◌==◌ (take (length name) text) name

-- where neither goes on from the other, nothing behind them counts
pub below-apart : (xs ys s t : Bytes) → fronts xs ys ≡ false → fronts ys xs ≡ false → is_below xs ys ≡ is_below (xs ++ s) (ys ++ t)
below-apart [] ys s t h k = absurd (true≢false h)
below-apart (x ∷ xs) [] s t h k = absurd (true≢false k)
below-apart (x ∷ xs) (y ∷ ys) s t h k = by (nat_cmp x y) refl (below-apart xs ys s t)
  where
    by : (o : Ordering) → nat_cmp x y ≡ o → (fronts xs ys ≡ false → fronts ys xs ≡ false → is_below xs ys ≡ is_below (xs ++ s) (ys ++ t)) → is_below (x ∷ xs) (y ∷ ys) ≡ is_below (x ∷ (xs ++ s)) (y ∷ (ys ++ t))
    by Less e later = rw e refl
    by Greater e later = rw e refl
    by Equal e later =
        let same : x ≡ y = ranked x y Equal (sym e) in
        let a : fronts xs ys ≡ false = sym (rw (eq-eqb y x (sym same)) refl) ∙ h in
        let b : fronts ys xs ≡ false = sym (rw (eq-eqb x y same) refl) ∙ k in
        rw e (later a b)
