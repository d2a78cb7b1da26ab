-- A test that passes more elements with each step, or stands still from then on, is settled after as many steps as there are elements, and one.
use Rattle.std.proofs.Common.{◌≡◌, ◌⊎◌, ◌+◌, ◌<◌, ◌≤◌, ℕ, zero, suc, Bool, true, false, true≢false, List, [], ◌∷◌, length, filter, refl, sym, ap, subst, ◌∙◌, inl, inr, arith, if◌then◌else◌}
use Rattle.text_model.specs.Lists.{In}

-- one step more changes nothing
abbrev pub IsStill : {X : Type 0} → (ℕ → X → Bool) → List X → ℕ → Type 0
IsStill f xs n = (x : _) → In x xs → f n x ≡ f (suc n) x

module _ {X : Type 0} where
  filter-short : (p : X → Bool) (xs : List X) → length (filter p xs) ≤ length xs
  filter-short p [] = omega arith
  filter-short p (x ∷ xs) = by (p x) (filter-short p xs)
    where
      by : (t : Bool) → length (filter p xs) ≤ length xs → length (if t then x ∷ filter p xs else filter p xs) ≤ length (x ∷ xs)
      by true r = omega (arith, r)
      by false r = omega (arith, r)

  filter-wider : (p q : X → Bool) (xs : List X) → ((x : X) → p x ≡ true → q x ≡ true) → length (filter p xs) ≤ length (filter q xs)
  filter-wider p q [] h = omega arith
  filter-wider p q (x ∷ xs) h = by (p x) (q x) refl refl (filter-wider p q xs h)
    where
      by : (s t : Bool) → p x ≡ s → q x ≡ t → length (filter p xs) ≤ length (filter q xs) → length (if s then x ∷ filter p xs else filter p xs) ≤ length (if t then x ∷ filter q xs else filter q xs)
      by true true e f r = omega (arith, r)
      by true false e f r = absurd (true≢false (sym (h x e) ∙ f))
      by false true e f r = omega (arith, r)
      by false false e f r = r

  -- a wider test passes more elements, or just the same
  more-or-same : (p q : X → Bool) (xs : List X) → ((x : X) → p x ≡ true → q x ≡ true) → (length (filter p xs) < length (filter q xs)) ⊎ ((x : X) → In x xs → p x ≡ q x)
  more-or-same p q [] wider = inr (λ x i. absurd i)
  more-or-same p q (x ∷ xs) wider = by (p x) (q x) refl refl (more-or-same p q xs wider)
    where
      same_here : p x ≡ q x → ((y : X) → In y xs → p y ≡ q y) → (y : X) → In y (x ∷ xs) → p y ≡ q y
      same_here e same y (inl is) = ap p is ∙ e ∙ sym (ap q is)
      same_here e same y (inr i) = same y i

      by : (s t : Bool) → p x ≡ s → q x ≡ t → (length (filter p xs) < length (filter q xs)) ⊎ ((y : X) → In y xs → p y ≡ q y)
          → (length (if s then x ∷ filter p xs else filter p xs) < length (if t then x ∷ filter q xs else filter q xs)) ⊎ ((y : X) → In y (x ∷ xs) → p y ≡ q y)
      by true true e f (inl lt) = inl (omega (arith, lt))
      by true true e f (inr same) = inr (same_here (e ∙ sym f) same)
      by true false e f rest = absurd (true≢false (sym (wider x e) ∙ f))
      by false true e f rest = inl (omega (arith, filter-wider p q xs wider))
      by false false e f (inl lt) = inl lt
      by false false e f (inr same) = inr (same_here (e ∙ sym f) same)

module _ {X : Type 0} (f : ℕ → X → Bool) (more : (n : ℕ) (x : X) → f n x ≡ true → f (suc n) x ≡ true) where
  pub more-steps : (d n : ℕ) (x : X) → f n x ≡ true → f (d + n) x ≡ true
  more-steps zero n x h =
      let none : n ≡ 0 + n = omega arith in
      subst (λ (m : ℕ). f m x ≡ true) none h
  more-steps (suc d) n x h =
      let one : suc (d + n) ≡ suc d + n = omega arith in
      subst (λ (m : ℕ). f m x ≡ true) one (more (d + n) x (more-steps d n x h))

  module _ (xs : List X) (still-next : (n : ℕ) → IsStill f xs n → IsStill f xs (suc n)) where
    grows : (n : ℕ) → (n ≤ length (filter (f n) xs)) ⊎ IsStill f xs n
    grows zero = inl (omega arith)
    grows (suc n) = by (grows n)
      where
        next : n ≤ length (filter (f n) xs) → (length (filter (f n) xs) < length (filter (f (suc n)) xs)) ⊎ IsStill f xs n → (suc n ≤ length (filter (f (suc n)) xs)) ⊎ IsStill f xs (suc n)
        next le (inl lt) = inl (omega (arith, le, lt))
        next le (inr same) = inr (still-next n same)

        by : (n ≤ length (filter (f n) xs)) ⊎ IsStill f xs n → (suc n ≤ length (filter (f (suc n)) xs)) ⊎ IsStill f xs (suc n)
        by (inl le) = next le (more-or-same (f n) (f (suc n)) xs (more n))
        by (inr still) = inr (still-next n still)

    still-end : IsStill f xs (length xs + 1)
    still-end = by (grows (length xs + 1))
      where
        by : (length xs + 1 ≤ length (filter (f (length xs + 1)) xs)) ⊎ IsStill f xs (length xs + 1) → IsStill f xs (length xs + 1)
        by (inl le) = absurd (omega (arith, le, filter-short (f (length xs + 1)) xs))
        by (inr still) = still

    still-on : (d : ℕ) → IsStill f xs (d + (length xs + 1))
    still-on zero =
        let none : length xs + 1 ≡ 0 + (length xs + 1) = omega arith in
        subst (IsStill f xs) none still-end
    still-on (suc d) =
        let one : suc (d + (length xs + 1)) ≡ suc d + (length xs + 1) = omega arith in
        subst (IsStill f xs) one (still-next (d + (length xs + 1)) (still-on d))

    same-on : (d : ℕ) (x : X) → In x xs → f (length xs + 1) x ≡ f (d + (length xs + 1)) x
    same-on zero x i =
        let none : length xs + 1 ≡ 0 + (length xs + 1) = omega arith in
        ap (λ (m : ℕ). f m x) none
    same-on (suc d) x i =
        let one : suc (d + (length xs + 1)) ≡ suc d + (length xs + 1) = omega arith in
        same-on d x i ∙ still-on d x i ∙ ap (λ (m : ℕ). f m x) one

    -- what passes after some steps passes after these
    pub settled : (n : ℕ) (x : X) → In x xs → f n x ≡ true → f (length xs + 1) x ≡ true
    settled n x i h =
        let turned : length xs + 1 + n ≡ n + (length xs + 1) = omega arith in
        same-on n x i ∙ subst (λ (m : ℕ). f m x ≡ true) turned (more-steps (length xs + 1) n x h)
