-- A stable sort gives the order that `in_order` gives.
use Rattle.std.proofs.Common.{◌≡◌, ◌+◌, ℕ, suc, Bool, true, false, not, List, [], ◌∷◌, get_or, refl, sym, ap, subst, ◌∙◌, arith, true≢false, inl, inr}
use Rattle.std.specs.Prelude.{filter, if◌then◌else◌}
use Rattle.std.specs.Cmp.{IsStrictWeakOrder}
use Rattle.std.specs.List.Sorted.{IsSortedBy, IsStableBy, ties}
use Rattle.text_model.specs.Lists.{in_order, with_inserted, Each, In}
use Rattle.text_model.proofs.Elements.{each_in}
use Rattle.text_model.proofs.EachLemmas.{Each-weaker}
use Rattle.text_model.proofs.TestLemmas.{both}

in_filter : {X : Type 0} (test : X → Bool) (xs : List X) (x : X) → In x (filter test xs) → In x xs
in_filter test [] x i = i
in_filter test (y ∷ ys) x i = by (test y) i (in_filter test ys x)
  where
    by : (t : Bool) → In x (if t then y ∷ filter test ys else filter test ys) → (In x (filter test ys) → In x ys) → In x (y ∷ ys)
    by true (inl e) rec = inl e
    by true (inr j) rec = inr (rec j)
    by false j rec = inr (rec j)

module _ {X : Type 0} (lt : X → X → Bool) (o : IsStrictWeakOrder lt) where
  -- no element is below one before it
  abbrev pub Rises : List X → Type 0
  Rises [] = Unit {0}
  Rises (x ∷ xs) = Each (λ y. lt y x ≡ false) xs × Rises xs

  not_self : (x : X) → lt x x ≡ false
  not_self x = by (lt x x) refl
    where
      by : (t : Bool) → lt x x ≡ t → lt x x ≡ false
      by true e = o.one_way x x e
      by false e = e

  later : (x y : X) (ys : List X) → lt y x ≡ false → Each (λ z. lt z y ≡ false) ys → Each (λ z. lt z x ≡ false) ys
  later x y ys e h = Each-weaker (λ z. lt z y ≡ false) (λ z. lt z x ≡ false) (λ z f. o.chain z y x f e) ys h

  rises_sorted : (xs : List X) → IsSortedBy lt xs → Rises xs
  rises_sorted [] up = tt
  rises_sorted (x ∷ []) up = (tt, tt)
  rises_sorted (x ∷ y ∷ ys) up =
      let first : lt y x ≡ false = up 0 x (omega arith) (omega arith) in
      let rest = rises_sorted (y ∷ ys)
      (λ k d z h. let next : suc k + 1 ≡ suc (k + 1) = omega arith in subst (λ (m : ℕ). lt (get_or (x ∷ y ∷ ys) m d) (get_or (y ∷ ys) k d) ≡ false) next (up (suc k) d (omega arith) (omega (arith, h)))) in
      ((first, later x y ys first rest.0), rest)

  each_with : (P : X → Type 0) (x : X) (ys : List X) → P x → Each P ys → Each P (with_inserted lt x ys)
  each_with P x [] p h = (p, tt)
  each_with P x (y ∷ ys) p h = by (lt y x) (each_with P x ys p h.1)
    where
      by : (t : Bool) → Each P (with_inserted lt x ys) → Each P (if t then y ∷ with_inserted lt x ys else x ∷ y ∷ ys)
      by true rec = (h.0, rec)
      by false rec = (p, h)

  rises_with : (x : X) (ys : List X) → Rises ys → Rises (with_inserted lt x ys)
  rises_with x [] h = (tt, tt)
  rises_with x (y ∷ ys) h = by (lt y x) refl (rises_with x ys h.1)
    where
      by : (t : Bool) → lt y x ≡ t → Rises (with_inserted lt x ys) → Rises (if t then y ∷ with_inserted lt x ys else x ∷ y ∷ ys)
      by true e rec = (each_with (λ z. lt z y ≡ false) x ys (o.one_way y x e) h.0, rec)
      by false e rec = ((e, later x y ys e h.0), h)

  rises_in_order : (xs : List X) → Rises (in_order lt xs)
  rises_in_order [] = tt
  rises_in_order (x ∷ xs) = rises_with x (in_order lt xs) (rises_in_order xs)

  -- ---- those that tie

  tie : (z x : X) → lt z x ≡ false → lt x z ≡ false → ties lt z x ≡ true
  tie z x a b = rw (a, b) refl

  no_tie : (z x : X) → ties lt z x ≡ true → (lt z x ≡ false) × (lt x z ≡ false)
  no_tie z x e = let p = both (not (lt z x)) (not (lt x z)) e in (is (lt z x) p.0, is (lt x z) p.1)
    where
      is : (t : Bool) → not t ≡ true → t ≡ false
      is true h = absurd (true≢false (sym h))
      is false h = refl

  ties_with : (z x : X) (ys : List X) → filter (ties lt z) (with_inserted lt x ys) ≡ filter (ties lt z) (x ∷ ys)
  ties_with z x [] = refl
  ties_with z x (y ∷ ys) = by (lt y x) refl (ties_with z x ys)
    where
      swapped : (a b : Bool) → ((a ≡ true) → (b ≡ true) → ⊥) → (G : List X) → (if a then y ∷ (if b then x ∷ G else G) else (if b then x ∷ G else G)) ≡ (if b then x ∷ (if a then y ∷ G else G) else (if a then y ∷ G else G))
      swapped true true h G = absurd (h refl refl)
      swapped true false h G = refl
      swapped false true h G = refl
      swapped false false h G = refl

      apart : lt y x ≡ true → ties lt z y ≡ true → ties lt z x ≡ true → ⊥
      apart e a b = true≢false (sym e ∙ o.chain y z x (no_tie z y a).1 (no_tie z x b).0)

      by : (t : Bool) → lt y x ≡ t → filter (ties lt z) (with_inserted lt x ys) ≡ filter (ties lt z) (x ∷ ys)
          → filter (ties lt z) (if t then y ∷ with_inserted lt x ys else x ∷ y ∷ ys) ≡ filter (ties lt z) (x ∷ y ∷ ys)
      by true e rec =
          ap (λ (F : List X). if ties lt z y then y ∷ F else F) rec ∙ swapped (ties lt z y) (ties lt z x) (apart e) (filter (ties lt z) ys)
      by false e rec = refl

  ties_in_order : (z : X) (xs : List X) → filter (ties lt z) (in_order lt xs) ≡ filter (ties lt z) xs
  ties_in_order z [] = refl
  ties_in_order z (x ∷ xs) = ties_with z x (in_order lt xs) ∙ ap (λ (F : List X). if ties lt z x then x ∷ F else F) (ties_in_order z xs)

  -- ---- the order is one

  first_tie : (x : X) (xs : List X) → filter (ties lt x) (x ∷ xs) ≡ x ∷ filter (ties lt x) xs
  first_tie x xs = rw (tie x x (not_self x) (not_self x)) refl

  in_first : (x y : X) (ys : List X) → Rises (y ∷ ys) → In x (y ∷ ys) → lt x y ≡ false
  in_first x y ys h (inl e) = ap (λ (w : X). lt w y) e ∙ not_self y
  in_first x y ys h (inr i) = each_in (λ z. lt z y ≡ false) ys x h.0 i

  -- the first of one list is not below the first of the other
  not_below : (x y : X) (xs ys : List X) → Rises (y ∷ ys) → filter (ties lt x) (x ∷ xs) ≡ filter (ties lt x) (y ∷ ys) → lt x y ≡ false
  not_below x y xs ys h same =
      in_first x y ys h (in_filter (ties lt x) (y ∷ ys) x (subst (λ (l : List X). In x l) (sym (first_tie x xs) ∙ same) (inl refl)))

  heads : {a b : X} {xs ys : List X} → a ∷ xs ≡ b ∷ ys → a ≡ b
  heads e = cc

  first_same : (x y : X) (xs ys : List X) → Rises (x ∷ xs) → Rises (y ∷ ys) → ((z : X) → filter (ties lt z) (x ∷ xs) ≡ filter (ties lt z) (y ∷ ys)) → x ≡ y
  first_same x y xs ys h k same =
      let tied : ties lt x y ≡ true = tie x y (not_below x y xs ys k (same x)) (not_below y x ys xs h (sym (same y))) in
      heads (sym (first_tie x xs) ∙ same x ∙ ap (λ (t : Bool). if t then y ∷ filter (ties lt x) ys else filter (ties lt x) ys) tied)

  tails : (x : X) (t : Bool) (xs ys : List X) → (if t then x ∷ xs else xs) ≡ (if t then x ∷ ys else ys) → xs ≡ ys
  tails x true xs ys e = cc
  tails x false xs ys e = e

  tails_same : (x y : X) (xs ys : List X) → x ≡ y → ((z : X) → filter (ties lt z) (x ∷ xs) ≡ filter (ties lt z) (y ∷ ys)) → (z : X) → filter (ties lt z) xs ≡ filter (ties lt z) ys
  tails_same x y xs ys first same z =
      tails x (ties lt z x) (filter (ties lt z) xs) (filter (ties lt z) ys) (same z ∙ ap (λ (w : X). if ties lt z w then w ∷ filter (ties lt z) ys else filter (ties lt z) ys) (sym first))

  pub one_order : (xs ys : List X) → Rises xs → Rises ys → ((z : X) → filter (ties lt z) xs ≡ filter (ties lt z) ys) → xs ≡ ys
  one_order [] [] h k same = refl
  one_order [] (y ∷ ys) h k same = absurd (none (same y ∙ first_tie y ys))
    where
      none : [] ≡ y ∷ filter (ties lt y) ys → ⊥
      none e = cc
  one_order (x ∷ xs) [] h k same = absurd (none (sym (first_tie x xs) ∙ same x))
    where
      none : x ∷ filter (ties lt x) xs ≡ [] → ⊥
      none e = cc
  one_order (x ∷ xs) (y ∷ ys) h k same =
      let first = first_same x y xs ys h k same in
      (λ i. first i ∷ one_order xs ys h.1 k.1 (tails_same x y xs ys first same) i)

  pub sorted_is : (xs ys : List X) → IsSortedBy lt ys → IsStableBy lt xs ys → ys ≡ in_order lt xs
  sorted_is xs ys up stable = one_order ys (in_order lt xs) (rises_sorted ys up) (rises_in_order xs) (λ z. stable z ∙ sym (ties_in_order z xs))
