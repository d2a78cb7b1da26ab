-- What is new of two lists: what is new of the first, and behind it what is new of the second over both.
use Rattle.std.proofs.Common.{◌≡◌, inl, inr, Bool, true, false, true≢false, not, ◌||◌, List, [], ◌∷◌, ◌++◌, refl, sym, ap, ◌∙◌}
use Rattle.std.specs.Prelude.{filter, if◌then◌else◌}
use Rattle.std.specs.List.{list_any}
use Rattle.std.proofs.lemmas.List.Elements.{filter-append}
use Rattle.std.proofs.lemmas.List.Folds.{list_any-append}
use Rattle.text_model.specs.Lists.{In, first_of_each, only_new}
use Rattle.dump_law.proofs.Elements.{of-first}

-- two filters are one where its test is both of theirs
pub filter_both : {X : Type 0} (p q r : X → Bool) (xs : List X) → ((x : X) → r x ≡ (if q x then p x else false)) → filter p (filter q xs) ≡ filter r xs
filter_both p q r [] h = refl
filter_both p q r (x ∷ xs) h = by (q x) refl (filter_both p q r xs h)
  where
    by : (t : Bool) → q x ≡ t → filter p (filter q xs) ≡ filter r xs → filter p (if t then x ∷ filter q xs else filter q xs) ≡ filter r (x ∷ xs)
    by true e rest = rw (h x, e) (λ i. if p x then x ∷ rest i else rest i)
    by false e rest = rw (h x, e) rest

pub filter_same : {X : Type 0} (p q : X → Bool) (xs : List X) → ((x : X) → p x ≡ q x) → filter p xs ≡ filter q xs
filter_same p q [] h = refl
filter_same p q (x ∷ xs) h = (λ i. if h x i then x ∷ filter_same p q xs h i else filter_same p q xs h i)

pub filter_all : {X : Type 0} (xs : List X) → filter (λ x. true) xs ≡ xs
filter_all [] = refl
filter_all (x ∷ xs) = ap (λ l. x ∷ l) (filter_all xs)

module _ {X : Type 0} (same : X → X → Bool) (comm : (a b : X) → same a b ≡ same b a) where
  both_new : (a b : Bool) → not (a || b) ≡ (if not b then not a else false)
  both_new true true = refl
  both_new true false = refl
  both_new false true = refl
  both_new false false = refl

  pub first_of_each-append : (xs ys : List X) → first_of_each same (xs ++ ys) ≡ first_of_each same xs ++ only_new same xs ys
  first_of_each-append [] ys = sym (filter_all (first_of_each same ys))
  first_of_each-append (x ∷ xs) ys =
      ap (λ l. x ∷ l)
      (ap (filter (λ y. not (same x y))) (first_of_each-append xs ys)
      ∙ filter-append (λ y. not (same x y)) (first_of_each same xs) (only_new same xs ys)
      ∙ ap (λ l. filter (λ y. not (same x y)) (first_of_each same xs) ++ l)
      (filter_both (λ y. not (same x y)) (λ y. not (list_any (same y) xs)) (λ y. not (list_any (same y) (x ∷ xs))) (first_of_each same ys)
      (λ y. ap (λ b. not (b || list_any (same y) xs)) (comm y x) ∙ both_new (same x y) (list_any (same y) xs))))

  pub only_new-append : (base xs ys : List X) → only_new same base (xs ++ ys) ≡ only_new same base xs ++ only_new same (base ++ xs) ys
  only_new-append base xs ys =
      ap (filter (λ x. not (list_any (same x) base))) (first_of_each-append xs ys)
      ∙ filter-append (λ x. not (list_any (same x) base)) (first_of_each same xs) (only_new same xs ys)
      ∙ ap (λ l. only_new same base xs ++ l)
      (filter_both (λ x. not (list_any (same x) base)) (λ y. not (list_any (same y) xs)) (λ y. not (list_any (same y) (base ++ xs))) (first_of_each same ys)
      (λ y. ap not (list_any-append (same y) base xs) ∙ both_new (list_any (same y) base) (list_any (same y) xs)))

  pub only_new-nothing : (xs : List X) → only_new same [] xs ≡ first_of_each same xs
  only_new-nothing xs = filter_all (first_of_each same xs)

-- a filter that tells not between what is the same leaves the first of each
pub filter_first : {X : Type 0} (p : X → Bool) (same : X → X → Bool) (xs : List X) → ((x y : X) → In x xs → In y xs → same x y ≡ true → p y ≡ p x) → filter p (first_of_each same xs) ≡ first_of_each same (filter p xs)
filter_first p same [] h = refl
filter_first {X = X} p same (x ∷ xs) h = by (p x) refl (filter_first p same xs (λ a b i j. h a b (inr i) (inr j)))
  where
    turned : (ys : List X) → filter p (filter (λ y. not (same x y)) ys) ≡ filter (λ y. not (same x y)) (filter p ys)
    turned [] = refl
    turned (y ∷ ys) = at (p y) refl (same x y) refl (turned ys)
      where
        at : (t : Bool) → p y ≡ t → (u : Bool) → same x y ≡ u → filter p (filter (λ y. not (same x y)) ys) ≡ filter (λ y. not (same x y)) (filter p ys)
            → filter p (filter (λ y. not (same x y)) (y ∷ ys)) ≡ filter (λ y. not (same x y)) (filter p (y ∷ ys))
        at true e true f rest = rw (e, f) rest
        at true e false f rest = rw (f, e) (rw f (ap (λ (l : List X). y ∷ l) rest))
        at false e true f rest = rw (e, f) rest
        at false e false f rest = rw (f, e) rest

    none : p x ≡ false → (ys : List X) → ((y : X) → In y ys → In y (x ∷ xs)) → filter (λ y. not (same x y)) (filter p ys) ≡ filter p ys
    none e [] of = refl
    none e (y ∷ ys) of = at (p y) refl (same x y) refl (none e ys (λ z i. of z (inr i)))
      where
        at : (t : Bool) → p y ≡ t → (u : Bool) → same x y ≡ u → filter (λ y. not (same x y)) (filter p ys) ≡ filter p ys → filter (λ y. not (same x y)) (filter p (y ∷ ys)) ≡ filter p (y ∷ ys)
        at true f true g rest = absurd (true≢false (sym (sym (h x y (inl refl) (of y (inl refl)) g) ∙ f) ∙ e))
        at true f false g rest = rw (f, g) (ap (λ (l : List X). y ∷ l) rest)
        at false f u g rest = rw f rest

    by : (t : Bool) → p x ≡ t → filter p (first_of_each same xs) ≡ first_of_each same (filter p xs) → filter p (first_of_each same (x ∷ xs)) ≡ first_of_each same (filter p (x ∷ xs))
    by true e rest = rw e (ap (λ (l : List X). x ∷ l) (turned (first_of_each same xs) ∙ ap (filter (λ y. not (same x y))) rest))
    by false e rest = rw e (turned (first_of_each same xs) ∙ none e (first_of_each same xs) (λ y i. inr (of-first same y xs i)) ∙ rest)
