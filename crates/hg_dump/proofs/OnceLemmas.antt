-- The first of each, and what is new.
use Rattle.std.proofs.Common.{◌≡◌, ◌||◌, Bool, true, false, not, List, [], ◌∷◌, ◌++◌, map, refl, ap, ◌∙◌}
use Rattle.std.specs.Prelude.{filter, if◌then◌else◌}
use Rattle.std.specs.List.{list_any}
use Rattle.std.proofs.lemmas.List.Elements.{filter-append}
use Rattle.text_model.specs.Lists.{Each, first_of_each, only_new}

module _ {X : Type 0} (same : X → X → Bool) where
  -- what an element more brings
  abbrev pub added : Bool → X → List X
  added known x = if known then [] else x ∷ []

  one-kept : (p : X → Bool) (x : X) → filter p (x ∷ []) ≡ (if p x then x ∷ [] else [])
  one-kept p x = refl

  pub first_of_each-push : (xs : List X) (y : X) → first_of_each same (xs ++ y ∷ []) ≡ first_of_each same xs ++ added (list_any (λ x. same x y) xs) y
  first_of_each-push [] y = refl
  first_of_each-push (x ∷ xs) y =
      ap (λ (l : List X). x ∷ l)
      (ap (filter (λ z. not (same x z))) (first_of_each-push xs y)
      ∙ filter-append (λ z. not (same x z)) (first_of_each same xs) (added (list_any (λ z. same z y) xs) y)
      ∙ ap (λ (l : List X). filter (λ z. not (same x z)) (first_of_each same xs) ++ l) (last (list_any (λ z. same z y) xs) (same x y) refl))
    where
      last : (known is : Bool) → same x y ≡ is → filter (λ z. not (same x z)) (added known y) ≡ added (is || known) y
      last true true e = refl
      last true false e = refl
      last false true e = rw e refl
      last false false e = rw e refl

  pub only_new-push : (old new : List X) (y : X) → only_new same old (new ++ y ∷ []) ≡ only_new same old new ++ added (list_any (λ x. same x y) new || list_any (same y) old) y
  only_new-push old new y =
      ap (filter (λ x. not (list_any (same x) old))) (first_of_each-push new y)
      ∙ filter-append (λ x. not (list_any (same x) old)) (first_of_each same new) (added (list_any (λ x. same x y) new) y)
      ∙ ap (λ (l : List X). only_new same old new ++ l) (last (list_any (λ x. same x y) new) (list_any (same y) old) refl)
    where
      last : (known is : Bool) → list_any (same y) old ≡ is → filter (λ x. not (list_any (same x) old)) (added known y) ≡ added (known || is) y
      last true is e = refl
      last false true e = rw e refl
      last false false e = rw e refl

-- ---- the same of images

module _ {X Y : Type 0} (f : X → Y) (same : X → X → Bool) (same' : Y → Y → Bool) (agrees : (a b : X) → same' (f a) (f b) ≡ same a b) where
  map-filter : (p : X → Bool) (p' : Y → Bool) → ((x : X) → p' (f x) ≡ p x) → (xs : List X) → map f (filter p xs) ≡ filter p' (map f xs)
  map-filter p p' e [] = refl
  map-filter p p' e (x ∷ xs) = by (p x) refl (map-filter p p' e xs)
    where
      by : (b : Bool) → p x ≡ b → map f (filter p xs) ≡ filter p' (map f xs) → map f (filter p (x ∷ xs)) ≡ filter p' (map f (x ∷ xs))
      by true t rest = rw (t, e x ∙ t) (ap (λ (l : List Y). f x ∷ l) rest)
      by false t rest = rw (t, e x ∙ t) rest

  any-image : (x : X) (xs : List X) → list_any (same' (f x)) (map f xs) ≡ list_any (same x) xs
  any-image x [] = refl
  any-image x (y ∷ ys) = (λ i. agrees x y i || any-image x ys i)

  first_of_each-image : (xs : List X) → map f (first_of_each same xs) ≡ first_of_each same' (map f xs)
  first_of_each-image [] = refl
  first_of_each-image (x ∷ xs) =
      ap (λ (l : List Y). f x ∷ l)
      (map-filter (λ y. not (same x y)) (λ y. not (same' (f x) y)) (λ y. ap not (agrees x y)) (first_of_each same xs)
      ∙ ap (filter (λ y. not (same' (f x) y))) (first_of_each-image xs))

  pub only_new-image : (old new : List X) → map f (only_new same old new) ≡ only_new same' (map f old) (map f new)
  only_new-image old new =
      map-filter (λ x. not (list_any (same x) old)) (λ y. not (list_any (same' y) (map f old))) (λ x. ap not (any-image x old)) (first_of_each same new)
      ∙ ap (filter (λ y. not (list_any (same' y) (map f old)))) (first_of_each-image new)

-- ---- what holds of each

module _ {X : Type 0} (P : X → Type 0) where
  pub Each-filter : (p : X → Bool) (xs : List X) → Each P xs → Each P (filter p xs)
  Each-filter p [] h = tt
  Each-filter p (x ∷ xs) h = by (p x) refl (Each-filter p xs h.1)
    where
      by : (b : Bool) → p x ≡ b → Each P (filter p xs) → Each P (filter p (x ∷ xs))
      by true e rest = rw e (h.0, rest)
      by false e rest = rw e rest

  Each-first : (same : X → X → Bool) (xs : List X) → Each P xs → Each P (first_of_each same xs)
  Each-first same [] h = tt
  Each-first same (x ∷ xs) h = (h.0, Each-filter (λ y. not (same x y)) (first_of_each same xs) (Each-first same xs h.1))

  pub Each-new : (same : X → X → Bool) (old new : List X) → Each P new → Each P (only_new same old new)
  Each-new same old new h = Each-filter (λ x. not (list_any (same x) old)) (first_of_each same new) (Each-first same new h)

  pub Each-append : (xs ys : List X) → Each P xs → Each P ys → Each P (xs ++ ys)
  Each-append [] ys h k = k
  Each-append (x ∷ xs) ys h k = (h.0, Each-append xs ys h.1 k)
