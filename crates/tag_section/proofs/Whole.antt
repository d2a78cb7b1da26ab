-- Lists that lose no element.
use Rattle.std.proofs.Common.{◌≡◌, ◌≤◌, Bool, true, false, not, List, [], ◌∷◌, length, refl, ap, ◌∙◌, arith}
use Rattle.std.specs.Prelude.{filter, if◌then◌else◌, bytes_eq}
use Rattle.std.specs.List.{list_any}
use Rattle.text_model.specs.Lists.{Each, first_of_each}
use Rattle.text_model.specs.Id.{Id}
use Rattle.text_model.proofs.Options.{not_true, or_parts}
use Rattle.text_model.proofs.TestLemmas.{both}
use Rattle.git_model.specs.Tree.{has_distinct}
use Rattle.git_model.specs.Object.{Object, same_object}
use Rattle.state_model.specs.Kept.{ids_of}

module _ {X : Type 0} (p : X → Bool) where
  pub filter-short : (xs : List X) → length (filter p xs) ≤ length xs
  filter-short [] = omega arith
  filter-short (x ∷ xs) = by (p x) (filter-short xs)
    where
      by : (t : Bool) → length (filter p xs) ≤ length xs → length (if t then x ∷ filter p xs else filter p xs) ≤ length (x ∷ xs)
      by true le = omega (arith, le)
      by false le = omega (arith, le)

  -- what keeps its length, passes
  pub filter-passes : (xs : List X) → length (filter p xs) ≡ length xs → Each (λ x. p x ≡ true) xs
  filter-passes [] e = tt
  filter-passes (x ∷ xs) e = by (p x) refl e (filter-passes xs)
    where
      by : (t : Bool) → p x ≡ t → length (if t then x ∷ filter p xs else filter p xs) ≡ length (x ∷ xs)
          → (length (filter p xs) ≡ length xs → Each (λ y. p y ≡ true) xs) → Each (λ y. p y ≡ true) (x ∷ xs)
      by true t e rest = (t, rest (omega (arith, e)))
      by false t e rest = absurd (omega (arith, e, filter-short xs))

  pub filter-all : (xs : List X) → Each (λ x. p x ≡ true) xs → filter p xs ≡ xs
  filter-all [] h = refl
  filter-all (x ∷ xs) h = ap (λ (b : Bool). if b then x ∷ filter p xs else filter p xs) h.0 ∙ ap (λ (l : List X). x ∷ l) (filter-all xs h.1)

module _ {X : Type 0} (same : X → X → Bool) where
  pub first-short : (xs : List X) → length (first_of_each same xs) ≤ length xs
  first-short [] = omega arith
  first-short (x ∷ xs) = omega (arith, filter-short (λ y. not (same x y)) (first_of_each same xs), first-short xs)

  -- what keeps its length, has each element once
  pub first-whole : (xs : List X) → length (first_of_each same xs) ≡ length xs → first_of_each same xs ≡ xs
  first-whole [] e = refl
  first-whole (x ∷ xs) e =
      let less = filter-short (λ y. not (same x y)) (first_of_each same xs) in
      let inner : length (first_of_each same xs) ≡ length xs = omega (arith, less, first-short xs, e) in
      let outer : length (filter (λ y. not (same x y)) (first_of_each same xs)) ≡ length (first_of_each same xs) = omega (arith, less, first-short xs, e) in
      ap (λ (l : List X). x ∷ l) (filter-all (λ y. not (same x y)) (first_of_each same xs) (filter-passes (λ y. not (same x y)) (first_of_each same xs) outer) ∙ first-whole xs inner)

apart : (id : Id) (os : List Object) → list_any (bytes_eq id) (ids_of os) ≡ false → Each (λ o. not (bytes_eq id o.id) ≡ true) os
apart id [] h = tt
apart id (o ∷ os) h = let p = or_parts (bytes_eq id o.id) (list_any (bytes_eq id) (ids_of os)) h in (ap not p.0, apart id os p.1)

-- objects of which no two have one id are all the first of their ids
pub first-distinct : (os : List Object) → has_distinct (ids_of os) ≡ true → first_of_each same_object os ≡ os
first-distinct [] h = refl
first-distinct (o ∷ os) h =
    let p = both (not (list_any (bytes_eq o.id) (ids_of os))) (has_distinct (ids_of os)) h in
    ap (λ (l : List Object). o ∷ filter (λ y. not (same_object o y)) l) (first-distinct os p.1)
    ∙ ap (λ (l : List Object). o ∷ l) (filter-all (λ y. not (same_object o y)) os (apart o.id os (not_true (list_any (bytes_eq o.id) (ids_of os)) p.0)))
