-- Ids that are distinct.
use Rattle.std.proofs.Common.{◌≡◌, Bool, true, false, true≢false, not, List, [], ◌∷◌, ◌++◌, map, refl, sym, ap, ◌∙◌, inl, inr}
use Rattle.std.specs.Prelude.{bytes_eq}
use Rattle.std.specs.List.{list_any}
use Rattle.std.proofs.lemmas.List.Folds.{list_any-append}
use Rattle.text_model.specs.Lists.{Each, In}
use Rattle.text_model.specs.Text.{Bytes}
use Rattle.text_model.specs.Id.{Id}
use Rattle.text_model.proofs.Options.{or_parts, not_true}
use Rattle.text_model.proofs.TestLemmas.{both, bytes_eq-sym, bytes_eq-is, bytes_eq-self}
use Rattle.git_model.specs.Tree.{has_distinct}

-- no id of the first list stands in the second
pub distinct-both : (xs ys : List Id) → has_distinct xs ≡ true → has_distinct ys ≡ true → Each (λ y. list_any (bytes_eq y) xs ≡ false) ys → has_distinct (xs ++ ys) ≡ true
distinct-both [] ys h k each = k
distinct-both (x ∷ xs) ys h k each =
    let parts = both (not (list_any (bytes_eq x) xs)) (has_distinct xs) h in
    rw (list_any-append (bytes_eq x) xs ys, not_true (list_any (bytes_eq x) xs) parts.0, front ys each, distinct-both xs ys parts.1 k (rest ys each)) refl
  where
    front : (zs : List Id) → Each (λ y. list_any (bytes_eq y) (x ∷ xs) ≡ false) zs → list_any (bytes_eq x) zs ≡ false
    front [] e = refl
    front (z ∷ zs) e = rw (bytes_eq-sym x z, (or_parts (bytes_eq z x) (list_any (bytes_eq z) xs) e.0).0, front zs e.1) refl

    rest : (zs : List Id) → Each (λ y. list_any (bytes_eq y) (x ∷ xs) ≡ false) zs → Each (λ y. list_any (bytes_eq y) xs ≡ false) zs
    rest [] e = tt
    rest (z ∷ zs) e = ((or_parts (bytes_eq z x) (list_any (bytes_eq z) xs) e.0).1, rest zs e.1)

-- ---- distinct by another part

module _ {X : Type 0} (f g : X → Bytes) where
  none-of : (x : X) (ys : List X) → ((y : X) → In y ys → f x ≡ f y → g x ≡ g y) → list_any (bytes_eq (g x)) (map g ys) ≡ false → list_any (bytes_eq (f x)) (map f ys) ≡ false
  none-of x [] same h = refl
  none-of x (y ∷ ys) same h =
      let parts = or_parts (bytes_eq (g x) (g y)) (list_any (bytes_eq (g x)) (map g ys)) h in
      rw (by (bytes_eq (f x) (f y)) refl parts.0, none-of x ys (λ z i. same z (inr i)) parts.1) refl
    where
      by : (t : Bool) → bytes_eq (f x) (f y) ≡ t → bytes_eq (g x) (g y) ≡ false → bytes_eq (f x) (f y) ≡ false
      by false e k = e
      by true e k = absurd (true≢false (sym (bytes_eq-self (g x)) ∙ ap (bytes_eq (g x)) (same y (inl refl) (bytes_eq-is (f x) (f y) e)) ∙ k))

  pub distinct-by : (xs : List X) → ((x y : X) → In x xs → In y xs → f x ≡ f y → g x ≡ g y) → has_distinct (map g xs) ≡ true → has_distinct (map f xs) ≡ true
  distinct-by [] same h = refl
  distinct-by (x ∷ xs) same h =
      let parts = both (not (list_any (bytes_eq (g x)) (map g xs))) (has_distinct (map g xs)) h in
      rw (none-of x xs (λ y i. same x y (inl refl) (inr i)) (not_true (list_any (bytes_eq (g x)) (map g xs)) parts.0), distinct-by xs (λ a b i j. same a b (inr i) (inr j)) parts.1) refl
