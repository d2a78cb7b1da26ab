-- Lists whose keys rise are one list where they have the same elements.
use Rattle.std.proofs.Common.{◌≡◌, true, true≢false, List, [], ◌∷◌, map, refl, sym, ap, ◌∙◌, inl, inr}
use Rattle.std.specs.Prelude.{IsTrue}
use Rattle.text_model.specs.Lists.{Each, In, rises}
use Rattle.text_model.specs.Text.{Bytes, is_below}
use Rattle.text_model.proofs.OrderLemmas.{is_below-one_way, is_below-irreflexive}
use Rattle.text_model.proofs.Search.{IsRising, rising}

module _ {X : Type 0} (key : X → Bytes) where
  below_each : (x z : X) (ys : List X) → Each (λ y. is_below (key x) (key y) ≡ true) ys → In z ys → is_below (key x) (key z) ≡ true
  below_each x z [] h i = absurd i
  below_each x z (y ∷ ys) h (inl e) = ap (λ (v : X). is_below (key x) (key v)) e ∙ h.0
  below_each x z (y ∷ ys) h (inr i) = below_each x z ys h.1 i

  -- the first of two lists is the same
  first_same : (x y : X) (xs ys : List X) → IsRising key (x ∷ xs) → IsRising key (y ∷ ys) → In x (y ∷ ys) → In y (x ∷ xs) → x ≡ y
  first_same x y xs ys h k (inl e) j = e
  first_same x y xs ys h k (inr i) (inl e) = sym e
  first_same x y xs ys h k (inr i) (inr j) =
      absurd (true≢false (sym (below_each y x ys k.0 i) ∙ is_below-one_way (key x) (key y) (below_each x y xs h.0 j)))

  rest_of : (x z : X) (xs : List X) (y : X) (ys : List X) → IsRising key (x ∷ xs) → x ≡ y → In z xs → In z (y ∷ ys) → In z ys
  rest_of x z xs y ys h same i (inl e) =
      absurd (true≢false (sym (below_each x z xs h.0 i) ∙ ap (λ (v : X). is_below (key x) (key v)) (e ∙ sym same) ∙ is_below-irreflexive (key x)))
  rest_of x z xs y ys h same i (inr j) = j

  one_list : (xs ys : List X) → IsRising key xs → IsRising key ys → ((x : X) → In x xs → In x ys) → ((x : X) → In x ys → In x xs) → xs ≡ ys
  one_list [] [] h k there back = refl
  one_list [] (y ∷ ys) h k there back = absurd (back y (inl refl))
  one_list (x ∷ xs) [] h k there back = absurd (there x (inl refl))
  one_list (x ∷ xs) (y ∷ ys) h k there back =
      let same = first_same x y xs ys h k (there x (inl refl)) (back y (inl refl)) in
      let rest = one_list xs ys h.1 k.1 (λ z i. rest_of x z xs y ys h same i (there z (inr i))) (λ z i. rest_of y z ys x xs k (sym same) i (back z (inr i))) in
      λ i. same i ∷ rest i

  pub rising_one : (xs ys : List X) → IsTrue (rises is_below (map key xs)) → IsTrue (rises is_below (map key ys)) → ((x : X) → In x xs → In x ys) → ((x : X) → In x ys → In x xs) → xs ≡ ys
  rising_one xs ys h k there back = one_list xs ys (rising key xs h) (rising key ys k) there back
