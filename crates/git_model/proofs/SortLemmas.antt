-- Lists in the order of a key.
use Rattle.std.proofs.Common.{◌≡◌, ◌≢◌, ◌&&◌, Bool, true, false, true≢false, List, [], ◌∷◌, map, refl, sym, ap, subst, ◌∙◌, inl, inr}
use Rattle.std.specs.Prelude.{if◌then◌else◌, ⊤}
use Rattle.text_model.specs.Lists.{In, Each, rises, in_order, with_inserted}
use Rattle.text_model.specs.Text.{Bytes, is_below}
use Rattle.text_model.proofs.OrderLemmas.{is_below-one_way, is_below-irreflexive, is_below-same, is_below-chain}
use Rattle.text_model.proofs.TestLemmas.{both}
use Rattle.text_model.proofs.Elements.{each_in, each_from}

-- ---- elements

pub in-inserted : {X : Type 0} (below : X → X → Bool) (x y : X) (ys : List X) → In x (y ∷ ys) → In x (with_inserted below y ys)
in-inserted below x y [] i = i
in-inserted below x y (z ∷ ys) i = by (below z y) i (λ j. in-inserted below x y ys j)
  where
    by : (t : Bool) → In x (y ∷ z ∷ ys) → (In x (y ∷ ys) → In x (with_inserted below y ys)) → In x (if t then z ∷ with_inserted below y ys else y ∷ z ∷ ys)
    by true (inl q) rec = inr (rec (inl q))
    by true (inr (inl q)) rec = inl q
    by true (inr (inr j)) rec = inr (rec (inr j))
    by false i rec = i

pub of-inserted : {X : Type 0} (below : X → X → Bool) (x y : X) (ys : List X) → In x (with_inserted below y ys) → In x (y ∷ ys)
of-inserted below x y [] i = i
of-inserted below x y (z ∷ ys) i = by (below z y) i (λ j. of-inserted below x y ys j)
  where
    by : (t : Bool) → In x (if t then z ∷ with_inserted below y ys else y ∷ z ∷ ys) → (In x (with_inserted below y ys) → In x (y ∷ ys)) → In x (y ∷ z ∷ ys)
    by true (inl q) rec = inr (inl q)
    by true (inr j) rec = elim (rec j) [ inl q ↦ inl q | inr k ↦ inr (inr k) ]
    by false i rec = i

pub in-order : {X : Type 0} (below : X → X → Bool) (x : X) (xs : List X) → In x xs → In x (in_order below xs)
in-order below x [] i = i
in-order below x (y ∷ xs) (inl q) = in-inserted below x y (in_order below xs) (inl q)
in-order below x (y ∷ xs) (inr j) = in-inserted below x y (in_order below xs) (inr (in-order below x xs j))

pub of-order : {X : Type 0} (below : X → X → Bool) (x : X) (xs : List X) → In x (in_order below xs) → In x xs
of-order below x [] i = i
of-order below x (y ∷ xs) i = elim (of-inserted below x y (in_order below xs) i) [ inl q ↦ inl q | inr j ↦ inr (of-order below x xs j) ]

-- ---- keys

-- no two elements have one key
abbrev pub Distinct : {X : Type 0} → (X → Bytes) → List X → Type 0
Distinct key [] = ⊤
Distinct key (x ∷ xs) = Each (λ y. key x ≢ key y) xs × Distinct key xs

-- each is below all that follow
abbrev pub Ascends : {X : Type 0} → (X → Bytes) → List X → Type 0
Ascends key [] = ⊤
Ascends key (x ∷ xs) = Each (λ y. is_below (key x) (key y) ≡ true) xs × Ascends key xs

-- the order by the keys
abbrev pub by_key : {X : Type 0} → (X → Bytes) → X → X → Bool
by_key key a b = is_below (key a) (key b)

no-both : (x y : Bytes) → is_below x y ≡ true → is_below y x ≡ true → ⊥
no-both x y h i = true≢false (sym i ∙ is_below-one_way x y h)

no-self : (x : Bytes) → is_below x x ≡ true → ⊥
no-self x h = true≢false (sym h ∙ is_below-irreflexive x)

pub ascends-rises : {X : Type 0} (key : X → Bytes) (xs : List X) → Ascends key xs → rises is_below (map key xs) ≡ true
ascends-rises key [] h = refl
ascends-rises key (x ∷ []) h = refl
ascends-rises key (x ∷ y ∷ xs) h = ap (λ (b : Bool). b && rises is_below (map key (y ∷ xs))) h.0.0 ∙ ascends-rises key (y ∷ xs) h.1

pub rises-ascends : {X : Type 0} (key : X → Bytes) (xs : List X) → rises is_below (map key xs) ≡ true → Ascends key xs
rises-ascends key [] h = tt
rises-ascends key (x ∷ []) h = (tt, tt)
rises-ascends key (x ∷ y ∷ xs) h =
    let parts = both (is_below (key x) (key y)) (rises is_below (map key (y ∷ xs))) h in
    let rest = rises-ascends key (y ∷ xs) parts.1 in
    ((parts.0, each_from (λ z. is_below (key x) (key z) ≡ true) xs (λ z i. is_below-chain (key x) (key y) (key z) parts.0 (each_in (λ z. is_below (key y) (key z) ≡ true) xs z rest.0 i))), rest)

pub ascends-distinct : {X : Type 0} (key : X → Bytes) (xs : List X) → Ascends key xs → Distinct key xs
ascends-distinct key [] h = tt
ascends-distinct key (x ∷ xs) h = (
  each_from (λ y. key x ≢ key y) xs (λ y i q. no-self (key y) (sym (ap (λ (z : Bytes). is_below z (key y)) q) ∙ each_in (λ y. is_below (key x) (key y) ≡ true) xs y h.0 i)),
  ascends-distinct key xs h.1,
)

module _ {X : Type 0} (key : X → Bytes) where
  inserted-ascends : (x : X) (ys : List X) → Ascends key ys → Each (λ y. key x ≢ key y) ys → Ascends key (with_inserted (by_key key) x ys)
  inserted-ascends x [] h d = (tt, tt)
  inserted-ascends x (y ∷ ys) h d = by (is_below (key y) (key x)) refl (inserted-ascends x ys h.1 d.1)
    where
      by : (t : Bool) → is_below (key y) (key x) ≡ t → Ascends key (with_inserted (by_key key) x ys) → Ascends key (if t then y ∷ with_inserted (by_key key) x ys else x ∷ y ∷ ys)
      by true t rec = (
        each_from (λ z. is_below (key y) (key z) ≡ true) (with_inserted (by_key key) x ys) (λ z i. elim (of-inserted (by_key key) z x ys i) [
          | inl q ↦ subst (λ (w : X). is_below (key y) (key w) ≡ true) (sym q) t
          | inr j ↦ each_in (λ z. is_below (key y) (key z) ≡ true) ys z h.0 j
        ]),
        rec,
      )
      by false t rec =
          let below : is_below (key x) (key y) ≡ true = up (is_below (key x) (key y)) refl in
          ((below, each_from (λ z. is_below (key x) (key z) ≡ true) ys (λ z i. is_below-chain (key x) (key y) (key z) below (each_in (λ z. is_below (key y) (key z) ≡ true) ys z h.0 i))), h)
        where
          up : (u : Bool) → is_below (key x) (key y) ≡ u → is_below (key x) (key y) ≡ true
          up true u = u
          up false u = absurd (d.0 (is_below-same (key x) (key y) u t))

  pub order-ascends : (xs : List X) → Distinct key xs → Ascends key (in_order (by_key key) xs)
  order-ascends [] d = tt
  order-ascends (x ∷ xs) d = inserted-ascends x (in_order (by_key key) xs) (order-ascends xs d.1)
      (each_from (λ y. key x ≢ key y) (in_order (by_key key) xs) (λ y i. each_in (λ y. key x ≢ key y) xs y d.0 (of-order (by_key key) y xs i)))

  pub order-rises : (xs : List X) → Distinct key xs → rises is_below (map key (in_order (by_key key) xs)) ≡ true
  order-rises xs d = ascends-rises key (in_order (by_key key) xs) (order-ascends xs d)

  -- lists that ascend are known by their elements
  pub ascends-one : (xs ys : List X) → Ascends key xs → Ascends key ys → ((x : X) → In x xs → In x ys) → ((x : X) → In x ys → In x xs) → xs ≡ ys
  ascends-one [] [] h k f g = refl
  ascends-one [] (y ∷ ys) h k f g = absurd (g y (inl refl))
  ascends-one (x ∷ xs) [] h k f g = absurd (f x (inl refl))
  ascends-one (x ∷ xs) (y ∷ ys) h k f g =
      (λ i. head i ∷ ascends-one xs ys h.1 k.1 (λ z j. tail z j (f z (inr j))) (λ z j. liat z j (g z (inr j))) i)
    where
      after : (z : X) → In z ys → is_below (key y) (key z) ≡ true
      after z j = each_in (λ z. is_below (key y) (key z) ≡ true) ys z k.0 j

      behind : (z : X) → In z xs → is_below (key x) (key z) ≡ true
      behind z j = each_in (λ z. is_below (key x) (key z) ≡ true) xs z h.0 j

      head : x ≡ y
      head = elim (f x (inl refl)) [
        | inl q ↦ q
        | inr i ↦ elim (g y (inl refl)) [ inl q ↦ sym q | inr j ↦ absurd (no-both (key x) (key y) (behind y j) (after x i)) ]
      ]

      tail : (z : X) → In z xs → In z (y ∷ ys) → In z ys
      tail z j (inl q) = absurd (no-self (key z) (ap (λ (w : X). is_below (key w) (key z)) (q ∙ sym head) ∙ behind z j))
      tail z j (inr i) = i

      liat : (z : X) → In z ys → In z (x ∷ xs) → In z xs
      liat z j (inl q) = absurd (no-self (key z) (ap (λ (w : X). is_below (key w) (key z)) (q ∙ head) ∙ after z j))
      liat z j (inr i) = i

  -- a list that ascends is the order of each list with its elements
  pub order-is : (xs ys : List X) → Distinct key xs → Ascends key ys → ((x : X) → In x xs → In x ys) → ((x : X) → In x ys → In x xs) → in_order (by_key key) xs ≡ ys
  order-is xs ys d k f g = ascends-one (in_order (by_key key) xs) ys (order-ascends xs d) k (λ x i. f x (of-order (by_key key) x xs i)) (λ x i. in-order (by_key key) x xs (g x i))

  pub order-same : (xs : List X) → Ascends key xs → in_order (by_key key) xs ≡ xs
  order-same xs k = order-is xs xs (ascends-distinct key xs k) k (λ x i. i) (λ x i. i)
