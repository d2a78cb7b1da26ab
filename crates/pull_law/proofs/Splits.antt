-- Two ways to split a list at an element.
use Rattle.std.proofs.Common.{◌≡◌, ◌++◌, List, [], ◌∷◌, refl, sym}

module _ {X : Type 0} where
  pub heads : {x y : X} {xs ys : List X} → x ∷ xs ≡ y ∷ ys → x ≡ y
  heads e = cc

  pub tails : {x y : X} {xs ys : List X} → x ∷ xs ≡ y ∷ ys → xs ≡ ys
  tails e = cc

  -- one of the fronts goes on with the element of the other, or the elements stand at one place
  pub data Splits (xs ys : List X) (a b : X) : Type 0 where
    Same : (fronts : xs ≡ ys) (elements : a ≡ b) → Splits xs ys a b
    First : (between : List X) (is : ys ≡ xs ++ a ∷ between) → Splits xs ys a b
    Second : (between : List X) (is : xs ≡ ys ++ b ∷ between) → Splits xs ys a b

  pub splits : (xs ys : List X) (a b : X) (as' bs : List X) → xs ++ a ∷ as' ≡ ys ++ b ∷ bs → Splits xs ys a b
  splits [] [] a b as' bs e = Same refl (heads e)
  splits [] (y ∷ ys) a b as' bs e = First ys (λ i. sym (heads e) i ∷ ys)
  splits (x ∷ xs) [] a b as' bs e = Second xs (λ i. heads e i ∷ xs)
  splits (x ∷ xs) (y ∷ ys) a b as' bs e = elim (splits xs ys a b as' bs (tails e)) [
    | Same fronts elements ↦ Same (λ i. heads e i ∷ fronts i) elements
    | First between is ↦ First between (λ i. sym (heads e) i ∷ is i)
    | Second between is ↦ Second between (λ i. heads e i ∷ is i)
  ]
