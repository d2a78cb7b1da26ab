-- What holds of each element of a list.
use Rattle.std.proofs.Common.{List, [], ◌∷◌, ◌++◌}
use Rattle.text_model.specs.Lists.{Each}

module _ {X : Type 0} (P : X → Type 0) where
  pub Each-append : (xs ys : List X) → Each P xs → Each P ys → Each P (xs ++ ys)
  Each-append [] ys h k = k
  Each-append (x ∷ xs) ys h k = (h.0, Each-append xs ys h.1 k)

  pub Each-front : (xs ys : List X) → Each P (xs ++ ys) → Each P xs
  Each-front [] ys h = tt
  Each-front (x ∷ xs) ys h = (h.0, Each-front xs ys h.1)

  pub Each-rest : (xs ys : List X) → Each P (xs ++ ys) → Each P ys
  Each-rest [] ys h = h
  Each-rest (x ∷ xs) ys h = Each-rest xs ys h.1

  pub Each-push : (xs : List X) (x : X) → Each P xs → P x → Each P (xs ++ x ∷ [])
  Each-push xs x h k = Each-append xs (x ∷ []) h (k, tt)

  pub Each-weaker : (Q : X → Type 0) → ((x : X) → P x → Q x) → (xs : List X) → Each P xs → Each Q xs
  Each-weaker Q f [] h = tt
  Each-weaker Q f (x ∷ xs) h = (f x h.0, Each-weaker Q f xs h.1)
