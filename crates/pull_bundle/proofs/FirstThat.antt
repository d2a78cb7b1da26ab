-- Elements of lists that meet a statement.
use Rattle.std.proofs.Common.{◌≡◌, ◌+◌, ◌⊎◌, ℕ, zero, suc, inl, inr, List, [], ◌∷◌, ◌++◌, map, take, Some, refl, sym, subst}
use Rattle.std.specs.Prelude.{slice_get}
use Rattle.text_model.specs.Lists.{Each, In, SomeOf, IsFirstThat}
use Rattle.text_model.proofs.EachLemmas.{Each-append}
use Rattle.text_model.proofs.Elements.{take_push}
use Rattle.text_model.proofs.Options.{some_is}

module _ {X : Type 0} (P : X → Type 0) where
  pub each-next : (xs : List X) (i : ℕ) (x : X) → slice_get xs i ≡ Some x → Each P (take i xs) → P x → Each P (take (i + 1) xs)
  each-next xs i x at before here = subst (Each P) (sym (take_push xs i x at)) (Each-append P (take i xs) (x ∷ []) before (here, tt))

  pub first-at : (xs : List X) (i : ℕ) (x : X) → slice_get xs i ≡ Some x → Each (λ y. ¬ (P y)) (take i xs) → P x → IsFirstThat P xs x
  first-at [] i x at before here = absurd cc
  first-at (y ∷ xs) zero x at before here = let same = some_is at in inl (sym same, subst P (sym same) here)
  first-at (y ∷ xs) (suc i) x at before here = inr (before.0, first-at xs i x at before.1 here)

  pub some-in : (xs : List X) (x : X) → In x xs → P x → SomeOf xs P
  some-in [] x i h = absurd i
  some-in (y ∷ xs) x (inl e) h = inl (subst P e h)
  some-in (y ∷ xs) x (inr i) h = inr (some-in xs x i h)

  pub some-parts : (xs : List X) → SomeOf xs P → (x : X) × In x xs × P x
  some-parts [] h = absurd h
  some-parts (y ∷ xs) (inl h) = (y, inl refl, h)
  some-parts (y ∷ xs) (inr h) = let r = some-parts xs h in (r.0, inr r.1, r.2)

  pub some-left : (xs ys : List X) → SomeOf xs P → SomeOf (xs ++ ys) P
  some-left [] ys h = absurd h
  some-left (x ∷ xs) ys (inl h) = inl h
  some-left (x ∷ xs) ys (inr h) = inr (some-left xs ys h)

  pub some-right : (xs ys : List X) → SomeOf ys P → SomeOf (xs ++ ys) P
  some-right [] ys h = h
  some-right (x ∷ xs) ys h = inr (some-right xs ys h)

  pub some-split : (xs ys : List X) → SomeOf (xs ++ ys) P → SomeOf xs P ⊎ SomeOf ys P
  some-split [] ys h = inr h
  some-split (x ∷ xs) ys (inl h) = inl (inl h)
  some-split (x ∷ xs) ys (inr h) = later (some-split xs ys h)
    where
      later : SomeOf xs P ⊎ SomeOf ys P → SomeOf (x ∷ xs) P ⊎ SomeOf ys P
      later (inl k) = inl (inr k)
      later (inr k) = inr k

-- an entry whose revision is among those of a list
pub in-mapped : {X Y : Type 0} (f : X → Y) (xs : List X) (y : Y) → In y (map f xs) → (x : X) × In x xs × (f x ≡ y)
in-mapped f [] y i = absurd i
in-mapped f (x ∷ xs) y (inl e) = (x, inl refl, sym e)
in-mapped f (x ∷ xs) y (inr i) = let r = in-mapped f xs y i in (r.0, inr r.1, r.2)
