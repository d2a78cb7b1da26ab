-- Elements of lists.
use Rattle.std.proofs.Common.{◌≡◌, Bool, true, false, List, [], ◌∷◌, ◌++◌, refl, sym, ap, subst, ◌∙◌, inl, inr, ◌⊎◌}
use Rattle.std.specs.Prelude.{filter, if◌then◌else◌}
use Rattle.std.specs.List.{flat_map}
use Rattle.text_model.specs.Lists.{In}
use Rattle.text_model.proofs.Elements.{in_left, in_right}

pub in-append : {X : Type 0} (x : X) (xs ys : List X) → In x (xs ++ ys) → In x xs ⊎ In x ys
in-append x [] ys h = inr h
in-append x (z ∷ xs) ys h = elim h [ inl e ↦ inl (inl e) | inr r ↦ elim (in-append x xs ys r) [ inl a ↦ inl (inr a) | inr b ↦ inr b ] ]

-- from one of the elements
pub in-flat : {X Y : Type 0} (f : X → List Y) (xs : List X) (x : X) (y : Y) → In x xs → In y (f x) → In y (flat_map f xs)
in-flat f [] x y h i = absurd h
in-flat f (z ∷ xs) x y h i = elim h [
  | inl e ↦ in_left y (f z) (flat_map f xs) (let P : _ → Type 0 = λ w. In y (f w) in subst P e i)
  | inr r ↦ in_right y (f z) (flat_map f xs) (in-flat f xs x y r i)
]

pub of-flat : {X Y : Type 0} (f : X → List Y) (xs : List X) (y : Y) → In y (flat_map f xs) → (x : X) × In x xs × In y (f x)
of-flat f [] y h = absurd h
of-flat f (z ∷ xs) y h = elim (in-append y (f z) (flat_map f xs) h) [
  | inl i ↦ (z, inl refl, i)
  | inr i ↦ let r = of-flat f xs y i in (r.0, inr r.1, r.2)
]

pub in-filter : {X : Type 0} (p : X → Bool) (x : X) (xs : List X) → In x xs → p x ≡ true → In x (filter p xs)
in-filter p x [] h t = h
in-filter p x (z ∷ xs) h t = elim h [
  | inl e ↦ rw (sym (ap p e) ∙ t) (inl e)
  | inr r ↦ by (p z) (in-filter p x xs r t)
]
  where
    by : (b : Bool) → In x (filter p xs) → In x (if b then z ∷ filter p xs else filter p xs)
    by true i = inr i
    by false i = i

pub of-filter : {X : Type 0} (p : X → Bool) (x : X) (xs : List X) → In x (filter p xs) → In x xs × (p x ≡ true)
of-filter p x [] h = absurd h
of-filter p x (z ∷ xs) h = by (of-filter p x xs) (p z) refl h
  where
    by : (In x (filter p xs) → In x xs × (p x ≡ true)) → (b : Bool) → p z ≡ b → In x (if b then z ∷ filter p xs else filter p xs) → (In x (z ∷ xs)) × (p x ≡ true)
    by rec true e i = elim i [ inl q ↦ (inl q, ap p q ∙ e) | inr r ↦ let o = rec r in (inr o.0, o.1) ]
    by rec false e i = let o = rec i in (inr o.0, o.1)
