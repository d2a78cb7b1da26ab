-- Lists up to a place, and what some of their elements meet.
use Rattle.std.proofs.Common.{◌≡◌, ◌+◌, ◌<◌, ℕ, zero, suc, List, [], ◌∷◌, ◌++◌, map, take, length, get_or, Some, refl, sym, ap, subst, ◌∙◌, inl, inr, arith}
use Rattle.std.specs.Prelude.{slice_get}
use Rattle.std.proofs.lemmas.Option.{slice_get-get_or}
use Rattle.text_model.specs.Lists.{Each, SomeOf}
use Rattle.text_model.proofs.Options.{none_some, some_is}

-- one element more
pub each-more : {X : Type 0} (P : X → Type 0) (xs : List X) (i : ℕ) (x : X) → slice_get xs i ≡ Some x → Each P (take i xs) → P x → Each P (take (i + 1) xs)
each-more P [] i x at h p = absurd (none_some at)
each-more P (y ∷ xs) zero x at h p = (subst P (sym (some_is at)) p, tt)
each-more {X} P (y ∷ xs) (suc i) x at h p =
    let plus : suc (i + 1) ≡ suc i + 1 = omega arith in
    subst (λ (n : ℕ). Each P (take n (y ∷ xs))) plus (h.0, each-more P xs i x at h.1 p)

pub some-left : {X : Type 0} (P : X → Type 0) (xs ys : List X) → SomeOf xs P → SomeOf (xs ++ ys) P
some-left P [] ys h = absurd h
some-left P (x ∷ xs) ys h = elim h [ inl p ↦ inl p | inr r ↦ inr (some-left P xs ys r) ]

pub some-last : {X : Type 0} (P : X → Type 0) (xs : List X) (x : X) → P x → SomeOf (xs ++ x ∷ []) P
some-last P [] x p = inl p
some-last P (y ∷ xs) x p = inr (some-last P xs x p)

pub map-take : {X Y : Type 0} (f : X → Y) (xs : List X) (i : ℕ) → take i (map f xs) ≡ map f (take i xs)
map-take f xs zero = refl
map-take f [] (suc i) = refl
map-take {X} {Y} f (x ∷ xs) (suc i) = ap (λ (l : List Y). f x ∷ l) (map-take f xs i)

-- the element at a place, as a loop over a slice finds it
pub get-at : {X : Type 0} (xs list : List X) (i : ℕ) (x : X) → list ≡ xs → i < length list → x ≡ get_or list i x → slice_get xs i ≡ Some x
get-at {X} xs list i x same below is = ap (λ (l : List X). slice_get l i) (sym same) ∙ slice_get-get_or list i x below ∙ ap Some (sym is)
