-- A store that grows by one object after another, turn by turn of a loop.
use Rattle.std.proofs.Common.{◌≡◌, List, [], ◌∷◌, ◌++◌, refl, sym, ap, subst, ◌∙◌, append_assoc, map, Result, Err}
use Rattle.text_model.specs.Lists.{Each}
use Rattle.text_model.proofs.EachLemmas.{Each-rest}
use Rattle.git_model.specs.Object.{Object}
use Rattle.git_store.specs.Growth.{HasGrown, Clash}
use Rattle.git_store.proofs.Growth.{grown-more, clash-front, clash-rest}

-- ---- turns of a loop

pub each-here : {X : Type 0} (P : X → Type 0) (all front : List X) (x : X) (rest : List X) → Each P all → all ≡ front ++ x ∷ rest → P x
each-here P all front x rest each is = (Each-rest P front (x ∷ rest) (subst (Each P) is each)).0

map-here : {X : Type 0} (f : X → Object) (front : List X) (x : X) (rest : List X) → map f (front ++ x ∷ rest) ≡ map f front ++ f x ∷ map f rest
map-here f [] x rest = refl
map-here f (y ∷ front) x rest = ap (λ (l : List Object). f y ∷ l) (map-here f front x rest)

-- what holds of each of the objects that stand for a list holds of the one at a turn
pub each-turn : {X : Type 0} (P : Object → Type 0) (f : X → Object) (objects : List Object) (all front : List X) (x : X) (rest : List X) → Each P objects → map f all ≡ objects → all ≡ front ++ x ∷ rest → P (f x)
each-turn P f objects all front x rest each same is = each-here P objects (map f front) (f x) (map f rest) each (sym same ∙ ap (map f) is ∙ map-here f front x rest)

-- one turn more
pub grown-turn : {X : Type 0} (f : X → Object) (a b c : List Object) (front : List X) (x : X) → HasGrown a b (map f front) → HasGrown b c (f x ∷ []) → HasGrown a c (map f (front ++ x ∷ []))
grown-turn f a b c front x g h = subst (HasGrown a c) (sym (map-here f front x [])) (grown-more a b c (map f front) (f x ∷ []) g h)

-- a clash at a turn is one of the whole
pub clash-turn : {X : Type 0} (f : X → Object) (a b objects : List Object) (all front : List X) (x : X) (rest : List X) → HasGrown a b (map f front) → Clash b (f x ∷ []) → map f all ≡ objects → all ≡ front ++ x ∷ rest → Clash a objects
clash-turn f a b objects all front x rest g c same is =
    subst (Clash a) (append_assoc (map f front) (f x ∷ []) (map f rest) ∙ sym (map-here f front x rest) ∙ sym (ap (map f) is) ∙ same)
    (clash-front a (map f front ++ f x ∷ []) (map f rest) (clash-rest a b (map f front) (f x ∷ []) g c))

-- an error of one call is that of another
pub errs : {A B E : Type 0} (x y : E) → ◌≡◌ {A = Result A E} (Err x) (Err y) → ◌≡◌ {A = Result B E} (Err x) (Err y)
errs {A} {B} {E} x y e = ap (λ (z : E). errs_to z) (inside x y e)
  where
    errs_to : E → Result B E
    errs_to z = Err z

    inside : (x y : E) → ◌≡◌ {A = Result A E} (Err x) (Err y) → x ≡ y
    inside x y e = cc

-- the same where the list is one of objects
pub clash-here : (a b all front : List Object) (x : Object) (rest : List Object) → HasGrown a b front → Clash b (x ∷ []) → all ≡ front ++ x ∷ rest → Clash a all
clash-here a b all front x rest g c is =
    subst (Clash a) (append_assoc front (x ∷ []) rest ∙ sym is) (clash-front a (front ++ x ∷ []) rest (clash-rest a b front (x ∷ []) g c))
