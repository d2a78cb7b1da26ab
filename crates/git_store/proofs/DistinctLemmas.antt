-- Lists of ids in which none stands twice.
use Rattle.std.proofs.Common.{◌≡◌, Bool, true, false, true≢false, not, ◌&&◌, ◌||◌, List, [], ◌∷◌, ◌++◌, refl, sym, ap, ◌∙◌, bytes_eq}
use Rattle.std.specs.List.{list_any}
use Rattle.std.proofs.lemmas.List.Folds.{list_any-append}
use Rattle.std.proofs.lemmas.Slice.Eq.{bytes_eq-Decides}
use Rattle.text_model.specs.Id.{Id, has_id}
use Rattle.git_model.specs.Tree.{has_distinct}

pub bytes_eq-comm : (a b : Id) → bytes_eq a b ≡ bytes_eq b a
bytes_eq-comm a b = by (bytes_eq a b) (bytes_eq b a) refl refl
  where
    turned : (x y : Id) → bytes_eq x y ≡ true → bytes_eq y x ≡ true
    turned x y h = (bytes_eq-Decides y x).1 (sym ((bytes_eq-Decides x y).0 h))

    by : (s t : Bool) → bytes_eq a b ≡ s → bytes_eq b a ≡ t → bytes_eq a b ≡ bytes_eq b a
    by true true p q = p ∙ sym q
    by false false p q = p ∙ sym q
    by true false p q = absurd (true≢false (sym (turned a b p) ∙ q))
    by false true p q = absurd (true≢false (sym (turned b a q) ∙ p))

regroup : (a s d b : Bool) → (not (a || (s || false)) && (d && not b)) ≡ ((not a && d) && not (s || b))
regroup true s d b = refl
regroup false true true b = refl
regroup false true false b = refl
regroup false false true b = refl
regroup false false false b = refl

-- one id more, where it is none of those before it
pub has_distinct-push : (xs : List Id) (x : Id) → has_distinct (xs ++ x ∷ []) ≡ (has_distinct xs && not (has_id xs x))
has_distinct-push [] x = refl
has_distinct-push (y ∷ ys) x =
    (λ i. not (list_any-append (bytes_eq y) ys (x ∷ []) i) && has_distinct-push ys x i)
    ∙ (λ i. not (list_any (bytes_eq y) ys || (bytes_eq-comm y x i || false)) && (has_distinct ys && not (has_id ys x)))
    ∙ regroup (list_any (bytes_eq y) ys) (bytes_eq x y) (has_distinct ys) (has_id ys x)

spread : (a b d e : Bool) → (not a && d) ≡ false → (d ≡ false → e ≡ false) → (not (a || b) && e) ≡ false
spread true b d e h k = refl
spread false true d e h k = refl
spread false false d e h k = k h

-- an id that stands twice in a front stands twice
pub has_distinct-front : (xs ys : List Id) → has_distinct xs ≡ false → has_distinct (xs ++ ys) ≡ false
has_distinct-front [] ys h = absurd (true≢false h)
has_distinct-front (x ∷ xs) ys h =
    ap (λ (t : Bool). not t && has_distinct (xs ++ ys)) (list_any-append (bytes_eq x) xs ys)
    ∙ spread (list_any (bytes_eq x) xs) (list_any (bytes_eq x) ys) (has_distinct xs) (has_distinct (xs ++ ys)) h (has_distinct-front xs ys)

-- what an insertion into a set says of the ids that were in it
pub fresh : (new there : Bool) → new ≡ not there → new ≡ true → there ≡ false
fresh new true is h = absurd (true≢false (sym h ∙ is))
fresh new false is h = refl

pub again : (new there : Bool) → new ≡ not there → new ≡ false → there ≡ true
again new true is h = refl
again new false is h = absurd (true≢false (sym is ∙ h))
