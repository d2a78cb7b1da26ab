-- The objects from one place of a store up to another.
use Rattle.std.proofs.Common.{◌≡◌, ◌+◌, ◌≤◌, ◌<◌, ◌++◌, ◌⊎◌, ℕ, zero, suc, List, [], ◌∷◌, length, take, drop, Option, Some, None, refl, sym, ap, ◌∙◌, append-nil, take-append-drop, inl, inr, arith}
use Rattle.std.specs.Prelude.{slice_get}
use Rattle.text_model.specs.Text.{Bytes}
use Rattle.text_model.proofs.Elements.{take_push, take_whole}
use Rattle.text_model.proofs.Options.{none_some}
use Rattle.git_model.specs.Object.{Object}
use Rattle.git_model.specs.Stream.{stream_text}
use Rattle.git_dump.specs.Walks.{object_list, objects_between}
use Rattle.git_dump.proofs.VisitLemmas.{stream_text-append, no-text}

drop-push : {X : Type 0} (xs : List X) (n : ℕ) (x : X) → n ≤ length xs → drop n (xs ++ x ∷ []) ≡ drop n xs ++ x ∷ []
drop-push xs zero x h = refl
drop-push [] (suc n) x h = absurd (omega (arith, h))
drop-push (y ∷ xs) (suc n) x h = drop-push xs n x (omega (arith, h))

pub long : {X : Type 0} (xs : List X) (n : ℕ) → n ≤ length xs → length (take n xs) ≡ n
long xs zero h = refl
long [] (suc n) h = absurd (omega (arith, h))
long (x ∷ xs) (suc n) h = ap suc (long xs n (omega (arith, h)))

drop-long : {X : Type 0} (xs : List X) (n : ℕ) → length xs ≤ n → drop n xs ≡ []
drop-long [] zero h = refl
drop-long [] (suc n) h = refl
drop-long (x ∷ xs) zero h = absurd (omega (arith, h))
drop-long (x ∷ xs) (suc n) h = drop-long xs n (omega (arith, h))

take-short : {X : Type 0} (xs : List X) (n : ℕ) → length (take n xs) ≤ n
take-short xs zero = omega arith
take-short [] (suc n) = omega arith
take-short (x ∷ xs) (suc n) = let r = take-short xs n in omega (arith, r)

-- nothing lies between a place and itself
pub between-none : (known : List Object) (i : ℕ) → objects_between known i i ≡ []
between-none known i = drop-long (take i known) i (take-short known i)

pub between-push : (known : List Object) (start i : ℕ) (o : Object) → start ≤ i → i ≤ length known → slice_get known i ≡ Some o → objects_between known start (i + 1) ≡ objects_between known start i ++ o ∷ []
between-push known start i o begun within at =
    let size = long known i within in
    ap (drop start) (take_push known i o at) ∙ drop-push (take i known) start o (omega (arith, begun, size))

-- behind the end of a list stands nothing
ends : {X : Type 0} (xs : List X) (i : ℕ) → slice_get xs i ≡ None → length xs ≤ i
ends [] i h = omega arith
ends (x ∷ xs) zero h = absurd (none_some (sym h))
ends (x ∷ xs) (suc i) h = let r = ends xs i h in omega (arith, r)

pub within : {X : Type 0} (xs : List X) (i : ℕ) (x : X) → slice_get xs i ≡ Some x → i < length xs
within [] i x h = absurd (none_some h)
within (y ∷ xs) zero x h = omega arith
within (y ∷ xs) (suc i) x h = let r = within xs i x h in omega (arith, r)

between-step : (known : List Object) (start i : ℕ) → start ≤ i → objects_between known start (i + 1) ≡ objects_between known start i ++ object_list (slice_get known i)
between-step known start i begun = by (slice_get known i) refl
  where
    by : (found : Option Object) → slice_get known i ≡ found → objects_between known start (i + 1) ≡ objects_between known start i ++ object_list found
    by (Some o) e = let below = within known i o e in between-push known start i o begun (omega (arith, below)) e
    by None e =
        let end = ends known i e in
        ap (drop start) (take_whole known (i + 1) (omega (arith, end)) ∙ sym (take_whole known i end)) ∙ sym (append-nil (objects_between known start i))

abbrev pub text_between : List Object → ℕ → ℕ → Bytes
text_between known start end = stream_text (objects_between known start end)

abbrev pub text_of_place : List Object → ℕ → Bytes
text_of_place known place = stream_text (object_list (slice_get known place))

pub text-begins : (known : List Object) (i : ℕ) → [] ≡ text_between known i i
text-begins known i = no-text ∙ ap stream_text (sym (between-none known i))

pub text-step : (known : List Object) (start i : ℕ) → start ≤ i → text_between known start (i + 1) ≡ text_between known start i ++ text_of_place known i
text-step known start i begun = ap stream_text (between-step known start i begun) ∙ stream_text-append (objects_between known start i) (object_list (slice_get known i))

-- how far places were gone through, from start up to end
pub record IsOnWay (start end i : ℕ) : Type 0 where
  pub begun : start ≤ i
  pub most : (i ≤ end) ⊎ (i ≡ start)

pub way-begins : (start end : ℕ) → IsOnWay start end start
way-begins start end = record { begun = omega arith; most = inr refl }

pub way-goes : (start end i : ℕ) → IsOnWay start end i → i < end → IsOnWay start end (i + 1)
way-goes start end i w below = record { begun = omega (arith, w.begun); most = inl (omega (arith, below)) }

pub text-ends : (known : List Object) (start end i : ℕ) → IsOnWay start end i → end ≤ i → text_between known start i ≡ text_between known start end
text-ends known start end i w ended = ap stream_text (by w.most)
  where
    by : (i ≤ end) ⊎ (i ≡ start) → objects_between known start i ≡ objects_between known start end
    by (inl most) = let is : i ≡ end = omega (arith, ended, most) in ap (objects_between known start) is
    by (inr is) =
        let short = take-short known end in
        ap (objects_between known start) is ∙ between-none known start ∙ sym (drop-long (take end known) start (omega (arith, short, ended, is)))

front-cut : {X : Type 0} (xs : List X) (n m : ℕ) → n ≤ m → take n (take m xs) ≡ take n xs
front-cut xs zero m h = refl
front-cut [] (suc n) zero h = absurd (omega (arith, h))
front-cut [] (suc n) (suc m) h = refl
front-cut (x ∷ xs) (suc n) zero h = absurd (omega (arith, h))
front-cut (x ∷ xs) (suc n) (suc m) h = ap (λ l. x ∷ l) (front-cut xs n m (omega (arith, h)))

-- the text of the first objects, and what follows them
pub text-behind : (known : List Object) (start end count : ℕ) (text : Bytes) → start ≡ 0 → count ≤ end → text ≡ stream_text (take count known)
    → text_between known start end ≡ text ++ text_between known count end
text-behind known start end count text none below is =
    ap (λ (i : ℕ). text_between known i end) none
    ∙ ap stream_text (sym (take-append-drop count (take end known)) ∙ ap (λ (l : List Object). l ++ objects_between known count end) (front-cut known count end below))
    ∙ stream_text-append (take count known) (objects_between known count end)
    ∙ ap (λ (l : Bytes). l ++ text_between known count end) (sym is)
