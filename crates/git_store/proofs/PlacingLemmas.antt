-- Placing one commit after the other.
use Rattle.std.proofs.Common.{◌≡◌, ◌≤◌, ◌<◌, ℕ, zero, suc, Bool, true, false, true≢false, not, ◌&&◌, ◌||◌, List, [], ◌∷◌, ◌++◌, length, take, Option, Some, None, refl, sym, ap, subst, ◌∙◌, inl, inr, ◌⊎◌, arith, bytes_eq}
use Rattle.std.specs.Prelude.{filter, if◌then◌else◌, option_map, slice_get}
use Rattle.std.specs.List.{list_all, find}
use Rattle.std.proofs.lemmas.Bool.{cases_lt}
use Rattle.std.proofs.lemmas.List.{length-append, take_all}
use Rattle.std.proofs.lemmas.Slice.Eq.{bytes_eq-Decides}
use Rattle.text_model.specs.Id.{Id}
use Rattle.text_model.specs.Lists.{In}
use Rattle.text_model.proofs.TestLemmas.{both}
use Rattle.text_model.proofs.Options.{some_is}
use Rattle.git_model.specs.Object.{Object}
use Rattle.git_model.specs.Order.{Ancestry, has, is_waiting, is_ready, next_ready, IsPlacement, IsOrder, IsStuckAt}
use Rattle.git_store.specs.Ancestry.{ancestry_at, ancestries}
use Rattle.git_store.proofs.FindLemmas.{find-map, find-passes, find-among}

-- ---- one more is placed

pub has-more : (placed : List Id) (id x : Id) → has (placed ++ id ∷ []) x ≡ (has placed x || bytes_eq x id)
has-more [] id x = by (bytes_eq x id)
  where
    by : (b : Bool) → (b || false) ≡ b
    by true = refl
    by false = refl
has-more (p ∷ placed) id x = by (bytes_eq x p) (has-more placed id x)
  where
    by : (b : Bool) → has (placed ++ id ∷ []) x ≡ (has placed x || bytes_eq x id) → (b || has (placed ++ id ∷ []) x) ≡ (b || has placed x || bytes_eq x id)
    by true e = refl
    by false e = e

pub waiting-more : (saved placed : List Id) (id : Id) (c : Ancestry) → is_waiting saved (placed ++ id ∷ []) c ≡ (is_waiting saved placed c && not (bytes_eq c.id id))
waiting-more saved placed id c = ap (λ (b : Bool). not (has saved c.id) && not b) (has-more placed id c.id) ∙ by (has saved c.id) (has placed c.id) (bytes_eq c.id id)
  where
    by : (s o e : Bool) → (not s && not (o || e)) ≡ ((not s && not o) && not e)
    by true o e = refl
    by false true e = refl
    by false false e = refl

filter-le : (p q : Ancestry → Bool) (xs : List Ancestry) → ((x : Ancestry) → q x ≡ true → p x ≡ true) → length (filter q xs) ≤ length (filter p xs)
filter-le p q [] h = omega arith
filter-le p q (x ∷ xs) h = by (p x) (q x) refl refl (filter-le p q xs h)
  where
    by : (s t : Bool) → p x ≡ s → q x ≡ t → length (filter q xs) ≤ length (filter p xs) → length (if t then x ∷ filter q xs else filter q xs) ≤ length (if s then x ∷ filter p xs else filter p xs)
    by true true e f r = omega (arith, r)
    by true false e f r = omega (arith, r)
    by false true e f r = absurd (true≢false (sym (h x f) ∙ e))
    by false false e f r = r

filter-lt : (p q : Ancestry → Bool) (xs : List Ancestry) (a : Ancestry) → ((x : Ancestry) → q x ≡ true → p x ≡ true) → In a xs → p a ≡ true → q a ≡ false → length (filter q xs) < length (filter p xs)
filter-lt p q [] a h i yes_p no_q = absurd i
filter-lt p q (x ∷ xs) a h i yes_p no_q = elim i [
  | inl s ↦ here (p x) (q x) (sym (ap p s) ∙ yes_p) (sym (ap q s) ∙ no_q) (filter-le p q xs h)
  | inr j ↦ there (p x) (q x) refl refl (filter-lt p q xs a h j yes_p no_q)
]
  where
    here : (s t : Bool) → s ≡ true → t ≡ false → length (filter q xs) ≤ length (filter p xs) → length (if t then x ∷ filter q xs else filter q xs) < length (if s then x ∷ filter p xs else filter p xs)
    here true false e f r = omega (arith, r)
    here true true e f r = absurd cc
    here false t e f r = absurd cc

    there : (s t : Bool) → p x ≡ s → q x ≡ t → length (filter q xs) < length (filter p xs) → length (if t then x ∷ filter q xs else filter q xs) < length (if s then x ∷ filter p xs else filter p xs)
    there true true e f r = omega (arith, r)
    there true false e f r = omega (arith, r)
    there false true e f r = absurd (true≢false (sym (h x f) ∙ e))
    there false false e f r = r

-- fewer commits wait
pub fewer : (came : List Ancestry) (saved old new : List Id) (c : Ancestry) → next_ready came saved old ≡ Some c → new ≡ old ++ c.id ∷ []
    → length (filter (is_waiting saved new) came) < length (filter (is_waiting saved old) came)
fewer came saved old new c next is =
    let waits = (both (is_waiting saved old c) (list_all (λ p. has saved p || has old p) c.parents) (find-passes (is_ready saved old) came c next)).0 in
    let more = λ (x : Ancestry). ap (λ (l : List Id). is_waiting saved l x) is ∙ waiting-more saved old c.id x in
    filter-lt (is_waiting saved old) (is_waiting saved new) came c
    (λ x h. (both (is_waiting saved old x) (not (bytes_eq x.id c.id)) (sym (more x) ∙ h)).0)
    (find-among (is_ready saved old) came c next) waits
    (more c ∙ ap (λ (b : Bool). is_waiting saved old c && not b) ((bytes_eq-Decides c.id c.id).1 refl) ∙ none (is_waiting saved old c))
  where
    none : (b : Bool) → (b && false) ≡ false
    none true = refl
    none false = refl

get-left : (xs : List Id) (y : Id) (k : ℕ) → k < length xs → slice_get (xs ++ y ∷ []) k ≡ slice_get xs k
get-left [] y k h = absurd (omega arith)
get-left (x ∷ xs) y zero h = refl
get-left (x ∷ xs) y (suc k) h = get-left xs y k (omega arith)

get-last : (xs : List Id) (y : Id) → slice_get (xs ++ y ∷ []) (length xs) ≡ Some y
get-last [] y = refl
get-last (x ∷ xs) y = get-last xs y

take-left : (xs : List Id) (y : Id) (k : ℕ) → k ≤ length xs → take k (xs ++ y ∷ []) ≡ take k xs
take-left xs y zero h = refl
take-left [] y (suc k) h = absurd (omega arith)
take-left (x ∷ xs) y (suc k) h = (λ i. x ∷ take-left xs y k (omega arith) i)

-- a list of placed commits with the next one behind it
pub goes_on : (came : List Ancestry) (saved old new : List Id) (c : Ancestry) → next_ready came saved old ≡ Some c → new ≡ old ++ c.id ∷ [] → IsPlacement came saved old → IsPlacement came saved new
goes_on came saved old new c next is h = subst (λ (l : List Id). IsPlacement came saved l) (sym is) (λ k lt. by k lt (cases_lt k (length old)))
  where
    by : (k : ℕ) → k < length (old ++ c.id ∷ []) → (k < length old) ⊎ (length old ≤ k)
        → slice_get (old ++ c.id ∷ []) k ≡ option_map (λ (a : Ancestry). a.id) (next_ready came saved (take k (old ++ c.id ∷ [])))
    by k lt (inl left) = get-left old c.id k left ∙ h k left ∙ ap (λ (l : List Id). option_map (λ (a : Ancestry). a.id) (next_ready came saved l)) (sym (take-left old c.id k (omega arith)))
    by k lt (inr right) =
        let last : k ≡ length old = omega (arith, length-append old (c.id ∷ [])) in
        ap (slice_get (old ++ c.id ∷ [])) last ∙ get-last old c.id
        ∙ sym (ap (λ (l : List Id). option_map (λ (a : Ancestry). a.id) (next_ready came saved l)) (take-left old c.id k (omega arith) ∙ take_all k old right)
        ∙ ap (option_map (λ (a : Ancestry). a.id)) next)

-- ---- the end

record FoundAs (p : Ancestry → Bool) (came : List Ancestry) (id : Id) : Type 0 where
  parents : List Id
  found : find p came ≡ Some (record { id = id; parents = parents })

found_as : (p : Ancestry → Bool) (came : List Ancestry) (id : Id) → Some id ≡ option_map (λ (c : Ancestry). c.id) (find p came) → FoundAs p came id
found_as p came id h = by (find p came) refl h
  where
    by : (o : Option Ancestry) → find p came ≡ o → Some id ≡ option_map (λ (c : Ancestry). c.id) o → FoundAs p came id
    by None e k = absurd cc
    by (Some c) e k = record { parents = c.parents; found = e ∙ ap (λ (x : Id). Some (record { id = x; parents = c.parents })) (sym (some_is k)) }

pub stuck : (came : List Ancestry) (saved all : List Id) (id : Id) → IsPlacement came saved all → next_ready came saved all ≡ None
    → Some id ≡ option_map (λ (c : Ancestry). c.id) (find (is_waiting saved all) came) → IsStuckAt came saved id
stuck came saved all id h none first =
    let f = found_as (is_waiting saved all) came id first in
    record { placed = all; parents = f.parents; places = h; none_ready = none; first = f.found }

pub none_found : (p : Ancestry → Bool) (came : List Ancestry) → None ≡ option_map {T = Ancestry} {U = Id} (λ c. c.id) (find p came) → find p came ≡ None
none_found p came h = by (find p came) h
  where
    by : (o : Option Ancestry) → None ≡ option_map {T = Ancestry} {U = Id} (λ c. c.id) o → o ≡ None
    by None h = refl
    by (Some c) h = absurd cc

-- ---- a list in which ids come again

module _ (known : List Object) (ids came : List Id) (same : (test : Id → Bool) → find test ids ≡ find test came) (saved : List Id) where
  finds : (p : Ancestry → Bool) → find p (ancestries known ids) ≡ find p (ancestries known came)
  finds p =
      find-map (ancestry_at known) p ids ∙ ap (option_map (ancestry_at known)) (same (λ id. p (ancestry_at known id))) ∙ sym (find-map (ancestry_at known) p came)

  places : (placed : List Id) → IsPlacement (ancestries known ids) saved placed → IsPlacement (ancestries known came) saved placed
  places placed h k lt = h k lt ∙ ap (option_map (λ (c : Ancestry). c.id)) (finds (is_ready saved (take k placed)))

  pub order-again : (placed : List Id) → IsOrder (ancestries known ids) saved placed → IsOrder (ancestries known came) saved placed
  order-again placed o = record { places = places placed o.places; all = sym (finds (is_waiting saved placed)) ∙ o.all }

  pub stuck-again : (id : Id) → IsStuckAt (ancestries known ids) saved id → IsStuckAt (ancestries known came) saved id
  stuck-again id s = record {
    placed = s.placed;
    parents = s.parents;
    places = places s.placed s.places;
    none_ready = sym (finds (is_ready saved s.placed)) ∙ s.none_ready;
    first = sym (finds (is_waiting saved s.placed)) ∙ s.first;
  }
