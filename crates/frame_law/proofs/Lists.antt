-- What a search finds in lists, and the last of some ids.
use Rattle.std.proofs.Common.{◌≡◌, ◌≢◌, Bool, true, false, List, [], ◌∷◌, ◌++◌, map, Some, None, refl, ap, ◌∙◌, inl, inr}
use Rattle.std.specs.Prelude.{bytes_eq, is_some, unwrap_or, IsTrue}
use Rattle.std.specs.List.{find, last_or}
use Rattle.text_model.specs.Lists.{In}
use Rattle.text_model.specs.Text.{Bytes}
use Rattle.text_model.specs.Id.{Id, null}
use Rattle.git_model.specs.Tree.{has_distinct}
use Rattle.pair_model.specs.Octopus.{last_id}
use Rattle.unmark_law.proofs.Tables.{eq_true, finds, one_for, found_there}

-- what is found is found in a longer list
pub find_longer : {X : Type 0} (test : X → Bool) (xs ys : List X) → IsTrue (is_some (find test xs)) → find test (xs ++ ys) ≡ find test xs
find_longer test [] ys h = absurd cc
find_longer test (x ∷ xs) ys h = by (test x) refl (find_longer test xs ys)
  where
    by : (t : Bool) → test x ≡ t → (IsTrue (is_some (find test xs)) → find test (xs ++ ys) ≡ find test xs) → find test (x ∷ xs ++ ys) ≡ find test (x ∷ xs)
    by true e go = rw e refl
    by false e go =
        let g : IsTrue (is_some (find test xs)) = rw e at h in
        rw e (go g)

-- two lists in which one search finds the same, behind one list
pub find_behind : {X : Type 0} (test : X → Bool) (xs ys zs : List X) → find test ys ≡ find test zs → find test (xs ++ ys) ≡ find test (xs ++ zs)
find_behind test [] ys zs h = h
find_behind test (x ∷ xs) ys zs h = by (test x) refl (find_behind test xs ys zs h)
  where
    by : (t : Bool) → test x ≡ t → find test (xs ++ ys) ≡ find test (xs ++ zs) → find test (x ∷ xs ++ ys) ≡ find test (x ∷ xs ++ zs)
    by true e go = rw e refl
    by false e go = rw e go

-- the only element of that value is found
pub finds_it : {X : Type 0} (f : X → Bytes) (xs : List X) → IsTrue (has_distinct (map f xs)) → (a : X) → In a xs → find (λ x. bytes_eq (f x) (f a)) xs ≡ Some a
finds_it f xs d a i =
    let r = finds f (f a) xs (found_there f xs a i) in
    r.found ∙ ap Some (one_for f xs d r.it a r.among i r.is)

-- what stands nowhere isn't found
pub finds_none : {X : Type 0} (f : X → Bytes) (n : Bytes) (xs : List X) → ((x : X) → In x xs → f x ≢ n) → find (λ x. bytes_eq (f x) n) xs ≡ None
finds_none f n [] h = refl
finds_none f n (x ∷ xs) h = by (bytes_eq (f x) n) refl (finds_none f n xs (λ y i. h y (inr i)))
  where
    by : (t : Bool) → bytes_eq (f x) n ≡ t → find (λ x. bytes_eq (f x) n) xs ≡ None → find (λ x. bytes_eq (f x) n) (x ∷ xs) ≡ None
    by true e go = absurd (h x (inl refl) (eq_true (f x) n e))
    by false e go = rw e go

-- ---- the last of some ids

pub record LastOf {X : Type 0} (f : X → Id) (n : Id) (xs : List X) : Type 0 where
  pub it : X
  pub among : In it xs
  pub is : n ≡ f it

last_by : {X : Type 0} (f : X → Id) (x : X) (xs : List X) → LastOf f (unwrap_or (last_or (Some (f x)) (map f xs)) null) (x ∷ xs)
last_by f x [] = record { it = x; among = inl refl; is = refl }
last_by f x (y ∷ ys) =
    let r = last_by f y ys in
    record { it = r.it; among = inr r.among; is = r.is }

pub last_is : {X : Type 0} (f : X → Id) (first : Id) (x : X) (xs : List X) → LastOf f (last_id (first ∷ map f (x ∷ xs))) (x ∷ xs)
last_is f first x xs = last_by f x xs

pub last_alone : {X : Type 0} (f : X → Id) (x : X) (xs : List X) → LastOf f (last_id (map f (x ∷ xs))) (x ∷ xs)
last_alone f x xs = last_by f x xs
