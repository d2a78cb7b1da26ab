-- Ids of blocks, each of which stands once.
use Rattle.std.proofs.Common.{◌≡◌, ℕ, zero, suc, true, false, not, ◌||◌, List, [], ◌∷◌, map, take, Some, None, bytes_eq, slice_get, refl, sym, ap, ◌∙◌}
use Rattle.std.specs.List.{list_any}
use Rattle.text_model.specs.Lists.{Each}
use Rattle.text_model.specs.Text.{Bytes}
use Rattle.text_model.specs.Id.{Id, has_id}
use Rattle.text_model.proofs.Elements.{each_at, each_from, none_in, in_map}
use Rattle.text_model.proofs.Options.{some_is, none_some, not_true, or_parts}
use Rattle.text_model.proofs.TestLemmas.{both}
use Rattle.git_model.specs.Tree.{has_distinct}
use Rattle.git_store.proofs.DistinctLemmas.{bytes_eq-comm}
use Rattle.pair_known.specs.Partners.{git_at, hg_at}

-- ---- the pairs before a place

module _ {X : Type 0} (key : X → Bytes) where
  apart : (x : X) (xs : List X) → has_distinct (map key (x ∷ xs)) ≡ true → Each (λ y. bytes_eq (key x) (key y) ≡ false) xs
  apart x xs h =
      let none = not_true (list_any (bytes_eq (key x)) (map key xs)) (both (not (list_any (bytes_eq (key x)) (map key xs))) (has_distinct (map key xs)) h).0 in
      each_from (λ y. bytes_eq (key x) (key y) ≡ false) xs (λ y i. none_in (bytes_eq (key x)) (map key xs) (key y) none (in_map key y xs i))

  rest-distinct : (x : X) (xs : List X) → has_distinct (map key (x ∷ xs)) ≡ true → has_distinct (map key xs) ≡ true
  rest-distinct x xs h = (both (not (list_any (bytes_eq (key x)) (map key xs))) (has_distinct (map key xs)) h).1

module _ {X : Type 0} (first second : X → Id) where
  abbrev both_of : X → Id × Id
  both_of x = (first x, second x)

  git-found : (k : Id) (x : X) (xs : List X) → bytes_eq (first x) k ≡ false → git_at (map both_of (x ∷ xs)) k ≡ git_at (map both_of xs) k
  git-found k x xs h = rw h refl

  hg-found : (k : Id) (x : X) (xs : List X) → bytes_eq (second x) k ≡ false → hg_at (map both_of (x ∷ xs)) k ≡ hg_at (map both_of xs) k
  hg-found k x xs h = rw h refl

  pub git-free : (xs : List X) (i : ℕ) (x : X) → has_distinct (map first xs) ≡ true → slice_get xs i ≡ Some x → git_at (map both_of (take i xs)) (first x) ≡ None
  git-free [] i x h at = absurd (none_some at)
  git-free (y ∷ ys) zero x h at = refl
  git-free (y ∷ ys) (suc i) x h at =
      git-found (first x) y (take i ys) (each_at (λ z. bytes_eq (first y) (first z) ≡ false) ys i x at (apart first y ys h)) ∙ git-free ys i x (rest-distinct first y ys h) at

  pub hg-free : (xs : List X) (i : ℕ) (x : X) → has_distinct (map second xs) ≡ true → slice_get xs i ≡ Some x → hg_at (map both_of (take i xs)) (second x) ≡ None
  hg-free [] i x h at = absurd (none_some at)
  hg-free (y ∷ ys) zero x h at = refl
  hg-free (y ∷ ys) (suc i) x h at =
      hg-found (second x) y (take i ys) (each_at (λ z. bytes_eq (second y) (second z) ≡ false) ys i x at (apart second y ys h)) ∙ hg-free ys i x (rest-distinct second y ys h) at

-- ---- the ids before a place

-- an id that is none of others, and stands at a place of them, is none
not-at : (x : Id) (ids : List Id) (i : ℕ) (id : Id) → has_id ids x ≡ false → slice_get ids i ≡ Some id → bytes_eq x id ≡ false
not-at x [] i id h at = absurd (none_some at)
not-at x (y ∷ ids) zero id h at = ap (bytes_eq x) (sym (some_is at)) ∙ (or_parts (bytes_eq x y) (has_id ids x) h).0
not-at x (y ∷ ids) (suc i) id h at = not-at x ids i id (or_parts (bytes_eq x y) (has_id ids x) h).1 at

pub id-free : (ids : List Id) (i : ℕ) (id : Id) → has_distinct ids ≡ true → slice_get ids i ≡ Some id → has_id (take i ids) id ≡ false
id-free [] i id h at = absurd (none_some at)
id-free (x ∷ ids) zero id h at = refl
id-free (x ∷ ids) (suc i) id h at =
    let parts = both (not (has_id ids x)) (has_distinct ids) h in
    let other = bytes_eq-comm id x ∙ not-at x ids i id (not_true (has_id ids x) parts.0) at in
    (λ k. other k || id-free ids i id parts.1 at k)
