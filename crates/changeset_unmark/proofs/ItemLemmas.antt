-- Tests of the items that a mark names.
use Rattle.std.proofs.Common.{◌≡◌, ◌≤◌, Bool, true, false, true≢false, List, [], ◌∷◌, length, Some, refl, sym, ap, arith}
use Rattle.std.specs.Prelude.{filter}
use Rattle.std.specs.List.{list_all}
use Rattle.git_model.specs.Residue.{ResidueItem}
use Rattle.partner_model.specs.Mark.{same_items, residue_unless}
use Rattle.unmark_law.proofs.ChangesetOne.{same_items_is}

-- ---- a filter that keeps all

filter-short : {X : Type 0} (f : X → Bool) (xs : List X) → length (filter f xs) ≤ length xs
filter-short f [] = omega arith
filter-short f (x ∷ xs) = by (f x) refl (filter-short f xs)
  where
    by : (t : Bool) → f x ≡ t → length (filter f xs) ≤ length xs → length (filter f (x ∷ xs)) ≤ length (x ∷ xs)
    by true e h = rw e (omega (arith, h))
    by false e h = rw e (omega (arith, h))

pub all-kept : {X : Type 0} (f : X → Bool) (xs : List X) → length (filter f xs) ≡ length xs → list_all f xs ≡ true
all-kept f [] h = refl
all-kept f (x ∷ xs) h = by (f x) refl (all-kept f xs)
  where
    by : (t : Bool) → f x ≡ t → (length (filter f xs) ≡ length xs → list_all f xs ≡ true) → list_all f (x ∷ xs) ≡ true
    by true e rest =
        let g : length (x ∷ filter f xs) ≡ length (x ∷ xs) = rw e at h in
        rw e (rest (omega (arith, g)))
    by false e rest =
        let g : length (filter f xs) ≡ length (x ∷ xs) = rw e at h in
        let k = filter-short f xs in
        absurd (omega (arith, g, k))

pub kept-all : {X : Type 0} (f : X → Bool) (xs : List X) → list_all f xs ≡ true → filter f xs ≡ xs
kept-all f [] h = refl
kept-all {X} f (x ∷ xs) h = by (f x) refl (kept-all f xs)
  where
    by : (t : Bool) → f x ≡ t → (list_all f xs ≡ true → filter f xs ≡ xs) → filter f (x ∷ xs) ≡ x ∷ xs
    by true e rest =
        let g : list_all f xs ≡ true = rw e at h in
        rw e (ap (λ (l : List X). x ∷ l) (rest g))
    by false e rest =
        let g : false ≡ true = rw e at h in
        absurd (true≢false (sym g))

-- ---- items that aren't the given ones

pub unless-other : (items given : List ResidueItem) → (items ≡ given → ⊥) → residue_unless items given ≡ Some items
unless-other items given other = by (same_items items given) refl
  where
    by : (t : Bool) → same_items items given ≡ t → residue_unless items given ≡ Some items
    by true e = absurd (other (same_items_is items given e))
    by false e = rw e refl
