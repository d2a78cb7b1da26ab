-- What a binary search among paths that rise finds.
use Rattle.std.proofs.Common.{◌≡◌, ◌≢◌, ◌<◌, ◌≤◌, ℕ, zero, suc, Bool, true, false, List, [], ◌∷◌, length, map, Option, Some, None, get_or, refl, sym, ap, subst, ◌∙◌, arith, Ordering, Less, Equal, Greater, nat_cmp, is_lt, bytes_eq, find, inl, inr}
use Rattle.std.specs.Prelude.{option_map}
use Rattle.std.specs.List.{HoldsAt}
use Rattle.std.specs.List.Sorted.{IsNonDecreasingBy, IsPartitionPoint}
use Rattle.std.specs.Ordering.{ordering_reverse, ordering_index}
use Rattle.std.specs.Cmp.Lexicographic.{slice_cmp}
use Rattle.std.proofs.lemmas.Cmp.{nat_list_cmp_total}
use Rattle.std.proofs.lemmas.Bool.{and_parts, cases_lt, false≢true}
use Rattle.std.proofs.lemmas.Map.Lookups.{exact_bytes}
use Rattle.std.proofs.lemmas.Slice.Eq.{bytes_eq-Decides}
use Rattle.text_model.specs.Lists.{Each, rises}
use Rattle.text_model.specs.Text.{Bytes, is_below}
use Rattle.text_model.proofs.EachLemmas.{Each-weaker}
use Rattle.text_model.proofs.OrderLemmas.{is_below-chain, is_below-irreflexive, less}
use Rattle.text_model.proofs.TestLemmas.{bytes_eq-other}

-- ---- one comparison

-- where a is below b, b compares with p as a does or later
index_rises : (a b p : Bytes) → is_below a b ≡ true → ordering_index (slice_cmp nat_cmp a p) ≤ ordering_index (slice_cmp nat_cmp b p)
index_rises a b p below = by (slice_cmp nat_cmp a p) refl
  where
    past : is_below p b ≡ true → ordering_index (slice_cmp nat_cmp b p) ≡ 2
    past h = ap ordering_index (nat_list_cmp_total.antisymm b p ∙ ap ordering_reverse (less (slice_cmp nat_cmp p b) h))

    by : (o : Ordering) → slice_cmp nat_cmp a p ≡ o → ordering_index o ≤ ordering_index (slice_cmp nat_cmp b p)
    by Less e = omega arith
    by Equal e = omega (arith, past (subst (λ (x : Bytes). is_below x b ≡ true) (exact_bytes a p e) below))
    by Greater e = omega (arith, past (is_below-chain p a b (ap is_lt (nat_list_cmp_total.antisymm p a ∙ ap ordering_reverse e)) below))

-- ---- paths that rise

pub apart : (a b : Bytes) → is_below a b ≡ true → a ≢ b
apart a b below same = false≢true (sym (is_below-irreflexive b) ∙ ap (λ (x : Bytes). is_below x b) (sym same) ∙ below)

equal_self : (p : Bytes) → slice_cmp nat_cmp p p ≡ Equal
equal_self p = by (slice_cmp nat_cmp p p) refl
  where
    by : (o : Ordering) → slice_cmp nat_cmp p p ≡ o → slice_cmp nat_cmp p p ≡ Equal
    by Less e = absurd (false≢true (sym (is_below-irreflexive p) ∙ ap is_lt e))
    by Equal e = e
    by Greater e = absurd (false≢true (sym (is_below-irreflexive p) ∙ ap is_lt (nat_list_cmp_total.antisymm p p ∙ ap ordering_reverse e)))

less_equal : Less ≡ Equal → ⊥
less_equal e = cc

greater_equal : Greater ≡ Equal → ⊥
greater_equal e = cc

each_at : {X : Type 0} (P : X → Type 0) (xs : List X) (i : ℕ) (d : X) → Each P xs → i < length xs → P (get_or xs i d)
each_at P [] i d h lt = absurd (omega arith)
each_at P (x ∷ xs) zero d h lt = h.0
each_at P (x ∷ xs) (suc i) d h lt = each_at P xs i d h.1 (omega arith)

module _ {X : Type 0} (path : X → Bytes) where
  -- each path is below all that follow
  abbrev pub IsRising : List X → Type 0
  IsRising [] = Unit {0}
  IsRising (x ∷ xs) = Each (λ y. is_below (path x) (path y) ≡ true) xs × IsRising xs

  pub rising : (xs : List X) → rises is_below (map path xs) ≡ true → IsRising xs
  rising [] h = tt
  rising (x ∷ []) h = (tt, tt)
  rising (x ∷ y ∷ ys) h =
      let parts = and_parts (is_below (path x) (path y)) _ h in
      let others = rising (y ∷ ys) parts.1 in
      ((parts.0, Each-weaker (λ z. is_below (path y) (path z) ≡ true) (λ z. is_below (path x) (path z) ≡ true) (λ z below. is_below-chain (path x) (path y) (path z) parts.0 below) ys others.0), others)

  rising_at : (xs : List X) (i j : ℕ) (d : X) → IsRising xs → i < j → j < length xs → is_below (path (get_or xs i d)) (path (get_or xs j d)) ≡ true
  rising_at [] i j d h lt within = absurd (omega arith)
  rising_at (x ∷ xs) i zero d h lt within = absurd (omega arith)
  rising_at (x ∷ xs) zero (suc j) d h lt within = each_at (λ y. is_below (path x) (path y) ≡ true) xs j d h.0 (omega arith)
  rising_at (x ∷ xs) (suc i) (suc j) d h lt within = rising_at xs i j d h.1 (omega arith) (omega arith)

  comparisons_rise : (xs : List X) (p : Bytes) → IsRising xs → IsNonDecreasingBy (λ e. ordering_index (slice_cmp nat_cmp (path e) p)) xs
  comparisons_rise xs p h i j d le within = elim (cases_lt i j) [
    | inl lt ↦ index_rises (path (get_or xs i d)) (path (get_or xs j d)) p (rising_at xs i j d h lt within)
    | inr ge ↦
        let same : i ≡ j = omega arith in
        omega (arith, ap (λ (k : ℕ). ordering_index (slice_cmp nat_cmp (path (get_or xs k d)) p)) same)
  ]

  -- ---- the element of a path

  abbrev pub found_in : List X → Bytes → Option X
  found_in xs p = find (λ e. bytes_eq (path e) p) xs

  found_at : (xs : List X) (i : ℕ) (d : X) → IsRising xs → i < length xs → found_in xs (path (get_or xs i d)) ≡ Some (get_or xs i d)
  found_at [] i d h lt = absurd (omega arith)
  found_at (x ∷ xs) zero d h lt = rw ((bytes_eq-Decides (path x) (path x)).1 refl) refl
  found_at (x ∷ xs) (suc i) d h lt =
      let other = bytes_eq-other (path x) (path (get_or xs i d)) (apart (path x) (path (get_or xs i d)) (each_at (λ y. is_below (path x) (path y) ≡ true) xs i d h.0 (omega arith))) in
      rw other (found_at xs i d h.1 (omega arith))

  pub not_found : (xs : List X) (p : Bytes) → ((k : ℕ) (d : X) → k < length xs → path (get_or xs k d) ≢ p) → found_in xs p ≡ None
  not_found [] p h = refl
  not_found (x ∷ xs) p h = rw (bytes_eq-other (path x) p (h 0 x (omega arith))) (not_found xs p (λ k d lt. h (suc k) d (omega arith)))

  -- what stands at a place where the path is the one sought
  pub got_at : (xs : List X) (p : Bytes) (i : ℕ) (e : X) → rises is_below (map path xs) ≡ true → i < length xs → e ≡ get_or xs i e → path e ≡ p → Some e ≡ found_in xs p
  got_at xs p i e up lt read is = ap Some read ∙ sym (found_at xs i e (rising xs up) lt) ∙ ap (λ (x : X). found_in xs (path x)) (sym read) ∙ ap (found_in xs) is

  -- what the search answers
  pub got : (xs : List X) (p : Bytes) (i : ℕ) (e : X) → rises is_below (map path xs) ≡ true
      → i < length xs → HoldsAt (λ e. slice_cmp nat_cmp (path e) p ≡ Equal) xs i → e ≡ get_or xs i e → Some e ≡ found_in xs p
  got xs p i e up lt equal read = got_at xs p i e up lt read (ap path read ∙ exact_bytes (path (get_or xs i e)) p (equal e))

  pub not_got : (xs : List X) (p : Bytes) (i : ℕ) → rises is_below (map path xs) ≡ true
      → (IsNonDecreasingBy (λ e. ordering_index (slice_cmp nat_cmp (path e) p)) xs → IsPartitionPoint (λ e. slice_cmp nat_cmp (path e) p ≡ Less) (λ e. slice_cmp nat_cmp (path e) p ≡ Greater) xs i)
      → None ≡ found_in xs p
  not_got xs p i up parted =
      let point = parted (comparisons_rise xs p (rising xs up)) in
      sym (not_found xs p (λ k d lt same. elim (cases_lt k i) [
        | inl below ↦ less_equal (sym (point.0 k d (omega arith) below) ∙ ap (λ (x : Bytes). slice_cmp nat_cmp x p) same ∙ equal_self p)
        | inr above ↦ greater_equal (sym (point.1 k d above lt) ∙ ap (λ (x : Bytes). slice_cmp nat_cmp x p) same ∙ equal_self p)
      ]))

-- ---- what is found in a list that was mapped

pub find-map : {X Y : Type 0} (f : X → Y) (test : Y → Bool) (xs : List X) → find test (map f xs) ≡ option_map f (find (λ x. test (f x)) xs)
find-map f test [] = refl
find-map {X} {Y} f test (x ∷ xs) = by (test (f x)) refl (find-map f test xs)
  where
    by : (t : Bool) → test (f x) ≡ t → find test (map f xs) ≡ option_map f (find (λ x. test (f x)) xs) → find test (map f (x ∷ xs)) ≡ option_map f (find (λ x. test (f x)) (x ∷ xs))
    by true t later = rw t refl
    by false t later = rw t later
