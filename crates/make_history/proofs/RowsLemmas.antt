-- A row among others.
use Rattle.std.proofs.Common.{◌≡◌, ◌≤◌, ◌+◌, ℕ, zero, suc, Bool, true, false, true≢false, not, arith, List, [], ◌∷◌, ◌++◌, map, take, drop, length, Option, Some, refl, sym, ap, subst, ◌∙◌, append_assoc}
use Rattle.std.specs.Prelude.{filter, slice_get, bytes_eq, option_map}
use Rattle.std.proofs.lemmas.Slice.Eq.{bytes_eq-Decides}
use Rattle.std.proofs.lemmas.List.{drop-append-le}
use Rattle.std.proofs.lemmas.List.Elements.{filter-append}
use Rattle.text_model.proofs.Elements.{take_push, map_append, take_whole}
use Rattle.std.proofs.lemmas.List.{length-map}
use Rattle.hg_model.specs.Manifest.{ManifestEntry}
use Rattle.pair_known.specs.Rows.{RowValue, row_value}
use Rattle.text_model.specs.Lists.{Each, with_inserted}
use Rattle.text_model.specs.Text.{Bytes, has_byte, is_below}
use Rattle.text_model.proofs.OrderLemmas.{is_below-one_way, is_below-same, above-other}
use Rattle.view_model.specs.View.{Row, entry_of_row}
use Rattle.make_model.specs.History.{with_row}

-- there are as many before a place
length-take-le : {X : Type 0} (xs : List X) (i : ℕ) (x : X) → slice_get xs i ≡ Some x → length (take i xs) ≡ i
length-take-le [] i x at = absurd cc
length-take-le (y ∷ xs) zero x at = refl
length-take-le (y ∷ xs) (suc i) x at = ap suc (length-take-le xs i x at)

module _ (new : Row) where
  abbrev pub is_other : Row → Bool
  is_other row = not (bytes_eq row.path new.path)

  abbrev below : Row → Row → Bool
  below a b = is_below a.path b.path

  -- none of the first ones stands above the row, and the next one does
  split : (old : List Row) (n : ℕ) → Each (λ r. is_below new.path r.path ≡ false) (take n old) → ((x : Row) → slice_get old n ≡ Some x → is_below new.path x.path ≡ true)
      → with_inserted below new (filter is_other old) ≡ filter is_other (take n old) ++ new ∷ filter is_other (drop n old)
  split [] zero front next = refl
  split [] (suc n) front next = refl
  split (x ∷ xs) zero front next =
      let up = next x refl in
      let other : bytes_eq x.path new.path ≡ false = above-other new.path x.path up in
      let down : is_below x.path new.path ≡ false = is_below-one_way new.path x.path up in
      rw (other, down) refl
  split (x ∷ xs) (suc n) front next = by (bytes_eq x.path new.path) refl (split xs n front.1 next)
    where
      by : (t : Bool) → bytes_eq x.path new.path ≡ t → with_inserted below new (filter is_other xs) ≡ filter is_other (take n xs) ++ new ∷ filter is_other (drop n xs)
          → with_inserted below new (filter is_other (x ∷ xs)) ≡ filter is_other (x ∷ take n xs) ++ new ∷ filter is_other (drop n xs)
      by true e rec = rw e rec
      by false e rec = low (is_below x.path new.path) refl
        where
          low : (u : Bool) → is_below x.path new.path ≡ u → with_inserted below new (filter is_other (x ∷ xs)) ≡ filter is_other (x ∷ take n xs) ++ new ∷ filter is_other (drop n xs)
          low true f = rw (e, f) (ap (λ l. x ∷ l) rec)
          low false f = absurd (true≢false (sym ((bytes_eq-Decides x.path new.path).1 (is_below-same x.path new.path f front.0)) ∙ e))

  pub with-row : (old : List Row) (n : ℕ) → Each (λ r. is_below new.path r.path ≡ false) (take n old) → ((x : Row) → slice_get old n ≡ Some x → is_below new.path x.path ≡ true)
      → with_row new old ≡ filter is_other (take n old) ++ new ∷ filter is_other (drop n old)
  unfolding with_row
  with-row old n front next = split old n front next

-- ---- one row more

-- the rows from a place on, behind which one more comes
pub drop-push : {X : Type 0} (xs : List X) (from i : ℕ) (x : X) → from ≤ i → slice_get xs i ≡ Some x → drop from (take (i + 1) xs) ≡ drop from (take i xs) ++ x ∷ []
drop-push xs from i x few at =
    ap (drop from) (take_push xs i x at) ∙ drop-append-le from (take i xs) (x ∷ []) (omega (arith, length-take-le xs i x at, few))

pub others-push : (test : Row → Bool) (xs : List Row) (from i : ℕ) (x : Row) → from ≤ i → slice_get xs i ≡ Some x
    → map row_value (filter test (drop from (take (i + 1) xs))) ≡ map row_value (filter test (drop from (take i xs))) ++ map row_value (filter test (x ∷ []))
others-push test xs from i x few at =
    ap (λ (l : List Row). map row_value (filter test l)) (drop-push xs from i x few at)
    ∙ ap (map row_value) (filter-append test (drop from (take i xs)) (x ∷ []))
    ∙ map_append row_value (filter test (drop from (take i xs))) (filter test (x ∷ []))

-- ---- the row among those of a manifest

unmap-front : (old : List Row) (n : ℕ) (path : Bytes) → Each (λ (e : ManifestEntry). is_below path e.path ≡ false) (take n (map entry_of_row old)) → Each (λ (r : Row). is_below path r.path ≡ false) (take n old)
unmap-front [] zero path h = tt
unmap-front [] (suc n) path h = tt
unmap-front (x ∷ old) zero path h = tt
unmap-front (x ∷ old) (suc n) path h = (h.0, unmap-front old n path h.1)

map-at : (old : List Row) (n : ℕ) (x : Row) → slice_get old n ≡ Some x → slice_get (map entry_of_row old) n ≡ Some (entry_of_row x)
map-at [] n x at = absurd cc
map-at (y ∷ old) zero x at = ap (λ (r : Option Row). option_map entry_of_row r) at
map-at (y ∷ old) (suc n) x at = map-at old n x at

module _ (new : Row) (old : List Row) (n : ℕ) where
  in-place : Each (λ (e : ManifestEntry). is_below new.path e.path ≡ false) (take n (map entry_of_row old))
      → ((e : ManifestEntry) → slice_get (map entry_of_row old) n ≡ Some e → is_below new.path e.path ≡ true)
      → map row_value (with_row new old) ≡ (map row_value (filter (is_other new) (take n old)) ++ row_value new ∷ []) ++ map row_value (filter (is_other new) (drop n old))
  in-place front next =
      ap (map row_value) (with-row new old n (unmap-front old n new.path front) (λ x at. next (entry_of_row x) (map-at old n x at)))
      ∙ map_append row_value (filter (is_other new) (take n old)) (new ∷ filter (is_other new) (drop n old))
      ∙ sym (append_assoc (map row_value (filter (is_other new) (take n old))) (row_value new ∷ []) (map row_value (filter (is_other new) (drop n old))))

abbrev other : Bytes → Row → Bool
other path row = not (bytes_eq row.path path)

-- what was pushed, where the entries are those of the rows
pub placed : (new : Row) (old : List Row) (entries : List ManifestEntry) (path : Bytes) (n m : ℕ) (v : RowValue) (a b d : List RowValue) → v ≡ row_value new → path ≡ new.path → map entry_of_row old ≡ entries
    → length entries ≤ m → Each (λ (e : ManifestEntry). is_below path e.path ≡ false) (take n entries) → ((e : ManifestEntry) → slice_get entries n ≡ Some e → is_below path e.path ≡ true)
    → a ≡ map row_value (filter (other path) (drop 0 (take n old))) → b ≡ a ++ v ∷ [] → d ≡ b ++ map row_value (filter (other path) (drop n (take m old)))
    → d ≡ map row_value (with_row new old)
placed new old entries path n m v a b d value path_is same few front next ea eb ed =
    let all : take m old ≡ old = take_whole old m (omega (arith, length-map old entry_of_row, ap length same, few)) in
    let P : Bytes → Type 0 = λ p. Each (λ (e : ManifestEntry). is_below p e.path ≡ false) (take n (map entry_of_row old)) in
    let Q : Bytes → Type 0 = λ p. (e : ManifestEntry) → slice_get (map entry_of_row old) n ≡ Some e → is_below p e.path ≡ true in
    let front2 : P path = subst (λ (l : List ManifestEntry). Each (λ (e : ManifestEntry). is_below path e.path ≡ false) (take n l)) (sym same) front in
    let next2 : Q path = λ e at. next e (ap (λ (l : List ManifestEntry). slice_get l n) (sym same) ∙ at) in
    ed
    ∙ (λ i. (eb ∙ (λ j. (ea ∙ (λ k. map row_value (filter (other (path_is k)) (take n old)))) j ++ value j ∷ [])) i ++ map row_value (filter (other (path_is i)) (drop n (all i))))
    ∙ sym (in-place new old n (subst P path_is front2) (subst Q path_is next2))

pub behind-none : (a b xs : List RowValue) → a ≡ b ++ xs → b ≡ [] → a ≡ xs
behind-none a b xs e none = e ∙ ap (λ (l : List RowValue). l ++ xs) none

pub clean-entries : (rows : List Row) → Each (λ (row : Row). has_byte 1 row.path ≡ false) rows → Each (λ (e : ManifestEntry). has_byte 1 e.path ≡ false) (map entry_of_row rows)
clean-entries [] h = tt
clean-entries (row ∷ rows) h = (h.0, clean-entries rows h.1)
