-- Ids each of which stands once.
use Rattle.std.proofs.Common.{◌≡◌, ℕ, zero, suc, Bool, true, false, true≢false, not, List, [], ◌∷◌, ◌++◌, Option, Some, None, refl, sym, ap, ◌∙◌, bytes_eq}
use Rattle.std.specs.Prelude.{slice_get, option_map}
use Rattle.std.specs.Option.{option_or}
use Rattle.std.specs.List.{list_any, find}
use Rattle.std.proofs.lemmas.List.Folds.{find-append}
use Rattle.std.proofs.lemmas.Slice.Eq.{bytes_eq-Decides}
use Rattle.text_model.specs.Id.{Id, has_id}
use Rattle.text_model.proofs.TestLemmas.{both}
use Rattle.text_model.proofs.Options.{some_is, not_true}
use Rattle.git_model.specs.Tree.{has_distinct}
use Rattle.git_model.specs.Object.{Object}
use Rattle.git_model.specs.Order.{Ancestry}
use Rattle.git_store.specs.Ancestry.{ancestry_at, ancestries}
use Rattle.git_store.specs.Stage.{AreDistinct}
use Rattle.git_store.proofs.FindLemmas.{get-map}

-- ---- an id more

module _ (test : Id → Bool) where
  or_none : (o : Option Id) → option_or o None ≡ o
  or_none None = refl
  or_none (Some x) = refl

  -- an id that stands there already finds nothing new
  there-already : (ids : List Id) (x : Id) → has_id ids x ≡ true → option_or (find test ids) (find test (x ∷ [])) ≡ find test ids
  there-already [] x h = absurd (true≢false (sym h))
  there-already (y ∷ ids) x h = by (test y) (bytes_eq x y) refl refl (there-already ids x)
    where
      by : (t same : Bool) → test y ≡ t → bytes_eq x y ≡ same → (has_id ids x ≡ true → option_or (find test ids) (find test (x ∷ [])) ≡ find test ids)
          → option_or (find test (y ∷ ids)) (find test (x ∷ [])) ≡ find test (y ∷ ids)
      by true same t s rest = rw t refl
      by false true t s rest =
          let none : find test (x ∷ []) ≡ None = rw (ap test ((bytes_eq-Decides x y).0 s) ∙ t) refl in
          rw (t, none) (or_none (find test ids))
      by false false t s rest = rw t (rest (sym (rw s refl) ∙ h))

  pub finds-new : (ids front : List Id) (x : Id) → find test ids ≡ find test front → find test (ids ++ x ∷ []) ≡ find test (front ++ x ∷ [])
  finds-new ids front x same =
      find-append test ids (x ∷ []) ∙ ap (λ (o : Option Id). option_or o (find test (x ∷ []))) same ∙ sym (find-append test front (x ∷ []))

  pub finds-again : (ids front : List Id) (x : Id) → find test ids ≡ find test front → has_id ids x ≡ true → find test ids ≡ find test (front ++ x ∷ [])
  finds-again ids front x same there =
      sym (there-already ids x there) ∙ ap (λ (o : Option Id). option_or o (find test (x ∷ []))) same ∙ sym (find-append test front (x ∷ []))

-- ---- distinct ids

absent : (ids : List Id) (i : ℕ) (x y : Id) → list_any (bytes_eq x) ids ≡ false → slice_get ids i ≡ Some y → x ≡ y → ⊥
absent [] i x y none h e = cc
absent (z ∷ ids) zero x y none h e = by (bytes_eq x z) refl
  where
    by : (b : Bool) → bytes_eq x z ≡ b → ⊥
    by true s = true≢false (sym (rw s refl) ∙ none)
    by false s = true≢false (sym ((bytes_eq-Decides x z).1 (e ∙ sym (some_is h))) ∙ s)
absent (z ∷ ids) (suc i) x y none h e = by (bytes_eq x z) refl (absent ids i x y)
  where
    by : (b : Bool) → bytes_eq x z ≡ b → (list_any (bytes_eq x) ids ≡ false → slice_get ids i ≡ Some y → x ≡ y → ⊥) → ⊥
    by true s rest = true≢false (sym (rw s refl) ∙ none)
    by false s rest = rest (sym (rw s refl) ∙ none) h e

pub one_place : (ids : List Id) (i j : ℕ) (x y : Id) → has_distinct ids ≡ true → slice_get ids i ≡ Some x → slice_get ids j ≡ Some y → x ≡ y → i ≡ j
one_place [] i j x y d h k e = cc
one_place (z ∷ ids) zero zero x y d h k e = refl
one_place (z ∷ ids) zero (suc j) x y d h k e =
    let first = both (not (list_any (bytes_eq z) ids)) (has_distinct ids) d in
    absurd (absent ids j z y (not_true (list_any (bytes_eq z) ids) first.0) k (some_is h ∙ e))
one_place (z ∷ ids) (suc i) zero x y d h k e =
    let first = both (not (list_any (bytes_eq z) ids)) (has_distinct ids) d in
    absurd (absent ids i z x (not_true (list_any (bytes_eq z) ids) first.0) h (some_is k ∙ sym e))
one_place (z ∷ ids) (suc i) (suc j) x y d h k e =
    let first = both (not (list_any (bytes_eq z) ids)) (has_distinct ids) d in
    ap suc (one_place ids i j x y first.1 h k e)

-- the id at the place of a row
record RowAt (ids : List Id) (i : ℕ) (a : Ancestry) : Type 0 where
  id : Id
  at_place : slice_get ids i ≡ Some id
  is : a.id ≡ id

row_at : (known : List Object) (ids : List Id) (i : ℕ) (a : Ancestry) → slice_get (ancestries known ids) i ≡ Some a → RowAt ids i a
row_at known ids i a h = by (slice_get ids i) refl (sym (get-map (ancestry_at known) ids i) ∙ h)
  where
    by : (o : Option Id) → slice_get ids i ≡ o → option_map (ancestry_at known) o ≡ Some a → RowAt ids i a
    by None e k = absurd cc
    by (Some id) e k = record { id = id; at_place = e; is = ap (λ (r : Ancestry). r.id) (sym (some_is k)) }

pub distinct-rows : (known : List Object) (ids : List Id) → has_distinct ids ≡ true → AreDistinct (ancestries known ids)
distinct-rows known ids d i j a b h k e =
    let r = row_at known ids i a h in
    let s = row_at known ids j b k in
    one_place ids i j r.id s.id d r.at_place s.at_place (sym r.is ∙ e ∙ s.is)
