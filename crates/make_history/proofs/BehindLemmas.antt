-- Which changesets are the parents of the next one.
use Rattle.std.proofs.Common.{◌≡◌, ◌≤◌, ◌<◌, ◌-◌, ◌+◌, ◌==◌, ℕ, zero, suc, ◌⊎◌, Bool, true, false, arith, List, [], ◌∷◌, ◌++◌, length, Option, Some, None, refl, sym, ap, ◌∙◌, inl, inr}
use Rattle.std.specs.Prelude.{slice_get, nat_le, if◌then◌else◌}
use Rattle.std.specs.Option.{option_or}
use Rattle.std.proofs.lemmas.Bool.{leb-true, le-leb}
use Rattle.std.proofs.lemmas.Option.{slice_get-get_or}
use Rattle.text_model.specs.Lists.{Each}
use Rattle.text_model.proofs.Elements.{each_at}
use Rattle.text_model.proofs.Options.{none_some, some_is}
use Rattle.view_model.specs.View.{ChangesetView}
use Rattle.pair_model.specs.Block.{no_changeset}
use Rattle.make_model.specs.History.{back, first_parent, second_parent, view_or_none}

-- ---- so many places back

pub back-at : (wanted : Bool) (n : ℕ) (before : List ChangesetView) (v : ChangesetView) → back wanted n before ≡ Some v → (slice_get before (length before - n) ≡ Some v) × (n ≤ length before)
back-at false n before v e = absurd (none_some e)
back-at true n before v e = by (nat_le n (length before)) refl e
  where
    by : (t : Bool) → nat_le n (length before) ≡ t → (if t then slice_get before (length before - n) else None) ≡ Some v → (slice_get before (length before - n) ≡ Some v) × (n ≤ length before)
    by true t e = (e, leb-true n (length before) t)
    by false t e = absurd (none_some e)

-- there is one before unless there are none at all
none-back : (before : List ChangesetView) → back true 1 before ≡ None → length before ≡ 0
none-back [] e = refl
none-back (x ∷ before) e =
    let some : 1 ≤ length (x ∷ before) = omega arith in
    let below : length (x ∷ before) - 1 < length (x ∷ before) = omega arith in
    absurd (none_some (sym e ∙ ap (λ (t : Bool). if t then slice_get (x ∷ before) (length (x ∷ before) - 1) else None) (le-leb 1 (length (x ∷ before)) some) ∙ slice_get-get_or (x ∷ before) (length (x ∷ before) - 1) x below))

-- ---- the two parents

-- what holds of the two changesets before, and of none where there are none, holds of the first parent
pub first-either : (Q : Option ChangesetView → Type 0) (number : ℕ) (before : List ChangesetView) → ((i : ℕ) (v : ChangesetView) → slice_get before i ≡ Some v → length before ≤ i + 2 → Q (Some v)) → (length before ≡ 0 → Q None)
    → Q (first_parent number before)
first-either Q number before some none = by (back (number == 1) 2 before) refl (back true 1 before) refl
  where
    by : (a : Option ChangesetView) → back (number == 1) 2 before ≡ a → (b : Option ChangesetView) → back true 1 before ≡ b → Q (option_or a b)
    by (Some v) e b f = let at = back-at (number == 1) 2 before v e in some (length before - 2) v at.0 (omega (arith, at.1))
    by None e (Some v) f = let at = back-at true 1 before v f in some (length before - 1) v at.0 (omega (arith, at.1))
    by None e None f = none (none-back before f)

-- what holds of the third one back and of none holds of the second parent
pub second-either : (Q : Option ChangesetView → Type 0) (number : ℕ) (before : List ChangesetView) → ((i : ℕ) (v : ChangesetView) → slice_get before i ≡ Some v → i + 3 ≡ length before → Q (Some v)) → Q None
    → Q (second_parent number before)
second-either Q number before some none = by (back (number == 0) 3 before) refl
  where
    by : (a : Option ChangesetView) → back (number == 0) 3 before ≡ a → Q a
    by (Some v) e = let at = back-at (number == 0) 3 before v e in some (length before - 3) v at.0 (omega (arith, at.1))
    by None e = none

module _ (P : ChangesetView → Type 0) (number : ℕ) (before : List ChangesetView) (each : Each P before) (none : P no_changeset) where
  -- what holds of each of them holds of the parents
  pub first-each : P (view_or_none (first_parent number before))
  first-each = first-either (λ o. P (view_or_none o)) number before (λ i v at few. each_at P before i v at each) (λ e. none)

  pub second-each : P (view_or_none (second_parent number before))
  second-each = second-either (λ o. P (view_or_none o)) number before (λ i v at few. each_at P before i v at each) none

-- ---- one more

-- an element of a list that is one longer stands among those before, or is the last one
pub push-at : {X : Type 0} (xs : List X) (x : X) (i : ℕ) (v : X) → slice_get (xs ++ x ∷ []) i ≡ Some v → (slice_get xs i ≡ Some v) ⊎ ((i ≡ length xs) × (v ≡ x))
push-at [] x zero v at = inr (refl, sym (some_is at))
push-at [] x (suc i) v at = absurd (none_some at)
push-at (y ∷ xs) x zero v at = inl at
push-at (y ∷ xs) x (suc i) v at = by (push-at xs x i v at)
  where
    by : (slice_get xs i ≡ Some v) ⊎ ((i ≡ length xs) × (v ≡ x)) → (slice_get xs i ≡ Some v) ⊎ ((suc i ≡ suc (length xs)) × (v ≡ x))
    by (inl e) = inl e
    by (inr e) = inr (ap suc e.0, e.1)
