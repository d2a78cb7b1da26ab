-- The changesets of a made history are small: their paths are good and few. And each has the time of its place.
use Rattle.std.proofs.Common.{◌≡◌, ◌≤◌, ◌<◌, ◌*◌, ◌⊎◌, ℕ, zero, suc, Bool, true, false, arith, List, [], ◌∷◌, length, Some, refl, sym, ap, subst, inl, inr}
use Rattle.std.specs.Prelude.{filter, slice_get, ℤ, pos}
use Rattle.std.proofs.Math.Nat.{mod-lt}
use Rattle.std.proofs.lemmas.List.{length-append}
use Rattle.std.proofs.lemmas.List.Sums.{length-filter, count_by-le-length}
use Rattle.text_model.specs.Lists.{Each, In, with_inserted}
use Rattle.text_model.specs.Text.{is_below}
use Rattle.text_model.proofs.EachLemmas.{Each-push, Each-weaker}
use Rattle.text_model.proofs.Options.{none_some}
use Rattle.hg_model.specs.Changeset.{Extra, Plain}
use Rattle.git_model.proofs.SortLemmas.{in-inserted}
use Rattle.git_model.proofs.RowOrder.{behind_filter, each_inserted}
use Rattle.view_model.specs.View.{Row, ChangesetView}
use Rattle.pair_model.specs.Block.{Parents}
use Rattle.make_model.specs.Numbers.{Numbers, numbers_from, numbers_of, state_before}
use Rattle.make_model.specs.History.{made_parents, made_zone, made_extras, made_row, with_row, changeset_over, made_view, made_history}
use Rattle.make_history.proofs.BehindLemmas.{first-each, second-each, push-at}
use Rattle.make_history.proofs.PathLemmas.{IsGoodPath, good-path}
use Rattle.make_history.proofs.RowsLemmas.{is_other}

-- ---- a row among others

abbrev below : Row → Row → Bool
below a b = is_below a.path b.path

inserted-length : (new : Row) (rows : List Row) → length (with_inserted below new rows) ≡ suc (length rows)
inserted-length new [] = refl
inserted-length new (row ∷ rows) = by (below row new) refl (inserted-length new rows)
  where
    by : (t : Bool) → below row new ≡ t → length (with_inserted below new rows) ≡ suc (length rows) → length (with_inserted below new (row ∷ rows)) ≡ suc (suc (length rows))
    by true e go = rw e (ap suc go)
    by false e go = rw e refl

with-length : (new : Row) (old : List Row) → length (with_row new old) ≡ suc (length (filter (is_other new) old))
unfolding with_row
with-length new old = inserted-length new (filter (is_other new) old)

pub with-few : (new : Row) (old : List Row) → length (with_row new old) ≤ suc (length old)
with-few new old = omega (arith, with-length new old, length-filter (is_other new) old, count_by-le-length (is_other new) old)

-- what holds of the new row and of the old ones
pub each-with : (P : Row → Type 0) (new : Row) (old : List Row) → P new → Each P old → Each P (with_row new old)
unfolding with_row
each-with P new old h each = each_inserted P below new (filter (is_other new) old) h (behind_filter P (is_other new) old each)

-- the new row is one of them
pub new-in : (new : Row) (old : List Row) → In new (with_row new old)
unfolding with_row
new-in new old = in-inserted below new new (filter (is_other new) old) (inl refl)

-- ---- small changesets

-- the numbers of a file, in their range
pub numbers-below : (state : ℕ) → ((numbers_from state).directory < 4) × ((numbers_from state).file < 8)
unfolding numbers_from
numbers-below state = (mod-lt _ (omega arith), mod-lt _ (omega arith))

pub record IsSmall (n : ℕ) (v : ChangesetView) : Type 0 where
  pub paths : Each (λ row. IsGoodPath row.path) v.rows
  pub few : length v.rows ≤ n

module _ (n number : ℕ) (before : List ChangesetView) (each : Each (IsSmall n) before) where
  pub small-first : IsSmall n (made_parents number before).first
  unfolding made_parents
  small-first = first-each (IsSmall n) number before each (record { paths = tt; few = omega arith })

  pub small-second : IsSmall n (made_parents number before).second
  unfolding made_parents
  small-second = second-each (IsSmall n) number before each (record { paths = tt; few = omega arith })

over-small : (n : ℕ) (ps : Parents) (rows : List Row) (x : Numbers) (m : ℕ) → Each (λ (row : Row). IsGoodPath row.path) rows → length rows ≤ n → IsSmall n (changeset_over ps rows x m)
unfolding changeset_over
over-small n ps rows x m paths few = record { paths = paths; few = few }

next-small : (seed n : ℕ) (before : List ChangesetView) → Each (IsSmall n) before → IsSmall (suc n) (made_view (numbers_of seed n) before)
next-small seed n before each =
    let x = numbers_of seed n in
    let ps = made_parents x.parents before in
    let new = made_row ps x (length before) in
    let old = small-first n x.parents before each in
    let b = numbers-below (state_before seed n) in
    over-small (suc n) ps (with_row new (ps.first).rows) x (length before)
    (each-with (λ (row : Row). IsGoodPath row.path) new (ps.first).rows (good-path x.directory x.file b.0 b.1) old.paths)
    (omega (arith, with-few new (ps.first).rows, old.few))

pub made-small : (seed n : ℕ) → Each (IsSmall n) (made_history seed n)
unfolding made_history
made-small seed zero = tt
made-small seed (suc n) =
    let small = made-small seed n in
    Each-push (IsSmall (suc n)) (made_history seed n) (made_view (numbers_of seed n) (made_history seed n))
    (Each-weaker (IsSmall n) (IsSmall (suc n)) (λ v s. record { paths = s.paths; few = omega (arith, s.few) }) (made_history seed n) small)
    (next-small seed n (made_history seed n) small)

-- ---- places

pub history-length : (seed n : ℕ) → length (made_history seed n) ≡ n
unfolding made_history
history-length seed zero = refl
history-length seed (suc n) =
    omega (arith, length-append (made_history seed n) (made_view (numbers_of seed n) (made_history seed n) ∷ []), history-length seed n)

-- the changeset has the time of this place
abbrev pub IsNumbered : ℕ → ChangesetView → Type 0
IsNumbered i v = (tz : ℤ) × (extras : List Extra) × ((v.fields).date ≡ Plain (pos (1000 * i)) tz extras)

over-numbered : (ps : Parents) (rows : List Row) (x : Numbers) (n : ℕ) → IsNumbered n (changeset_over ps rows x n)
unfolding changeset_over
over-numbered ps rows x n = (made_zone x.zone, made_extras x.branch, refl)

pub made-numbered : (seed n i : ℕ) (v : ChangesetView) → slice_get (made_history seed n) i ≡ Some v → IsNumbered i v
unfolding made_history
made-numbered seed zero i v at = absurd (none_some at)
made-numbered seed (suc n) i v at = by (made-numbered seed n i v) (push-at before last i v at)
  where
    before : List ChangesetView
    before = made_history seed n

    last : ChangesetView
    last = made_view (numbers_of seed n) before

    ps : Parents
    ps = made_parents (numbers_of seed n).parents before

    by : (slice_get before i ≡ Some v → IsNumbered i v) → (slice_get before i ≡ Some v) ⊎ ((i ≡ length before) × (v ≡ last)) → IsNumbered i v
    by older (inl e) = older e
    by older (inr e) =
        subst (IsNumbered i) (sym e.1)
        (subst (λ (m : ℕ). IsNumbered m last) (sym e.0) (over-numbered ps (with_row (made_row ps (numbers_of seed n) (length before)) (ps.first).rows) (numbers_of seed n) (length before)))
