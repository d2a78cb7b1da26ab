-- The walk through a tree passes where each object is there and its numbers are within the limits.
use Rattle.std.proofs.Common.{◌≡◌, ◌≤◌, ◌+◌, ℕ, Bool, true, false, ◌&&◌, List, [], ◌∷◌, filter, sum_by, Option, Some, None, refl, sym, subst, ◌∙◌, arith}
use Rattle.std.specs.Prelude.{if◌then◌else◌, nat_lt}
use Rattle.std.specs.List.{list_all}
use Rattle.std.proofs.lemmas.Bool.Decides.{nat_tests}
use Rattle.std.proofs.lemmas.List.Sums.{sum_by-cons}
use Rattle.text_model.specs.Id.{Id}
use Rattle.text_model.specs.Path.{is_fit_path}
use Rattle.text_model.proofs.TestLemmas.{both}
use Rattle.text_model.proofs.Options.{some_none}
use Rattle.git_model.specs.Tree.{TreeEntry}
use Rattle.git_model.specs.Object.{Object, tree_at, AreObjects}
use Rattle.git_model.specs.Unfold.{FileRow, row_size, rows_limit, is_row, is_object_there, visit_fault, first_visit_fault, walk, walk_fault}
use Rattle.tree_shape.proofs.WalkLemmas.{next, fault-cons, step-none, no-root, walk-fault}
use Rattle.tree_shape.proofs.VisitLemmas.{fault_by, is_over, row-none, dir-none, within}
use Rattle.tree_sum.specs.Sums.{sum_of, Fits, Passes}
use Rattle.tree_sum.proofs.Adding.{sum-counted}
use Rattle.tree_sum.proofs.Paths.{AreFit, AreMade, visits-made, short-fit, fit-long, fit-deep}

-- ---- one visit

record Taken (known : List Object) (size : ℕ) (v : FileRow) : Type 0 where
  fit : is_fit_path v.path ≡ true
  there : is_object_there known v ≡ true
  room : is_row known v ≡ true → size + row_size v ≤ rows_limit

tests : (fit held row over : Bool) → fault_by fit held row over ≡ None → (fit ≡ true) × (held ≡ true) × (row ≡ true → over ≡ false)
tests true true true true h = absurd cc
tests true true true false h = (refl, refl, λ _. refl)
tests true true false over h = (refl, refl, λ r. absurd cc)
tests true false row over h = absurd cc
tests false held row over h = absurd cc

not-over : (n : ℕ) → n ≤ rows_limit → nat_lt rows_limit n ≡ false
not-over n h = grind (arith, h, nat_tests)

taken : (known : List Object) (size : ℕ) (v : FileRow) → visit_fault known size v ≡ None → Taken known size v
taken known size v h =
    let t = tests (is_fit_path v.path) (is_object_there known v) (is_row known v) (is_over size v) h in
    record { fit = t.0; there = t.1; room = λ r. within size (row_size v) (size + row_size v) (t.2 r) refl }

-- ---- visits in a row

-- the sizes of the rows among visits
abbrev sizes : List Object → List FileRow → ℕ
sizes known vs = sum_by row_size (filter (is_row known) vs)

sizes-next : (known : List Object) (size : ℕ) (v : FileRow) (vs : List FileRow) → size + sizes known (v ∷ vs) ≡ next known size v + sizes known vs
sizes-next known size v vs = by (is_row known v)
  where
    by : (t : Bool) → size + sum_by row_size (if t then v ∷ filter (is_row known) vs else filter (is_row known) vs) ≡ (if t then size + row_size v else size) + sizes known vs
    by true = omega (arith, sum_by-cons row_size v (filter (is_row known) vs))
    by false = refl

record AllTaken (known : List Object) (size : ℕ) (vs : List FileRow) : Type 0 where
  fit : AreFit vs
  there : list_all (is_object_there known) vs ≡ true
  room : size + sizes known vs ≤ rows_limit

next-within : (known : List Object) (size : ℕ) (v : FileRow) → size ≤ rows_limit → Taken known size v → next known size v ≤ rows_limit
next-within known size v low t = by (is_row known v) refl
  where
    by : (b : Bool) → is_row known v ≡ b → (if b then size + row_size v else size) ≤ rows_limit
    by true row = t.room row
    by false other = low

all-taken : (known : List Object) (size : ℕ) (vs : List FileRow) → size ≤ rows_limit → first_visit_fault known size vs ≡ None → AllTaken known size vs
all-taken known size [] low h = record { fit = tt; there = refl; room = omega arith }
all-taken known size (v ∷ vs) low h =
    let parts = step-none (visit_fault known size v) v.id (first_visit_fault known (next known size v) vs) (sym (fault-cons known size v vs) ∙ h) in
    let one = taken known size v parts.0 in
    let rest = all-taken known (next known size v) vs (next-within known size v low one) parts.1 in
    record {
      fit = (one.fit, rest.fit);
      there = (λ k. one.there k && rest.there k);
      room = subst (λ (n : ℕ). n ≤ rows_limit) (sym (sizes-next known size v vs)) rest.room;
    }

visit-none : (known : List Object) (size : ℕ) (v : FileRow) → is_fit_path v.path ≡ true → is_object_there known v ≡ true → next known size v ≤ rows_limit → visit_fault known size v ≡ None
visit-none known size v fit there room = by (is_row known v) refl room
  where
    by : (b : Bool) → is_row known v ≡ b → (if b then size + row_size v else size) ≤ rows_limit → visit_fault known size v ≡ None
    by true row low = row-none known size v fit there (not-over (size + row_size v) low)
    by false other low = dir-none known size v fit there other

nothing-refused : (known : List Object) (size : ℕ) (vs : List FileRow) → AllTaken known size vs → first_visit_fault known size vs ≡ None
unfolding first_visit_fault
nothing-refused known size [] a = refl
nothing-refused known size (v ∷ vs) a =
    let there = both (is_object_there known v) (list_all (is_object_there known) vs) a.there in
    let room : next known size v + sizes known vs ≤ rows_limit = subst (λ (n : ℕ). n ≤ rows_limit) (sizes-next known size v vs) a.room in
    let one : visit_fault known size v ≡ None = visit-none known size v a.fit.0 there.0 (omega (arith, room)) in
    fault-cons known size v vs ∙ rw one (nothing-refused known (next known size v) vs (record { fit = a.fit.1; there = there.1; room = room }))

-- ---- by their numbers

fits-taken : (known : List Object) (vs : List FileRow) → AreMade vs → Fits known 256 vs → AllTaken known 0 vs
unfolding sum_of
fits-taken known vs made f = record { fit = short-fit vs made f.within.longest f.within.deepest; there = f.there; room = omega (arith, f.within.size) }

taken-fits : (known : List Object) (vs : List FileRow) → AllTaken known 0 vs → Fits known 256 vs
unfolding sum_of
taken-fits known vs a = record {
  there = a.there;
  within = record { counted = sum-counted known vs; size = omega (arith, a.room); longest = fit-long vs a.fit; deepest = fit-deep vs a.fit };
}

module _ (known : List Object) (are : AreObjects known) (id : Id) where
  pub passes-walk : Passes known 256 id → walk_fault known id ≡ None
  passes-walk p = walk-fault known id p.0 p.1 ∙ nothing-refused known 0 (walk known id) (fits-taken known (walk known id) (visits-made known are 257 id) p.2)

  pub walk-passes : walk_fault known id ≡ None → Passes known 256 id
  walk-passes h = by (tree_at known id) refl
    where
      by : (o : Option (List TreeEntry)) → tree_at known id ≡ o → Passes known 256 id
      by None at = absurd (some_none (sym (no-root known id at) ∙ h))
      by (Some entries) at = (entries, at, taken-fits known (walk known id) (all-taken known 0 (walk known id) (omega arith) (sym (walk-fault known id entries at) ∙ h)))
