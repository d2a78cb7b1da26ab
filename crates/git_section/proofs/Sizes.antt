-- The rows of a tree that can be walked through are within their limit.
use Rattle.std.proofs.Common.{◌≡◌, ◌≤◌, ◌+◌, ℕ, Bool, true, false, List, [], ◌∷◌, map, length, None, refl, sym, ap, ◌∙◌, arith}
use Rattle.std.specs.Prelude.{filter, if◌then◌else◌, nat_lt, sum_by}
use Rattle.std.proofs.lemmas.Bool.Decides.{nat_tests}
use Rattle.std.proofs.lemmas.List.Sums.{sum_by-cons}
use Rattle.text_model.specs.Id.{Id}
use Rattle.text_model.specs.Path.{is_fit_path}
use Rattle.git_model.specs.Object.{Object, AreObjects}
use Rattle.git_model.specs.Unfold.{FileRow, is_object_there, is_row, is_path_below, row_size, rows_limit, visit_fault, first_visit_fault, walk, walk_fault, met_rows}
use Rattle.tree_shape.proofs.VisitLemmas.{fault_by, is_over}
use Rattle.tree_shape.proofs.Walking.{sum-order}
use Rattle.tree_shape.proofs.WalkLemmas.{next, step-none, fault-cons}
use Rattle.view_model.specs.View.{CommitView, TreeRow, rows_size}
use Rattle.view_model.specs.Held.{file_row_of, IsCommitHeld}
use Rattle.git_view.proofs.Rows.{rows-are}
use Rattle.git_view.proofs.Walks.{none-refused}

not_over : (fit there row over : Bool) → fault_by fit there row over ≡ None → row ≡ true → over ≡ false
not_over true true true true h r = absurd cc
not_over true true true false h r = refl
not_over true true false over h r = absurd cc
not_over true false row over h r = absurd cc
not_over false there row over h r = absurd cc

-- a row that isn't refused is within the limit
has_room : (known : List Object) (size : ℕ) (v : FileRow) → visit_fault known size v ≡ None → is_row known v ≡ true → size + row_size v ≤ rows_limit
has_room known size v h row = by (not_over (is_fit_path v.path) (is_object_there known v) (is_row known v) (is_over size v) h row)
  where
    by : nat_lt rows_limit (size + row_size v) ≡ false → size + row_size v ≤ rows_limit
    by e = grind (arith, e, nat_tests)

within : (known : List Object) (size : ℕ) (vs : List FileRow) → size ≤ rows_limit → first_visit_fault known size vs ≡ None → size + sum_by row_size (filter (is_row known) vs) ≤ rows_limit
within known size [] le h = omega (arith, le)
within known size (v ∷ vs) le h = by (is_row known v) refl (step-none (visit_fault known size v) v.id (first_visit_fault known (next known size v) vs) (sym (fault-cons known size v vs) ∙ h)) (λ n le k. within known n vs le k)
  where
    by : (t : Bool) → is_row known v ≡ t → (visit_fault known size v ≡ None) × (first_visit_fault known (next known size v) vs ≡ None)
        → ((n : ℕ) → n ≤ rows_limit → first_visit_fault known n vs ≡ None → n + sum_by row_size (filter (is_row known) vs) ≤ rows_limit)
        → size + sum_by row_size (if t then v ∷ filter (is_row known) vs else filter (is_row known) vs) ≤ rows_limit
    by true t parts rest =
        let after : next known size v ≡ size + row_size v = ap (λ (b : Bool). if b then size + row_size v else size) t in
        let sum : (size + row_size v) + sum_by row_size (filter (is_row known) vs) ≤ rows_limit =
        rest (size + row_size v) (has_room known size v parts.0 t) (ap (λ (n : ℕ). first_visit_fault known n vs) (sym after) ∙ parts.1) in
        omega (arith, sum, sum_by-cons row_size v (filter (is_row known) vs))
    by false t parts rest =
        let after : next known size v ≡ size = ap (λ (b : Bool). if b then size + row_size v else size) t in
        rest size le (ap (λ (n : ℕ). first_visit_fault known n vs) (sym after) ∙ parts.1)

same_size : (rows : List TreeRow) → sum_by row_size (map file_row_of rows) ≡ sum_by (λ (row : TreeRow). length row.path + 42) rows
same_size [] = refl
same_size (row ∷ rows) =
    sum_by-cons row_size (file_row_of row) (map file_row_of rows) ∙ ap (λ (n : ℕ). row_size (file_row_of row) + n) (same_size rows)
    ∙ sym (sum_by-cons (λ (row : TreeRow). length row.path + 42) row rows)

pub rows_within : (known : List Object) (id : Id) (c : CommitView) → AreObjects known → IsCommitHeld known id c → walk_fault known (c.value).tree_id ≡ None → rows_size c ≤ rows_limit
rows_within known id c are held h =
    let root : Id = (c.value).tree_id in
    let met : 0 + sum_by row_size (met_rows known root) ≤ rows_limit = within known 0 (walk known root) (omega arith) (none-refused known are root h) in
    let sum : sum_by row_size (met_rows known root) ≡ rows_size c =
    sym (sum-order is_path_below (met_rows known root)) ∙ ap (sum_by row_size) (sym (rows-are known id c are held h)) ∙ same_size c.rows in
    omega (arith, met, sum)
