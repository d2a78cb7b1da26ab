-- A commit that is held by objects within their limits, and whose tree can be walked through, is within its limits.
use Rattle.std.proofs.Common.{◌≡◌, ◌≤◌, ◌+◌, ℕ, Bool, true, false, not, ◌&&◌, List, [], ◌∷◌, length, map, Option, Some, None, refl, sym, ap, subst, ◌∙◌, arith, if◌then◌else◌}
use Rattle.std.specs.Prelude.{nat_lt, sum_by, filter}
use Rattle.std.proofs.lemmas.Bool.Decides.{nat_tests}
use Rattle.std.proofs.lemmas.List.Sums.{sum_by-cons}
use Rattle.text_model.specs.Lists.{Each}
use Rattle.text_model.specs.Text.{Bytes}
use Rattle.text_model.specs.Id.{Id, ObjectKind, blob, tree, commit, tag}
use Rattle.text_model.specs.Path.{is_fit_path}
use Rattle.text_model.specs.Fault.{FaultName}
use Rattle.text_model.specs.Fault as fault
use Rattle.text_model.proofs.EachLemmas.{Each-append}
use Rattle.text_model.proofs.Options.{some_none}
use Rattle.git_model.specs.Commit.{commit_text}
use Rattle.git_model.specs.Object.{Object, AreObjects, has_id, object_at, object_of}
use Rattle.git_model.specs.Shape.{shape_objects, shape_depth, trees_of}
use Rattle.git_model.specs.Stream.{IsFit, size_limit}
use Rattle.git_model.specs.Tree.{is_blob_mode}
use Rattle.git_model.specs.Unfold.{FileRow, WalkFault, is_row, is_object_there, row_size, rows_limit, visit_fault, first_visit_fault, walk, walk_fault, met_rows, is_path_below}
use Rattle.tree_shape.proofs.TreesWithin.{trees-within}
use Rattle.tree_shape.proofs.Walking.{sum-order}
use Rattle.git_view.proofs.Rows.{rows-are}
use Rattle.git_view.proofs.Walks.{none-refused}
use Rattle.view_model.specs.View.{TreeRow, CommitView, IsCommitView, CommitFits, commit_objects, leaf_of_row, rows_size, text_limit, commit_limit}
use Rattle.view_model.specs.Held.{file_row_of, IsRowHeld, IsCommitHeld}
use Rattle.commit_rule.specs.Parts.{AreShort}
use Rattle.commit_rule.proofs.Handed.{file-rows}
use Rattle.commit_rule.proofs.TreeObjects.{objects-short}
use Rattle.pull_law.proofs.Searches.{found}

-- ---- the rows

same-size : (rows : List TreeRow) → sum_by row_size (map file_row_of rows) ≡ sum_by (λ row. length row.path + 42) rows
same-size [] = refl
same-size (row ∷ rows) =
    sum_by-cons row_size (file_row_of row) (map file_row_of rows)
    ∙ ap (λ (n : ℕ). (length row.path + 42) + n) (same-size rows)
    ∙ sym (sum_by-cons (λ (t : TreeRow). length t.path + 42) row rows)

third : (a b c : Bool) (x y z : FaultName) → (if a then Some x else if b then Some y else if c then Some z else None) ≡ None → c ≡ false
third true b c x y z h = absurd (some_none h)
third false true c x y z h = absurd (some_none h)
third false false true x y z h = absurd (some_none h)
third false false false x y z h = refl

-- a row that is met has room
room : (known : List Object) (size : ℕ) (v : FileRow) → visit_fault known size v ≡ None → is_row known v ≡ true → size + row_size v ≤ rows_limit
room known size v h is =
    let test = third (not (is_fit_path v.path)) (not (is_object_there known v)) (is_row known v && nat_lt rows_limit (size + row_size v)) fault.PathUnfit fault.ObjectUnknown fault.PairLimit h in
    let over : nat_lt rows_limit (size + row_size v) ≡ false = sym (ap (λ (t : Bool). t && nat_lt rows_limit (size + row_size v)) is) ∙ test in
    grind (arith, over, nat_tests)

within : (known : List Object) (size : ℕ) (vs : List FileRow) → size ≤ rows_limit → first_visit_fault known size vs ≡ None → size + sum_by row_size (filter (is_row known) vs) ≤ rows_limit
unfolding first_visit_fault
within known size [] small h = omega (arith, small)
within known size (v ∷ vs) small h = by (visit_fault known size v) refl h (is_row known v) refl (λ n fits none. within known n vs fits none)
  where
    by : (o : Option FaultName) → visit_fault known size v ≡ o
        → elim o as (λ _. Option WalkFault) [ Some name ↦ Some (record { name = name; id = v.id }) | None ↦ first_visit_fault known (if is_row known v then size + row_size v else size) vs ] ≡ None
        → (t : Bool) → is_row known v ≡ t → ((n : ℕ) → n ≤ rows_limit → first_visit_fault known n vs ≡ None → n + sum_by row_size (filter (is_row known) vs) ≤ rows_limit)
        → size + sum_by row_size (filter (is_row known) (v ∷ vs)) ≤ rows_limit
    by (Some name) e k t r more = absurd (some_none k)
    by None e k true r more =
        let none : first_visit_fault known (size + row_size v) vs ≡ None = rw r at k in
        let rest = more (size + row_size v) (room known size v e r) none in
        rw r (omega (arith, rest, sum_by-cons row_size v (filter (is_row known) vs)))
    by None e k false r more =
        let none : first_visit_fault known size vs ≡ None = rw r at k in
        rw r (more size small none)

-- ---- its parts

-- a commit is within its limits where its text, its rows and its contents are
fits-from : (c : CommitView) → IsCommitView c → length (commit_text c.value) ≤ commit_limit → rows_size c ≤ rows_limit → Each (λ row. length row.content ≤ text_limit) c.rows → CommitFits c
unfolding commit_objects
fits-from c view text rows contents =
    let trees : AreShort (trees_of (map file_row_of c.rows)) = trees-within (map file_row_of c.rows) (file-rows c.rows view.rows) (subst (λ (n : ℕ). n ≤ rows_limit) (sym (same-size c.rows)) rows) in
    record {
      text = text;
      objects = Each-append (λ (o : Object). length o.content ≤ text_limit) (shape_objects shape_depth (map leaf_of_row c.rows)) (object_of commit (commit_text c.value) ∷ [])
          (objects-short c.rows trees contents) (omega (arith, text), tt);
      rows = rows;
    }

any-size : (kind : ObjectKind) (n : ℕ) → n ≤ size_limit kind → n ≤ text_limit
any-size commit n h = omega (arith, h)
any-size blob n h = h
any-size tree n h = h
any-size tag n h = h

module _ (known : List Object) (fit : Each IsFit known) where
  fit-at : (id : Id) (o : Object) → object_at known id ≡ Some o → length o.content ≤ size_limit o.kind
  fit-at id o at = (found IsFit (has_id id) known o fit at).0.1

  row-short : (row : TreeRow) → IsRowHeld known row → length row.content ≤ text_limit
  row-short row held = by (is_blob_mode row.mode) refl
    where
      by : (t : Bool) → is_blob_mode row.mode ≡ t → length row.content ≤ text_limit
      by true e = let o = held.blob e in subst (λ (bytes : Bytes). length bytes ≤ text_limit) o.2 (any-size (o.0).kind (length (o.0).content) (fit-at row.id o.0 o.1))
      by false e = subst (λ (bytes : Bytes). length bytes ≤ text_limit) (sym (held.none e)) (omega arith)

  rows-short : (rows : List TreeRow) → Each (IsRowHeld known) rows → Each (λ row. length row.content ≤ text_limit) rows
  rows-short [] held = tt
  rows-short (row ∷ rows) held = (row-short row held.0, rows-short rows held.1)

  pub held-commit_fits : AreObjects known → (id : Id) (c : CommitView) → IsCommitView c → IsCommitHeld known id c → walk_fault known (c.value).tree_id ≡ None → CommitFits c
  held-commit_fits are id c view held walks =
      let root = (c.value).tree_id in
      let text : length (commit_text c.value) ≤ commit_limit =
      subst (λ (bytes : Bytes). length bytes ≤ commit_limit) (held.text).1 (subst (λ (k : ObjectKind). length (held.object).content ≤ size_limit k) held.kind (fit-at id held.object held.is_held)) in
      let met : sum_by row_size (met_rows known root) ≤ rows_limit = omega (arith, within known 0 (walk known root) (omega arith) (none-refused known are root walks)) in
      let size : rows_size c ≡ sum_by row_size (met_rows known root) =
      sym (same-size c.rows) ∙ ap (λ (rows : List FileRow). sum_by row_size rows) (rows-are known id c are held walks) ∙ sum-order is_path_below (met_rows known root) in
      fits-from c view text (subst (λ (n : ℕ). n ≤ rows_limit) (sym size) met) (rows-short c.rows held.blobs)
