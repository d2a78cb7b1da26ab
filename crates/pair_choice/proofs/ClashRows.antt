-- The rows of a changeset clash as files exactly where their paths do.
use Rattle.std.proofs.Common.{◌≡◌, ℕ, Bool, true, false, List, [], ◌∷◌, map, Some, None, refl, sym, ap, ◌∙◌, inl, inr}
use Rattle.std.specs.Prelude.{Option, is_some}
use Rattle.std.specs.List.{list_any}
use Rattle.text_model.specs.Lists.{In, rises}
use Rattle.text_model.specs.Text.{Bytes, is_below}
use Rattle.text_model.specs.Path.{lies_below}
use Rattle.text_model.proofs.Options.{none_some}
use Rattle.git_model.specs.Unfold.{FileRow}
use Rattle.git_model.specs.Shape.{first_clash}
use Rattle.view_model.specs.View.{has_clash}
use Rattle.pair_known.specs.Rows.{RowValue, as_file}
use Rattle.tree_shape.proofs.ClashLemmas.{rise, none-below}
use Rattle.commit_rule.proofs.FileLemmas.{unclashed, none-any}

abbrev files : List RowValue → List FileRow
files rows = map as_file rows

abbrev row_paths : List RowValue → List Bytes
row_paths rows = map (λ r. r.path) rows

same-paths : (rows : List RowValue) → map (λ r. r.path) (files rows) ≡ row_paths rows
same-paths [] = refl
same-paths (r ∷ rows) = ap (λ (l : List Bytes). r.path ∷ l) (same-paths rows)

pub files-rise : (rows : List RowValue) → rises is_below (row_paths rows) ≡ true → rise (files rows)
files-rise rows h = ap (rises is_below) (same-paths rows) ∙ h

no-any : (test : Bytes → Bool) (paths : List Bytes) → ((path : Bytes) → In path paths → test path ≡ false) → list_any test paths ≡ false
no-any test [] h = refl
no-any test (path ∷ paths) h = rw (h path (inl refl)) (no-any test paths (λ p i. h p (inr i)))

file-of : (rows : List RowValue) (path : Bytes) → In path (row_paths rows) → (row : FileRow) × In row (files rows) × (path ≡ row.path)
file-of [] path i = absurd i
file-of (r ∷ rows) path i = elim i [ inl q ↦ (as_file r, inl refl, q) | inr j ↦ let x = file-of rows path j in (x.0, inr x.1, x.2) ]

path-of : (rows : List RowValue) (row : FileRow) → In row (files rows) → In row.path (row_paths rows)
path-of [] row i = absurd i
path-of (r ∷ rows) row i = elim i [ inl q ↦ inl (ap (λ (x : FileRow). x.path) q) | inr j ↦ inr (path-of rows row j) ]

-- no clash of files is none of their paths
none-clash : (rows : List RowValue) → rises is_below (row_paths rows) ≡ true → first_clash (files rows) ≡ None → has_clash (row_paths rows) ≡ false
none-clash rows up none = no-any (λ path. list_any (lies_below path) (row_paths rows)) (row_paths rows) (λ a i. no-any (lies_below a) (row_paths rows) (λ b j.
    let x = file-of rows a i in
    let y = file-of rows b j in
    (λ k. lies_below (x.2 k) (y.2 k)) ∙ none-below 0 [] (files rows) none (files-rise rows up) y.0 x.0 y.1 x.1))

-- no clash of paths is none of the files
clash-none : (rows : List RowValue) → has_clash (row_paths rows) ≡ false → first_clash (files rows) ≡ None
clash-none rows h = unclashed 0 [] (files rows) (λ t b i j.
    none-any (lies_below t.path) (row_paths rows) (none-any (λ path. list_any (lies_below path) (row_paths rows)) (row_paths rows) h t.path (path-of rows t i)) b.path (path-of rows b j))

pub clash-found : (rows : List RowValue) (place : Option ℕ) → rises is_below (row_paths rows) ≡ true → place ≡ first_clash (files rows) → is_some place ≡ has_clash (row_paths rows)
clash-found rows None up is = sym (none-clash rows up (sym is))
clash-found rows (Some k) up is = by (has_clash (row_paths rows)) refl
  where
    by : (t : Bool) → has_clash (row_paths rows) ≡ t → true ≡ has_clash (row_paths rows)
    by true e = sym e
    by false e = absurd (none_some (sym (clash-none rows e) ∙ sym is))
