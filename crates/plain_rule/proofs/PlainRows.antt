-- The rows of a commit's changeset are its files; and the rows that the rule makes of them are those of the commit where what is handed on to
-- them is their residue.
use Rattle.std.proofs.Common.{◌≡◌, List, [], ◌∷◌, map, refl, sym, ap, subst, ◌∙◌}
use Rattle.std.specs.Prelude.{IsTrue}
use Rattle.text_model.specs.Lists.{Each, rises}
use Rattle.text_model.specs.Text.{Bytes, is_below}
use Rattle.text_model.proofs.EachLemmas.{Each-weaker}
use Rattle.git_model.specs.Unfold.{FileRow}
use Rattle.git_model.specs.Residue.{ResidueItem, residue_of, carried, fits, plain_files, rows_with}
use Rattle.git_model.proofs.SortLemmas.{Ascends, rises-ascends}
use Rattle.git_model.proofs.ResidueLemmas.{path_of, path_of_item, IsKeptRow, residue-splits, residue-with, up_filter, carried_fits}
use Rattle.tree_shape.specs.Sets.{IsFileRow}
use Rattle.tree_residue.proofs.PlainFiles.{plain-rows, plain-up}
use Rattle.view_model.specs.View.{TreeRow, SameTreeRows, tree_paths}
use Rattle.view_model.specs.Held.{file_row_of}
use Rattle.pair_model.proofs.RuledFiles.{IsRow}
use Rattle.commit_rule.proofs.FileLemmas.{paths-same}
use Rattle.commit_rule.proofs.Handed.{file-rows}

-- ---- rows that are the same

pub files-same : (xs ys : List TreeRow) → SameTreeRows xs ys → map file_row_of xs ≡ map file_row_of ys
files-same [] [] h = refl
files-same [] (y ∷ ys) h = absurd h
files-same (x ∷ xs) [] h = absurd h
files-same (x ∷ xs) (y ∷ ys) h = λ i. record { path = h.0 i; mode = h.1 i; id = h.2 i } ∷ files-same xs ys h.3 i

pub same-by-files : (xs ys : List TreeRow) → map file_row_of xs ≡ map file_row_of ys → SameTreeRows xs ys
same-by-files [] [] h = tt
same-by-files [] (y ∷ ys) h = absurd (none h)
  where
    none : {r : FileRow} {rs : List FileRow} → [] ≡ r ∷ rs → ⊥
    none e = cc
same-by-files (x ∷ xs) [] h = absurd (none h)
  where
    none : {r : FileRow} {rs : List FileRow} → r ∷ rs ≡ [] → ⊥
    none e = cc
same-by-files (x ∷ xs) (y ∷ ys) h =
    let first = head h in
    (ap (λ (r : FileRow). r.path) first, ap (λ (r : FileRow). r.mode) first, ap (λ (r : FileRow). r.id) first, same-by-files xs ys (tail h))
  where
    head : {a b : FileRow} {us vs : List FileRow} → a ∷ us ≡ b ∷ vs → a ≡ b
    head e = cc

    tail : {a b : FileRow} {us vs : List FileRow} → a ∷ us ≡ b ∷ vs → us ≡ vs
    tail e = cc

-- ---- the rows with what is handed on

module _ (old : List ResidueItem) (up-old : Ascends path_of_item old) (rows : List TreeRow) (each : Each IsRow rows)
    (in-order : IsTrue (rises is_below (tree_paths rows))) where
  up : Ascends path_of (map file_row_of rows)
  up = rises-ascends path_of (map file_row_of rows) (subst (λ (paths : List Bytes). IsTrue (rises is_below paths)) (sym (paths-same rows)) in-order)

  -- with their residue the files are the rows
  pub rows-by-residue : residue_of (map file_row_of rows) ≡ carried old (plain_files (map file_row_of rows))
      → rows_with (carried old (plain_files (map file_row_of rows))) (plain_files (map file_row_of rows)) ≡ map file_row_of rows
  rows-by-residue same =
      ap (λ (items : List ResidueItem). rows_with items (plain_files (map file_row_of rows))) (sym same)
      ∙ residue-splits (map file_row_of rows) up (Each-weaker IsFileRow IsKeptRow (λ row is. is.empty) (map file_row_of rows) (file-rows rows each))

  -- where with what is handed on the files are the rows, that is their residue
  pub residue-by-rows : rows_with (carried old (plain_files (map file_row_of rows))) (plain_files (map file_row_of rows)) ≡ map file_row_of rows
      → residue_of (map file_row_of rows) ≡ carried old (plain_files (map file_row_of rows))
  residue-by-rows same =
      ap residue_of (sym same)
      ∙ residue-with (carried old (plain_files (map file_row_of rows))) (plain_files (map file_row_of rows))
      (plain-up (map file_row_of rows) up) (plain-rows (map file_row_of rows))
      (up_filter (fits (plain_files (map file_row_of rows))) old up-old) (carried_fits old (plain_files (map file_row_of rows)))
