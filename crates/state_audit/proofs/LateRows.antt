-- The files of a changeset, row by row: whether parents of their revisions come too late.
use Rattle.std.proofs.Common.{◌≡◌, ◌<◌, ◌≤◌, ◌+◌, ◌||◌, ℕ, zero, suc, true, false, Bool, List, [], ◌∷◌, length, map, get_or, take, arith, Some, refl, sym, ap, ◌∙◌}
use Rattle.std.specs.Prelude.{slice_get}
use Rattle.std.specs.List.{list_any}
use Rattle.std.proofs.lemmas.List.{length-map}
use Rattle.std.proofs.lemmas.List.Folds.{list_any-append}
use Rattle.std.proofs.lemmas.Option.{slice_get-get_or}
use Rattle.text_model.specs.Lists.{Each}
use Rattle.text_model.proofs.Elements.{each_at, get_unmap, take_push, take_whole}
use Rattle.text_model.proofs.Options.{none_some, some_is, or_neither}
use Rattle.text_model.proofs.TestLemmas.{or_true}
use Rattle.hg_model.specs.Revision.{Revision}
use Rattle.view_model.specs.View.{Row}
use Rattle.view_model.specs.Held.{IsFileHeld}
use Rattle.pair_model.specs.Block.{Block}
use Rattle.partner_model.specs.Given.{has_late_file}
use Rattle.pair_known.specs.Rows.{RowValue, row_value}
use Rattle.pull_bundle.specs.Late.{is_late_row}

module _ (known : List Revision) (blocks : List Block) (files : List Row) (rows : List RowValue) (are : rows ≡ map row_value files) (held : Each (IsFileHeld known) files) where
  -- the row at a place, and its file
  pub record Turn (i : ℕ) (v : RowValue) : Type 0 where
    pub file : Row
    pub at_place : slice_get files i ≡ Some file
    pub is : v ≡ row_value file
    pub is_held : IsFileHeld known file

  pub turn : (i : ℕ) (v : RowValue) → i < length rows → v ≡ get_or rows i v → Turn i v
  turn i v below is =
      let at : slice_get (map row_value files) i ≡ Some v = ap (λ (l : List RowValue). slice_get l i) (sym are) ∙ slice_get-get_or rows i v below ∙ ap Some (sym is) in
      let f = get_unmap row_value files i v at in
      record { file = f.0; at_place = f.1; is = sym f.2; is_held = each_at (IsFileHeld known) files i f.0 f.1 held }

  pub late-here : (i : ℕ) (v : RowValue) (t : Turn i v) → is_late_row blocks t.file ≡ true → has_late_file blocks files ≡ true
  late-here i v t late = at-any files i t.at_place
    where
      at-any : (xs : List Row) (i : ℕ) → slice_get xs i ≡ Some t.file → has_late_file blocks xs ≡ true
      at-any [] i at = absurd (none_some at)
      at-any (x ∷ xs) zero at = ap (λ (row : Row). is_late_row blocks row || has_late_file blocks xs) (some_is at) ∙ ap (λ (b : Bool). b || has_late_file blocks xs) late
      at-any (x ∷ xs) (suc i) at = ap (λ (b : Bool). is_late_row blocks x || b) (at-any xs i at) ∙ or_true (is_late_row blocks x)

  pub late-more : (i : ℕ) (v : RowValue) (t : Turn i v) → is_late_row blocks t.file ≡ false → list_any (is_late_row blocks) (take i files) ≡ false → list_any (is_late_row blocks) (take (i + 1) files) ≡ false
  late-more i v t none before =
      ap (list_any (is_late_row blocks)) (take_push files i t.file t.at_place) ∙ list_any-append (is_late_row blocks) (take i files) (t.file ∷ [])
      ∙ or_neither (list_any (is_late_row blocks) (take i files)) (is_late_row blocks t.file || false) before (or_neither (is_late_row blocks t.file) false none refl)

  pub none-late : (i : ℕ) → length rows ≤ i → list_any (is_late_row blocks) (take i files) ≡ false → has_late_file blocks files ≡ false
  none-late i end none =
      let n : length files ≤ i = omega (arith, end, ap length are, length-map files row_value) in
      ap (list_any (is_late_row blocks)) (sym (take_whole files i n)) ∙ none
