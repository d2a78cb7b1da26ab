-- What is known of clashes among files, for rows of any kind that stand as files.
use Rattle.std.proofs.Common.{◌≡◌, ◌<◌, ◌≤◌, ◌+◌, ◌-◌, ℕ, zero, suc, Bool, true, false, List, [], ◌∷◌, ◌++◌, length, take, drop, get_or, map, Some, None, sym, ap, subst, ◌∙◌, refl, arith}
use Rattle.std.specs.Prelude.{slice_get}
use Rattle.std.specs.List.{list_any}
use Rattle.std.proofs.lemmas.List.{length-map, take-map}
use Rattle.text_model.specs.Text.{Bytes}
use Rattle.text_model.specs.Path.{lies_below}
use Rattle.git_model.specs.Unfold.{FileRow}
use Rattle.git_model.specs.Shape.{first_clash, clash_from}
use Rattle.tree_shape.proofs.FileSets.{clash-here, clash-on}
use Rattle.tree_shape.proofs.ClashLemmas.{rise, IsParted, is_before, parted, IsLast, last-of, rises-take, row-behind, none-so-far}

module _ {X : Type 0} (file : X → FileRow) where
  pub files-get : (rows : List X) (i : ℕ) (d : X) → get_or (map file rows) i (file d) ≡ file (get_or rows i d)
  files-get [] i d = refl
  files-get (r ∷ rows) zero d = refl
  files-get (r ∷ rows) (suc i) d = files-get rows i d

  files-at : (rows : List X) (i : ℕ) (d : FileRow) → i < length rows → (r : X) × (get_or rows i r ≡ r) × (get_or (map file rows) i d ≡ file r)
  files-at [] i d lt = absurd (omega (arith, lt))
  files-at (r ∷ rows) zero d lt = (r, refl, refl)
  files-at (r ∷ rows) (suc i) d lt = files-at rows i d (omega (arith, lt))

  files-slice : (rows : List X) (i : ℕ) (r : X) → Some r ≡ slice_get rows i → Some (file r) ≡ slice_get (map file rows) i
  files-slice [] i r h = absurd cc
  files-slice (x ∷ rows) zero r h = let is : r ≡ x = cc in ap (λ (y : X). Some (file y)) is
  files-slice (x ∷ rows) (suc i) r h = files-slice rows i r h

  pub last-file : (rows : List X) (last : X) → Some last ≡ slice_get rows (length rows - 1) → IsLast (map file rows) (file last)
  last-file rows last h =
      last-of (map file rows) (file last) (files-slice rows (length rows - 1) last h ∙ ap (λ (n : ℕ). slice_get (map file rows) (n - 1)) (sym (length-map rows file)))

  pub rows-parted : (rows : List X) (path : Bytes) → rise (map file rows) → (i j : ℕ) (d : X) → i ≤ j → j < length rows → is_before path (file (get_or rows j d)) ≡ true → is_before path (file (get_or rows i d)) ≡ true
  rows-parted rows path up i j d le lt h =
      ap (is_before path) (sym (files-get rows i d))
      ∙ parted (map file rows) path up i j (file d) le (omega (arith, lt, length-map rows file)) (ap (is_before path) (files-get rows j d) ∙ h)

  pub files-parted : (rows : List X) (path : Bytes) (place : ℕ) → place ≤ length rows → ((k : ℕ) (d : X) → k < place → is_before path (file (get_or rows k d)) ≡ true)
      → ((k : ℕ) (d : X) → place ≤ k → k < length rows → is_before path (file (get_or rows k d)) ≡ false) → IsParted (map file rows) path place
  files-parted rows path place most before behind = record {
    before = λ k d lt. let r = files-at rows k d (omega (arith, lt, most)) in ap (is_before path) (r.2 ∙ ap file (sym r.1)) ∙ before k r.0 lt;
    behind = λ k d le lt. let within : k < length rows = omega (arith, lt, length-map rows file) in let r = files-at rows k d within in ap (is_before path) (r.2 ∙ ap file (sym r.1)) ∙ behind k r.0 le within;
  }

  -- ---- a turn over the rows

  -- no file up to this place clashes
  pub record IsClear (rows : List X) (k : ℕ) : Type 0 where
    pub whole : first_clash (map file rows) ≡ clash_from k (take k (map file rows)) (drop k (map file rows))
    pub none : first_clash (take k (map file rows)) ≡ None

  module _ (rows front : List X) (k : ℕ) (row : X) (of : front ≡ take k rows) (lt : k < length rows) (is : row ≡ get_or rows k row) where
    pub before : map file front ≡ take k (map file rows)
    before = ap (map file) of ∙ sym (take-map file k rows)

    within : k < length (map file rows)
    within = omega (arith, lt, length-map rows file)

    at : file row ≡ get_or (map file rows) k (file row)
    at = ap file is ∙ sym (files-get rows k row)

    any-before : (t : Bool) → t ≡ list_any (λ b. lies_below (file row).path b.path) (map file front) → t ≡ list_any (λ b. lies_below (file row).path b.path) (take k (map file rows))
    any-before t h = h ∙ ap (list_any (λ b. lies_below (file row).path b.path)) before

    pub front-rises : rise (map file rows) → rise (map file front ++ file row ∷ [])
    front-rises up = subst rise (sym (ap (λ (l : List FileRow). l ++ file row ∷ []) before ∙ row-behind (map file rows) k (file row) within at)) (rises-take (k + 1) (map file rows) up)

    pub row-clash : IsClear rows k → true ≡ list_any (λ b. lies_below (file row).path b.path) (map file front) → Some k ≡ first_clash (map file rows)
    row-clash clear any = clash-here (map file rows) k (file row) within at clear.whole (any-before true any)

    pub row-clear : IsClear rows k → false ≡ list_any (λ b. lies_below (file row).path b.path) (map file front) → IsClear rows (k + 1)
    row-clear clear any = record {
      whole = clash-on (map file rows) k (file row) within at clear.whole (any-before false any);
      none = none-so-far (map file rows) k (file row) within at clear.none (sym (any-before false any));
    }
