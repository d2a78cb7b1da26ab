-- Rows of files, one after the other.
use Rattle.std.proofs.Common.{◌≡◌, ◌-◌, ◌&&◌, ℕ, zero, suc, Bool, true, List, [], ◌∷◌, ◌++◌, length, take, None, Some, refl, sym, ap, ◌∙◌, arith}
use Rattle.std.specs.Prelude.{slice_get}
use Rattle.text_model.specs.Lists.{Each, rises}
use Rattle.text_model.specs.Text.{is_below}
use Rattle.text_model.proofs.EachLemmas.{Each-push, Each-rest}
use Rattle.text_model.proofs.TestLemmas.{both}
use Rattle.git_model.specs.Unfold.{FileRow}
use Rattle.tree_shape.specs.Sets.{IsFileRow, IsFiles, stands_above}
use Rattle.tree_shape.proofs.ClashLemmas.{paths, rise, rises-take}

above-more : (a b : FileRow) (before : List FileRow) (row : FileRow) → stands_above (a ∷ b ∷ before) row ≡ stands_above (b ∷ before) row
above-more a b before row =
    let less : length (a ∷ b ∷ before) - 1 ≡ suc (length (b ∷ before) - 1) = omega arith in
    ap (λ (n : ℕ). elim (slice_get (a ∷ b ∷ before) n) as (λ _. Bool) [ None ↦ true | Some last ↦ is_below last.path row.path ]) less

-- rows with one more rise exactly where it stands above the last
rises-push : (before : List FileRow) (row : FileRow) → rise before → stands_above before row ≡ true → rise (before ++ row ∷ [])
rises-push [] row h s = refl
rises-push (a ∷ []) row h s = ap (λ (b : Bool). b && true) s
rises-push (a ∷ b ∷ before) row h s =
    let parts = both (is_below a.path b.path) (rises is_below (paths (b ∷ before))) h in
    ap (λ (t : Bool). t && rises is_below (paths (b ∷ (before ++ row ∷ [])))) parts.0 ∙ rises-push (b ∷ before) row parts.1 (sym (above-more a b before row) ∙ s)

above-last : (before : List FileRow) (row : FileRow) → rise (before ++ row ∷ []) → stands_above before row ≡ true
above-last [] row h = refl
above-last (a ∷ []) row h = (both (is_below a.path row.path) true h).0
above-last (a ∷ b ∷ before) row h = above-more a b before row ∙ above-last (b ∷ before) row (both (is_below a.path b.path) (rises is_below (paths (b ∷ (before ++ row ∷ [])))) h).1

pub files-push : (before : List FileRow) (row : FileRow) → IsFiles before → IsFileRow row → stands_above before row ≡ true → IsFiles (before ++ row ∷ [])
files-push before row f is above = record { each = Each-push IsFileRow before row f.each is; in_order = rises-push before row f.in_order above }

pub files-last : (before : List FileRow) (row : FileRow) → IsFiles (before ++ row ∷ []) → IsFileRow row × (stands_above before row ≡ true)
files-last before row f = ((Each-rest IsFileRow before (row ∷ []) f.each).0, above-last before row f.in_order)

each-take : (n : ℕ) (rows : List FileRow) → Each IsFileRow rows → Each IsFileRow (take n rows)
each-take zero rows h = tt
each-take (suc n) [] h = tt
each-take (suc n) (a ∷ rows) h = (h.0, each-take n rows h.1)

pub files-take : (n : ℕ) (rows : List FileRow) → IsFiles rows → IsFiles (take n rows)
files-take n rows f = record { each = each-take n rows f.each; in_order = rises-take n rows f.in_order }
