-- The mark of one file.
use Rattle.std.proofs.Common.{◌≡◌, Bool, true, false, List, [], ◌∷◌, sym, ap, ◌∙◌}
use Rattle.std.specs.Prelude.{if◌then◌else◌}
use Rattle.view_model.specs.View.{Row}
use Rattle.pair_model.specs.Block.{Parents}
use Rattle.pair_model.specs.MarkList.{Mark}
use Rattle.pair_known.specs.Rows.{RowValue, row_value}
use Rattle.partner_model.specs.Mark.{entry_marks, is_ruled, revision_mark, rename_source}

module _ (ps : Parents) (w : Row) where
  marks-are : (t : Bool) → t ≡ is_ruled ps w → entry_marks ps w ≡ (if t then [] else revision_mark w.path w.revision (rename_source ps w.revision) ∷ [])
  unfolding entry_marks
  marks-are t is = ap (λ (b : Bool). if b then [] else revision_mark w.path w.revision (rename_source ps w.revision) ∷ []) (sym is)

  abbrev marks_by : Bool → List Mark
  marks_by b = if b then [] else revision_mark w.path w.revision (rename_source ps w.revision) ∷ []

  pub no-mark : (t : Bool) → t ≡ is_ruled ps w → t ≡ true → [] ≡ entry_marks ps w
  no-mark t is yes' = sym (marks-are t is ∙ ap marks_by yes')

  pub one-mark : (t : Bool) → t ≡ is_ruled ps w → t ≡ false → (row : RowValue) → row_value w ≡ row → (m : Mark) → m ≡ revision_mark row.path w.revision (rename_source ps w.revision) → m ∷ [] ≡ entry_marks ps w
  one-mark t is isnt row of_row m m_is =
      ap (λ (x : Mark). x ∷ []) (m_is ∙ ap (λ (x : RowValue). revision_mark x.path w.revision (rename_source ps w.revision)) (sym of_row)) ∙ sym (marks-are t is ∙ ap marks_by isnt)
