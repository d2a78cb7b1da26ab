use Rattle.std.proofs.Common.{◌∙◌, sym}
use Rattle.tree_shape.proofs.Rows.{clash}
use Rattle.tree_shape.proofs.SetLemmas.{files-push, files-last}
use Rattle.tree_shape.proofs.files.fits_behind.Goals as goal

pub returns-then-is_file_row : goal.returns-then-is_file_row
returns-then-is_file_row c = (
  λ h. files-push c.args.before.now c.args.row.now c.requires (c.is_file_row.ensures.0 c.if-is_file_row.true) (sym c.stands_above.ensures ∙ h),
  λ f. c.stands_above.ensures ∙ (files-last c.args.before.now c.args.row.now f).1,
)

pub returns-else-is_file_row : goal.returns-else-is_file_row
returns-else-is_file_row c = (
  λ h. absurd (clash (sym h ∙ c.if-is_file_row.false)),
  λ f. c.is_file_row.ensures.1 (files-last c.args.before.now c.args.row.now f).0,
)
