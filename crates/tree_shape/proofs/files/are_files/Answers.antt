use Rattle.std.proofs.Common.{◌∙◌, ◌+◌, ◌++◌, [], ◌∷◌, sym, ap, subst, List}
use Rattle.git_model.specs.Unfold.{FileRow}
use Rattle.tree_shape.specs.Sets.{IsFiles}
use Rattle.tree_shape.proofs.Rows.{clash}
use Rattle.tree_shape.proofs.ClashLemmas.{row-behind}
use Rattle.tree_shape.proofs.SetLemmas.{files-take}
use Rattle.tree_shape.proofs.files.are_files.Goals as goal

pub returns-then-not-fits_behind : goal.returns-then-not-fits_behind
returns-then-not-fits_behind c = (
  λ h. absurd (clash (sym h)),
  λ f. absurd (clash (sym (c.fits_behind.ensures.1 (subst (λ (rows : List FileRow). IsFiles rows)
      (sym (ap (λ (front : List FileRow). front ++ c.index-rows-place.result ∷ []) c.split_at.ensures.front ∙ row-behind c.args.rows.now c.loop-place.place c.index-rows-place.result c.loop-place-test.true c.index-rows-place.is))
      (files-take (c.loop-place.place + 1) c.args.rows.now f))) ∙ cc (c.if-not-fits_behind.true))),
)
