use Rattle.std.proofs.Common.{◌++◌, ◌∷◌, [], sym, ◌∙◌}
use Rattle.text_model.proofs.Elements.{take_push}
use Rattle.commit_mark.proofs.fields.copy_of_paths.Goals as goal

pub loop-place-preserved : goal.loop-place-preserved
loop-place-preserved c =
    c.in_ok-push.ensures.ok ∙ (λ i. c.loop-place.invariant i ++ (c.in_ok-path.ensures ∙ c.as_slice.ensures) i ∷ []) ∙ sym (take_push c.args.paths.now c.loop-place.place c.at.result.now c.at.ensures)
