use Rattle.std.proofs.Common.{[], ◌∷◌, ◌++◌, sym, ◌∙◌}
use Rattle.text_model.proofs.Elements.{take_push}
use Rattle.manifest_rule.proofs.files.are_same_paths.Goals as goal

pub loop-place-preserved : goal.loop-place-preserved
loop-place-preserved c =
    let same = c.is_same_path.ensures.0 c.if-not-is_same_path.false in
    take_push c.args.a.now c.loop-place.place _ c.at.ensures ∙ (λ i. c.loop-place.invariant i ++ same i ∷ []) ∙ sym (take_push c.args.b.now c.loop-place.place _ c.at-in-loop-place.ensures)
