use Rattle.std.proofs.Common.{◌++◌, ◌∷◌, [], map, take, sym, ◌∙◌}
use Rattle.pair_model.specs.MarkList.{OneExtra}
use Rattle.commit_mark.proofs.Begun.{begin-same, extras-more, extras-begin}
use Rattle.commit_mark.proofs.put.put_extras.Goals as goal

pub put-requires : goal.put-requires
put-requires c =
    let e = c.at.result.now in
    begin-same ((c.args.marks.now ++ map OneExtra (take c.loop-place.place c.args.extras.now)) ++ OneExtra e ∷ []) _
    (λ i. sym c.loop-place.invariant i ++ sym c.in_ok-mark.ensures i ∷ []) (extras-begin c.args.marks.now c.args.extras.now c.requires c.loop-place.place e c.at.ensures)

pub loop-place-preserved : goal.loop-place-preserved
loop-place-preserved c =
    let e = c.at.result.now in
    c.in_ok-put.ensures ∙ (λ i. c.loop-place.invariant i ++ c.in_ok-mark.ensures i ∷ []) ∙ sym (extras-more c.args.marks.now c.args.extras.now c.requires c.loop-place.place e c.at.ensures)
