use Rattle.std.proofs.Common.{◌++◌, ℕ, List, [], ◌∷◌, take, ap, sym, ◌∙◌, arith}
use Rattle.std.specs.List.{concat}
use Rattle.std.proofs.lemmas.List.{take_more}
use Rattle.rope.proofs.Pieces.{concat_push}
use Rattle.rope.proofs.rope.Rope.joined.Goals as goal

pub loop-piece-preserved : goal.loop-piece-preserved
loop-piece-preserved c =
    let pieces = c.deref-piece-items.result.now in
    let i = c.loop-piece.piece-index in
    let piece = c.piece-item.result in
    c.in_ok-extend_from_slice.ensures.items
    ∙ (λ k. c.loop-piece.invariant k ++ c.as_slice.ensures k)
    ∙ sym (concat_push (take i pieces) piece)
    ∙ ap concat (sym (take_more pieces i piece (omega arith) ∙ ap (λ (p : List ℕ). take i pieces ++ p ∷ []) (sym c.piece-item.is)))
