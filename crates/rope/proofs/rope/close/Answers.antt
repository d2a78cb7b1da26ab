use Rattle.std.proofs.Common.{◌≡◌, ◌++◌, ◌∷◌, [], ap, ◌∙◌, arith}
use Rattle.std.specs.List.{concat}
use Rattle.std.proofs.lemmas.List.{take_all, drop_all}
use Rattle.rope.proofs.Pieces.{concat_push}
use Rattle.rope.proofs.rope.close.Goals as goal

pub returns-clause-ok : goal.returns-clause-ok
returns-clause-ok c =
    let pieces = c.args.pieces.now.items in
    let tail = c.args.tail.now.items in
    let len = c.len.ensures.value in
    let whole : c.in_ok-piece.piece ≡ tail = c.in_ok-piece.ensures.front ∙ take_all c.len.result tail (omega (arith, len)) in
    let left : c.freeze_to.new.self.items ≡ [] = c.in_ok-piece.ensures.rest.0 ∙ drop_all c.len.result tail (omega (arith, len)) in
    let put : c.push.new.self.items ≡ pieces ++ tail ∷ [] = c.in_ok-push.ensures.items ∙ (λ k. c.in_ok-reserve.ensures.items k ++ whole k ∷ []) in
    (ap concat put ∙ concat_push pieces tail, left)
