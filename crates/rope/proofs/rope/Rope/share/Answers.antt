use Rattle.std.proofs.Common.{◌≡◌, ◌++◌, ℕ, List, ap, ◌∙◌, ◌-◌, length, take, refl, arith}
use Rattle.std.specs.List.{concat}
use Rattle.std.proofs.lemmas.List.{take_all, take_at}
use Rattle.rope.proofs.Pieces.{concat_end}
use Rattle.rope.proofs.rope.Rope.share.Goals as goal

whole : (c : goal.In_ok-push) → concat c.push.new.self.items ++ c.close.new.tail.items ≡ c.args.self.now ++ c.args.text.now
whole c =
    let piece = c.in_ok-piece.piece in
    let before : concat c.self.inside.pieces.items ++ c.self.inside.tail.items ≡ c.args.self.now = c.self.view_is in
    let all : piece ≡ c.args.text.now = c.in_ok-piece.ensures.ok ∙ take_all (c.len-2.result - 0) c.args.text.now (omega (arith, c.len-2.ensures.value)) in
    (λ k. concat (c.in_ok-push.ensures.items k) ++ c.in_ok-close.ensures.ok.1 k)
    ∙ concat_end c.close.new.pieces.items piece
    ∙ (λ k. c.in_ok-close.ensures.ok.0 k ++ piece)
    ∙ (λ k. before k ++ all k)

pub returns-clause-ok : goal.returns-clause-ok
returns-clause-ok c = whole c

pub returns-clause-front : goal.returns-clause-front
returns-clause-front c = ap (λ (t : List ℕ). take (length c.args.self.now) t) (whole c) ∙ take_at c.args.self.now c.args.text.now (length c.args.self.now) refl
