use Rattle.std.proofs.Common.{◌≡◌, true, not, nat_lt, sym, ap, ◌∙◌, arith}
use Rattle.std.proofs.lemmas.Bool.Decides.{nat_tests}
use Rattle.git_dump.proofs.Counted.{met-front, met-behind, met-none}
use Rattle.git_dump.proofs.walk.Walk.has_met.Goals as goal

pub returns-then-place-self : goal.returns-then-place-self
returns-then-place-self c = λ known is p.
    let below : nat_lt c.args.place c.args.self.now.front ≡ true = grind (arith, nat_tests, c.if-place-self.true) in
    below ∙ sym (met-front known c.args.self.now is c.args.id.now c.args.place p c.if-place-self.true)

pub returns-then-not-self : goal.returns-then-not-self
returns-then-not-self c = λ known is p. c.contains.ensures ∙ sym (met-behind known c.args.self.now is c.args.id.now c.args.place p c.if-place-self.false)

pub returns-else-not-self : goal.returns-else-not-self
returns-else-not-self c = λ known is p. ap not c.if-not-self.false ∙ sym (met-none known c.args.self.now is c.args.id.now c.args.place p c.if-place-self.false c.if-not-self.false)
