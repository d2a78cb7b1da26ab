use Rattle.std.proofs.Common.{◌==◌, arith, eqb-true}
use Rattle.std.proofs.lemmas.Bool.Decides.{nat_tests}
use Rattle.git_dump.proofs.Counted.{whole-in-order, whole-other}
use Rattle.git_dump.proofs.walk.Walk.is_whole.Goals as goal

pub returns-then-self : goal.returns-then-self
returns-then-self c = λ known is.
    let w = c.args.self.now in
    whole-in-order known w (w.front == w.size) is c.if-self.true (eqb-true w.front w.size) (λ same. grind (arith, nat_tests, same))

pub returns-else-self : goal.returns-else-self
returns-else-self c = λ known is. whole-other known c.args.self.now is c.if-self.false
