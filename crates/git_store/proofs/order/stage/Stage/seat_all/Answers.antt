use Rattle.std.proofs.Common.{◌≡◌, List, [], drop, subst, arith}
use Rattle.std.specs.List.{list_any}
use Rattle.std.proofs.lemmas.List.{drop_all}
use Rattle.git_store.specs.declared.order.waiting.Wait.{Wait}
use Rattle.git_store.specs.Stage.{rows, stands_at, IsStage}
use Rattle.git_store.proofs.order.stage.Stage.seat_all.Goals as goal

pub returns-clause-stage : goal.returns-clause-stage
returns-clause-stage c =
    let done : drop c.loop-wait.wait-index c.args.waits.now ≡ [] = drop_all c.loop-wait.wait-index c.args.waits.now (omega arith) in
    subst (λ (l : List Wait). IsStage (rows c.args.came.now) c.args.came.now.saved.now (λ i. list_any (stands_at i) l) c.loop-wait.self) done c.loop-wait.invariant.stage
