use Rattle.std.proofs.Common.{◌≡◌, []}
use Rattle.std.specs.Prelude.{nat_le}
use Rattle.git_store.specs.Stage.{rows, IsStage}
use Rattle.git_store.proofs.order.stage.Stage.begin.Given as goal

abbrev pub invariant-loop-place : goal.invariant-loop-place
invariant-loop-place l = record {
  stage : IsStage (rows l.came) (l.came.saved).now (λ i. nat_le l.place i) l.stage;
  placed : l.stage.placed ≡ [];
  order : l.stage.order ≡ [];
}
