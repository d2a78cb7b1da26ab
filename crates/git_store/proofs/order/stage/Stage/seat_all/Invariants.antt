use Rattle.std.proofs.Common.{◌≡◌, drop}
use Rattle.std.specs.List.{list_any}
use Rattle.git_store.specs.Stage.{rows, stands_at, IsStage}
use Rattle.git_store.proofs.order.stage.Stage.seat_all.Given as goal

abbrev pub invariant-loop-wait : goal.invariant-loop-wait
invariant-loop-wait l = record {
  stage : IsStage (rows l.came) (l.came.saved).now (λ i. list_any (stands_at i) (drop l.wait-index l.waits)) l.self;
  placed : l.self.placed ≡ l.fn.self.placed;
  order : l.self.order ≡ l.fn.self.order;
}
