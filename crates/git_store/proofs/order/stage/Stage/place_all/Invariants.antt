use Rattle.std.proofs.Common.{◌≡◌, length}
use Rattle.std.specs.List.{filter}
use Rattle.git_model.specs.Order.{is_waiting, IsPlacement}
use Rattle.git_store.specs.Stage.{rows, nowhere, IsStage}
use Rattle.git_store.proofs.order.stage.Stage.place_all.Given as goal

abbrev pub invariant-places : goal.invariant-places
invariant-places l = record {
  stage : IsStage (rows l.came) (l.came.saved).now nowhere l.stage;
  places : IsPlacement (rows l.came) (l.came.saved).now l.stage.placed;
  order : l.stage.order ≡ l.stage.placed;
}

abbrev pub decreases-places : goal.decreases-places
decreases-places l = length (filter (is_waiting (l.came.saved).now l.stage.placed) (rows l.came))
