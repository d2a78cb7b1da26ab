use Rattle.std.proofs.Common.{ap, sym, ◌∙◌, List, ◌++◌, ◌∷◌, []}
use Rattle.text_model.specs.Id.{Id}
use Rattle.git_store.specs.Stage.{rows}
use Rattle.git_store.proofs.PlacingLemmas.{fewer, goes_on}
use Rattle.git_store.proofs.order.stage.Stage.place_all.Goals as goal

pub places-smaller : goal.places-smaller
places-smaller c =
    let step = c.in_ok-place_next.ensures.more c.if-not-branch.false in
    fewer (rows c.args.came.now) c.args.came.now.saved.now c.places.stage.placed c.place_next.new.self.placed step.commit step.next step.placed

pub places-preserved : goal.places-preserved
places-preserved c =
    let step = c.in_ok-place_next.ensures.more c.if-not-branch.false in record {
      stage = step.stage;
      places = goes_on (rows c.args.came.now) c.args.came.now.saved.now c.places.stage.placed c.place_next.new.self.placed step.commit step.next step.placed c.places.invariant.places;
      order = step.order ∙ ap (λ (l : List Id). l ++ (step.commit).id ∷ []) c.places.invariant.order ∙ sym step.placed;
    }
