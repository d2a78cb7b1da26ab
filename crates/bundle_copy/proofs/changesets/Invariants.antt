use Rattle.std.specs.Prelude.{List}
use Rattle.view_model.specs.View.{ChangesetView}
use Rattle.view_model.specs.Held.{AreChangesetsHeld}
use Rattle.bundle_copy.proofs.changesets.Given as goal

abbrev pub invariant-loop-i : goal.invariant-loop-i
invariant-loop-i l = (hs : List ChangesetView) × AreChangesetsHeld l.store l.order hs
