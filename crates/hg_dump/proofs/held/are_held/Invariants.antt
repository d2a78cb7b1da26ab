use Rattle.std.proofs.Common.{List, take}
use Rattle.view_model.specs.View.{ChangesetView}
use Rattle.view_model.specs.Held.{AreChangesetsHeld}
use Rattle.hg_store.specs.Views.{IsManifestOf}
use Rattle.hg_dump.specs.Held.{AreLinesKnown, AreManifestsKnown}
use Rattle.hg_dump.proofs.held.are_held.Given as goal

abbrev pub invariant-loop-node : goal.invariant-loop-node
invariant-loop-node l = record {
  held : (hs : List ChangesetView) × AreChangesetsHeld l.store (take l.node-index l.order) hs;
  before : IsManifestOf l.store l.before l.near;
  near : AreLinesKnown l.store l.near;
  walked : AreManifestsKnown l.store l.walked;
}
