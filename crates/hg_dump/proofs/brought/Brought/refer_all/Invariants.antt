use Rattle.std.proofs.Common.{◌<◌, List, take}
use Rattle.text_model.specs.Lists.{Each}
use Rattle.hg_store.specs.Known.{AreAdded}
use Rattle.hg_store.specs.Views.{IsManifestOf}
use Rattle.view_model.specs.View.{ChangesetView}
use Rattle.view_model.specs.Held.{AreChangesetsHeld}
use Rattle.hg_dump.specs.Marks.{Met, marks_in, meets}
use Rattle.hg_dump.specs.Held.{AreWalked}
use Rattle.hg_dump.specs.State.{StepsAfter, IsLineMet}
use Rattle.hg_dump.proofs.brought.Brought.refer_all.Given as goal

abbrev pub invariant-loop-node : goal.invariant-loop-node
invariant-loop-node l = record {
  steps : (hs : List ChangesetView) → AreChangesetsHeld l.store l.nodes hs → StepsAfter l.fn.previous l.is_new (marks_in (take l.node-index hs)) l.fn.self l.self;
  lines : (hs : List ChangesetView) → AreChangesetsHeld l.store l.nodes hs → (s : Met) → Each (IsLineMet s) l.fn.previous → Each (IsLineMet (meets l.is_new s (marks_in (take l.node-index hs)))) l.previous;
  walked : (hs : List ChangesetView) → AreChangesetsHeld l.store l.nodes hs → (s : Met) → Each (IsLineMet s) l.fn.previous → AreWalked l.store l.walked (λ lines. Each (IsLineMet (meets l.is_new s (marks_in (take l.node-index hs)))) lines);
  manifest : IsManifestOf l.store l.before l.previous;
  known : 0 < l.node-index → AreAdded l.store;
}
