use Rattle.std.proofs.Common.{List, map, take}
use Rattle.hg_model.specs.Revision.{Revision}
use Rattle.hg_store.specs.Known.{AreAdded}
use Rattle.view_model.specs.View.{ChangesetView}
use Rattle.view_model.specs.Dump.{file_revision}
use Rattle.pair_state.specs.Came.{HaveCome, IsAskedOver}
use Rattle.pair_state.proofs.files.add_files.Given as goal

-- the files so far came, and each revision was added to those before it
abbrev pub invariant-loop-row : goal.invariant-loop-row
invariant-loop-row l = record {
  came : (base : List Revision) (k : ChangesetView) → IsAskedOver base l.initial.hg l.d l.link k → HaveCome l.initial.hg l.hg (map (file_revision l.link) (take l.row-index k.rows));
  added : AreAdded l.hg;
}
