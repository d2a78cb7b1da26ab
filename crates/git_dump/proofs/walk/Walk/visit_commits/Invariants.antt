use Rattle.std.proofs.Common.{List, take}
use Rattle.text_model.specs.Lists.{Each}
use Rattle.view_model.specs.View.{CommitView}
use Rattle.view_model.specs.Dump.{objects_in}
use Rattle.git_dump.specs.Commits.{AreWalkableCommits}
use Rattle.git_dump.specs.Walks.{IsMetEntry, IsClosed}
use Rattle.git_dump.specs.Visits.{met_by, IsWalk, Visits}
use Rattle.git_dump.proofs.walk.Walk.visit_commits.Given as goal

abbrev pub invariant-loop-id : goal.invariant-loop-id
invariant-loop-id l = record {
  visits : (cs : List CommitView) → AreWalkableCommits l.store l.ids cs → Visits l.store (objects_in (take l.id-index cs)) l.fn.self l.self;
  walk : IsWalk l.store l.self;
  closed : IsClosed l.store (met_by l.store l.self).met;
  beside : Each (IsMetEntry (met_by l.store l.self).met) l.beside;
}
