use Rattle.std.proofs.Common.{◌-◌, take}
use Rattle.std.specs.List.{flat_map}
use Rattle.text_model.specs.Lists.{Each}
use Rattle.git_dump.specs.Walks.{entry_objects, walk_objects, IsMetEntry, IsClosed}
use Rattle.git_dump.specs.Visits.{met_by, Visits}
use Rattle.git_dump.proofs.walk.Walk.+visit_tree.Given as goal

abbrev pub decreases-visit_tree : goal.decreases-visit_tree
decreases-visit_tree l = l.depth

abbrev pub invariant-loop-entry : goal.invariant-loop-entry
invariant-loop-entry l = record {
  visits : Visits l.store (flat_map (entry_objects l.store (walk_objects l.store (l.depth - 1))) (take l.entry-index l.entry-items)) l.fn.self l.self;
  closed : IsClosed l.store (met_by l.store l.self).met;
  ahead : Each (IsMetEntry (met_by l.store l.self).met) l.ahead;
}
