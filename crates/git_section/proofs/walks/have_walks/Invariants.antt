use Rattle.std.proofs.Common.{List, take}
use Rattle.view_model.specs.View.{CommitView}
use Rattle.git_dump.specs.Commits.{AreWalkableCommits}
use Rattle.tree_sum.specs.Sums.{AreSums}
use Rattle.git_section.proofs.walks.have_walks.Given as goal

abbrev pub invariant-loop-id : goal.invariant-loop-id
invariant-loop-id l = AreSums l.store l.sums × ((cs : List CommitView) × AreWalkableCommits l.store (take l.id-index l.ids) cs)
