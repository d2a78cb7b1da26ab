use Rattle.std.proofs.Common.{List}
use Rattle.view_model.specs.View.{CommitView}
use Rattle.git_dump.specs.Commits.{AreWalkableCommits}
use Rattle.git_tests.proofs.dumps.order_of.Given as goal

abbrev pub invariant-loop-place : goal.invariant-loop-place
invariant-loop-place l = (cs : List CommitView) × AreWalkableCommits l.store l.order cs
