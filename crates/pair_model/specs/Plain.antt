-- Commits that the plain rules give back. These rules are this project's own.
use Rattle.std.specs.Prelude.{◌≤◌, List, length}
use Rattle.view_model.specs.View.{ChangesetView, CommitView, SameCommit}
use Rattle.pair_model.specs.Block.{Block}
use Rattle.pair_model.specs.Rule.{rule_commit, rule_changeset}
use Rattle.pair_model.specs.Octopus.{parents_of_commit}

-- the changeset that the rule gives for a commit over the blocks of its parents
abbrev pub changeset_by_rule : List Block → CommitView → ChangesetView
changeset_by_rule blocks c = rule_changeset (parents_of_commit blocks c) c

-- the commit has two parents at most, and it is the one that the rule gives for its changeset
pub record IsPlainCommit (blocks : List Block) (c : CommitView) : Type 0 where
  pub few : length (c.value).parents ≤ 2
  pub back : SameCommit (rule_commit blocks (changeset_by_rule blocks c)) c
