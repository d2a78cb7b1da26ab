-- Commits whose trees can be walked through.
use Rattle.std.specs.Prelude.{◌≡◌, List, None}
use Rattle.text_model.specs.Lists.{Each}
use Rattle.text_model.specs.Id.{Id}
use Rattle.git_model.specs.Object.{Object}
use Rattle.git_model.specs.Unfold.{walk_fault}
use Rattle.view_model.specs.View.{CommitView}
use Rattle.view_model.specs.Held.{IsCommitHeld, AreCommitsHeld}

abbrev pub HasWalk : List Object → CommitView → Type 0
HasWalk known c = walk_fault known (c.value).tree_id ≡ None

-- the commit is known, and its tree can be walked through
abbrev pub IsWalkableCommit : List Object → Id → CommitView → Type 0
IsWalkableCommit known id c = IsCommitHeld known id c × HasWalk known c

-- the same of the commits of these ids, one by one
abbrev pub AreWalkableCommits : List Object → List Id → List CommitView → Type 0
AreWalkableCommits known ids cs = AreCommitsHeld known ids cs × Each (HasWalk known) cs
