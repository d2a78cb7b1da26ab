-- When the stream of commits is read where nothing is known.
use Rattle.std.specs.Prelude.{◌≡◌, ◌≤◌, false, List, [], length, is_ok, IsTrue}
use Rattle.text_model.specs.Lists.{Each}
use Rattle.git_model.specs.Stream.{stream_reading}
use Rattle.view_model.specs.View.{CommitView, IsCommitView, CommitFits}
use Rattle.view_model.specs.Dump.{objects_in}
use Rattle.pair_model.specs.Block.{commits_in}
use Rattle.state_model.specs.Limits.{dump_limit}
use Rattle.state_model.specs.Kept.{Kept, git_dump}
use Rattle.state_model.specs.Saved.{AreCommitsSaved, has_other_content}

-- the commits of a saved state are within their limits
abbrev pub OldCommitsFit : Type 0
OldCommitsFit = (cs : List CommitView) → AreCommitsSaved cs → Each CommitFits cs

-- The stream of commits that are views within their limits is read, where no object is another one of the same id and the stream is within its
-- limit.
abbrev pub CommitsAreRead : Type 0
CommitsAreRead = (cs : List CommitView) → Each IsCommitView cs → Each CommitFits cs → has_other_content (objects_in cs) ≡ false → length (git_dump cs) ≤ dump_limit
    → IsTrue (is_ok (stream_reading [] (git_dump cs)))

-- where the commits that a pull leaves are views within their limits, they have a stream again
abbrev pub HasStream : Kept → Type 0
HasStream k = Each IsCommitView (commits_in k.blocks) → Each CommitFits (commits_in k.blocks) → AreCommitsSaved (commits_in k.blocks)
