-- The parts of a state that count for its limits.
use Rattle.std.specs.Prelude.{ℕ, ◌+◌, Bool, nat_lt, List, length, sum_by}
use Rattle.git_model.specs.Object.{Object}
use Rattle.git_model.specs.Stream.{stream_text}
use Rattle.view_model.specs.View.{ChangesetView, CommitView}
use Rattle.state_model.specs.Kept.{hg_dump, git_dump}
use Rattle.state_model.specs.Limits.{dump_limit}
use Rattle.pair_state.specs.declared.blocks.Block.{Block}

-- how many changesets pairs have, with their links
abbrev pub count_of : List Block → ℕ
count_of blocks = sum_by (λ b. b.links + 1) blocks

-- the bundle of the changesets is past its limit
abbrev pub is_bundle_large : List ChangesetView → Bool
is_bundle_large changesets = nat_lt dump_limit (length (hg_dump changesets))

-- the stream of the commits is past its limit, with these objects behind it
abbrev pub is_stream_large : List CommitView → List Object → Bool
is_stream_large commits objects = nat_lt dump_limit (length (git_dump commits) + length (stream_text objects))
