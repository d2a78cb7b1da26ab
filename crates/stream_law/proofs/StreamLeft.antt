-- The commits that a pull leaves have a stream again, where they are views within their limits.
use Rattle.std.proofs.Common.{◌≤◌, length, arith}
use Rattle.text_model.proofs.EachLemmas.{Each-weaker}
use Rattle.git_model.specs.Unfold.{rows_limit}
use Rattle.view_model.specs.View.{CommitFits, rows_size}
use Rattle.pair_model.specs.Block.{commits_in}
use Rattle.state_model.specs.Limits.{dump_limit}
use Rattle.state_model.specs.Kept.{git_dump}
use Rattle.next_law.specs.Next.{IsLeftOfBytes}
use Rattle.next_law.proofs.Alone.{distinct-left}
use Rattle.next_law.proofs.OneGit.{none-other_left}
use Rattle.next_law.proofs.Room.{room-left}
use Rattle.stream_law.specs.Stream.{HasStream}
use Rattle.stream_law.proofs.ReadGit.{commits-read}

pub stream-left : IsLeftOfBytes HasStream
stream-left s pull k made is text input steps views fits =
    let one = none-other_left s pull k made is text input steps in
    let room = room-left s pull k made is steps in
    let short : length (git_dump (commits_in k.blocks)) ≤ dump_limit = omega (arith, room.git) in
    record {
      views = views;
      distinct = (distinct-left s pull k made is steps).1;
      short = short;
      read = commits-read (commits_in k.blocks) views fits one short;
      rows = Each-weaker CommitFits (λ c. rows_size c ≤ rows_limit) (λ c f. f.rows) (commits_in k.blocks) fits;
      one = one;
    }
