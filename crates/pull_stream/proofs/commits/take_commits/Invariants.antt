use Rattle.std.proofs.Common.{◌≤◌, ◌+◌, ◌*◌, List, take}
use Rattle.text_model.specs.Lists.{Each}
use Rattle.git_model.specs.Stream.{Placed}
use Rattle.pair_model.specs.Block.{Block}
use Rattle.history_model.specs.Pull as model
use Rattle.pair_known.specs.Drafts.{IsRowKnown}
use Rattle.pull_stream.specs.Ready.{IsInOrder}
use Rattle.pull_stream.specs.Taken.{CommitsTaken}
use Rattle.pull_stream.proofs.commits.take_commits.Given as goal

-- the commits so far were taken, each in at most 18 steps, and the files of the last one's changeset are known
abbrev pub invariant-loop-id : goal.invariant-loop-id
invariant-loop-id g l = record {
  taken : (m : model.State) (came : List Placed) → IsInOrder l.fn.state l.came l.ordered m came → (new : List Block) × CommitsTaken l.fn.state (l.next).state m.blocks (take l.id-index l.ordered) new;
  near : Each (IsRowKnown ((l.next).state).known.hg) (l.next).rows;
  least : l.fn.steps ≤ l.steps;
  few : l.steps ≤ l.fn.steps + 18 * l.id-index;
}
