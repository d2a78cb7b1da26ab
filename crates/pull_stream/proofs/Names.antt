-- The faults of the steps have the names of a commit or of a stream.
use Rattle.std.proofs.Common.{List, inl}
use Rattle.tree_shape.specs.declared.fault.TreeFault.{TreeFault}
use Rattle.tree_shape.specs.declared.fault.TreeFault.TheVariants as tree
use Rattle.view_model.specs.View.{CommitView}
use Rattle.pair_model.specs.Block.{Block}
use Rattle.pair_known.specs.declared.known.Known.{Known}
use Rattle.pair_choice.specs.Chosen.{CommitRefuses}
use Rattle.pair_known.specs.declared.choice_fault.ChoiceFault.{ChoiceFault}
use Rattle.pair_known.specs.declared.choice_fault.ChoiceFault.TheVariants as choice
use Rattle.pair_state.specs.declared.fault.PushFault.{PushFault}
use Rattle.pair_state.specs.declared.fault.PushFault.TheVariants as push
use Rattle.git_batch.specs.StreamFaults.{IsOfStream}
use Rattle.git_batch.specs.declared.stream_fault.StreamFault.{StreamFault}
use Rattle.git_batch.specs.declared.stream_fault.StreamFault.TheVariants as stream
use Rattle.pull_outcome.specs.Names.{IsOfPullGit}
use Rattle.pull_outcome.specs.Refused.{stream_refused}
use Rattle.pull_outcome.specs.Takes.{tree_refused, choice_refused, push_refused}
use Rattle.pull_stream.specs.Faults.{IsOfCommit}

pub tree-named : (e : TreeFault) → IsOfCommit (tree_refused e)
tree-named (tree.ObjectUnknown id) = tt
tree-named tree.PathUnfit = tt
tree-named tree.Limit = tt
tree-named tree.Memory = tt

-- of the choice, those of a commit
pub choice-named : (k : Known) (blocks : List Block) (c : CommitView) (e : ChoiceFault) → CommitRefuses k blocks c e → IsOfCommit (choice_refused e)
choice-named k blocks c choice.PathClash due = absurd due
choice-named k blocks c choice.ParentIsLink due = absurd due
choice-named k blocks c choice.NestLimit due = tt
choice-named k blocks c choice.PairLimit due = tt
choice-named k blocks c choice.Collision due = tt
choice-named k blocks c choice.Memory due = tt

pub push-named : (e : PushFault) → IsOfCommit (push_refused e)
push-named push.Collision = tt
push-named push.Memory = tt

pub stream-named : (e : StreamFault) → IsOfStream e → IsOfPullGit (stream_refused e)
stream-named (stream.Refused why) of = inl of
stream-named stream.Read of = tt
stream-named stream.Memory of = tt
