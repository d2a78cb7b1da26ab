use Rattle.std.proofs.Common.{◌≤◌}
use Rattle.state_text.proofs.HeadLemmas.{IsSoFar}
use Rattle.state_text.proofs.heads.heads_among.Given as goal

abbrev pub invariant-loop-node : goal.invariant-loop-node
invariant-loop-node l = record {
  so_far : IsSoFar l.store l.nodes l.heads l.links l.node-index;
  few : l.links ≤ 62;
}
