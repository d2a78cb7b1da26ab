use Rattle.std.proofs.Common.{◌≡◌, ◌++◌, take}
use Rattle.pair_state.proofs.push.push_all.Given as goal

-- the nodes so far stand behind the others
abbrev pub invariant-loop-node : goal.invariant-loop-node
invariant-loop-node l = l.list ≡ l.initial.list ++ take l.node-index l.nodes
