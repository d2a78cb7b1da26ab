use Rattle.std.proofs.Common.{◌≡◌, take}
use Rattle.state_text.proofs.blocks.node_list.Given as goal

abbrev pub invariant-loop-node : goal.invariant-loop-node
invariant-loop-node l = l.list ≡ take l.node-index l.nodes
