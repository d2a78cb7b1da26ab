use Rattle.std.proofs.Common.{◌≡◌, take}
use Rattle.commit_rule.specs.Parts.{partners_at}
use Rattle.changeset_unmark.specs.Parents.{HavePartners}
use Rattle.changeset_unmark.proofs.parents.partners_of.Given as goal

-- the partners of the nodes so far
abbrev pub invariant-loop-node : goal.invariant-loop-node
invariant-loop-node l = record {
  have : HavePartners l.partners (take l.node-index l.nodes);
  are : l.parents ≡ partners_at l.partners (take l.node-index l.nodes);
}
