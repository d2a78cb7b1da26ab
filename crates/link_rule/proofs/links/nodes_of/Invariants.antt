use Rattle.std.proofs.Common.{◌≡◌, map, take}
use Rattle.link_rule.proofs.links.nodes_of.Given as goal

-- the nodes so far
abbrev pub invariant-loop-link : goal.invariant-loop-link
invariant-loop-link l = l.nodes ≡ map (λ link. link.node) (take l.link-index l.links)
