use Rattle.std.proofs.Common.{◌≡◌, false, take}
use Rattle.std.specs.List.{list_any}
use Rattle.hg_section.specs.Section.{is_again, nodes_of}
use Rattle.hg_section.proofs.nodes.changeset_nodes.Given as goal

abbrev pub invariant-loop-arrival : goal.invariant-loop-arrival
invariant-loop-arrival l = (l.nodes ≡ nodes_of (take l.arrival-index l.arrivals)) × (list_any is_again (take l.arrival-index l.arrivals) ≡ false)
