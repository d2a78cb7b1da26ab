use Rattle.link_rule.proofs.walk.+walk_down.Given as goal

abbrev pub decreases-walk_down : goal.decreases-walk_down
decreases-walk_down l = l.number
