use Rattle.std.proofs.Common.{◌-◌}
use Rattle.state_size.proofs.Bounds.{IsSearched}
use Rattle.state_size.proofs.large.first_count.Given as goal

abbrev pub invariant-loop-low : goal.invariant-loop-low
invariant-loop-low l = IsSearched l.state l.first_new l.first_tag l.all l.low l.high

abbrev pub decreases-loop-low : goal.decreases-loop-low
decreases-loop-low l = l.high - l.low
