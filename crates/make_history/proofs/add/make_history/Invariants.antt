use Rattle.std.proofs.Common.{◌≡◌}
use Rattle.make_model.specs.Numbers.{state_before}
use Rattle.make_model.specs.History.{made_history}
use Rattle.make_history.specs.Histories.{IsMade}
use Rattle.make_history.proofs.add.make_history.Given as goal

-- the changesets so far are made, and the generator stands behind their numbers
abbrev pub invariant-loop-number : goal.invariant-loop-number
invariant-loop-number l = record { made : IsMade l.history (made_history l.seed l.number); state : l.state ≡ state_before l.seed l.number }
