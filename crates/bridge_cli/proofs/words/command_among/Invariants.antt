use Rattle.std.proofs.Common.{◌≡◌, map, length}
use Rattle.command_model.specs.Command.{command_named}
use Rattle.bridge_cli.specs.Status.{command_value}
use Rattle.bridge_cli.proofs.words.command_among.Given as goal

abbrev pub invariant-loop-table : goal.invariant-loop-table
invariant-loop-table l = command_named l.word (map (λ p. (p.0.now, command_value p.1)) l.table) ≡ command_named l.word (map (λ p. (p.0.now, command_value p.1)) l.fn.table)

abbrev pub decreases-loop-table : goal.decreases-loop-table
decreases-loop-table l = length l.table
