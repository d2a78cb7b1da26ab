use Rattle.std.proofs.Common.{◌∙◌}
use Rattle.hg_manifest.proofs.LineTurns.{line_reads, no_nul}
use Rattle.hg_manifest.proofs.line.read_line.Goals as goal

pub returns-in_err-path : goal.returns-in_err-path
returns-in_err-path c = rw c.from_residual.ensures (no_nul c.args.line.now c.in_err-path.ensures)

pub returns : goal.returns
returns c = c.line_of.ensures ∙ line_reads c.args.line.now c.in_ok-path.path.now c.in_ok-path.tail.now c.in_ok-path.ensures
