use Rattle.std.proofs.Common.{[]}
use Rattle.hg_dump.proofs.RefersLemmas.{no-revisions}
use Rattle.hg_dump.proofs.refers.Refers.of.Goals as goal

pub returns : goal.returns
returns c = λ hs are. c.in_ok-add.ensures hs [] are (no-revisions _ c.new.ensures)
