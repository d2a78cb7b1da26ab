use Rattle.std.proofs.Common.{◌∙◌}
use Rattle.hg_filelog.proofs.CopyLemmas.{copies_same, copy_in-again, found}
use Rattle.hg_filelog.proofs.copy.copy_of.Goals as goal

pub returns-clause-value : goal.returns-clause-value
returns-clause-value c = c.read_copy.ensures ∙ copies_same c.args.meta.now

pub returns-clause-found : goal.returns-clause-found
returns-clause-found c = found (λ copy. (copy.0.now, copy.1)) c.args.meta.now c.read_copy.result c.read_copy.ensures

pub returns-clause-each : goal.returns-clause-each
returns-clause-each c = λ path node is. c.read_copy.ensures ∙ copy_in-again c.args.meta.now path node is
