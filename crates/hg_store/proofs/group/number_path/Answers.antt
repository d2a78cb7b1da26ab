use Rattle.std.proofs.Common.{sym}
use Rattle.hg_store.proofs.KeyLemmas.{path-by_number}
use Rattle.hg_store.proofs.group.number_path.Goals as goal

pub returns-in-Some-clause-number : goal.returns-in-Some-clause-number
returns-in-Some-clause-number c = path-by_number c.args.paths.now.keys c.args.path.now c.in-Some.number (sym c.in-Some.ensures.index)
