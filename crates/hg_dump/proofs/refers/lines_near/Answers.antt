use Rattle.std.proofs.Common.{refl}
use Rattle.hg_store.proofs.ViewLemmas.{null-has_none}
use Rattle.hg_dump.proofs.refers.lines_near.Goals as goal

pub returns-in-None-clause-manifest : goal.returns-in-None-clause-manifest
returns-in-None-clause-manifest c = null-has_none c.args.store.now _ c.none.result refl c.none.ensures
