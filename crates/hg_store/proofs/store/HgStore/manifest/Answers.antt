use Rattle.std.proofs.Common.{sym, ◌∙◌}
use Rattle.hg_store.proofs.ViewLemmas.{null-has_none}
use Rattle.hg_store.proofs.store.HgStore.manifest.Goals as goal

pub returns-then-is_null-clause-value : goal.returns-then-is_null-clause-value
returns-then-is_null-clause-value c = null-has_none c.args.self.now c.args.node.now c.null_manifest.result.now (sym c.is_null.ensures ∙ c.if-is_null.true) c.null_manifest.ensures.empty
