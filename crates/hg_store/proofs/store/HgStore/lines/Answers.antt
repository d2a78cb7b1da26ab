use Rattle.std.proofs.Common.{[], refl, sym, subst, ◌∙◌}
use Rattle.hg_model.specs.Manifest.{IsManifestText}
use Rattle.hg_model.proofs.ManifestLemmas.{manifest_text-none}
use Rattle.hg_store.proofs.ViewLemmas.{null-has_none}
use Rattle.hg_store.proofs.store.HgStore.lines.Goals as goal

pub of-requires : goal.of-requires
of-requires c = subst (IsManifestText []) (sym c.null_manifest.ensures.empty) ((tt, refl), sym manifest_text-none)

pub returns-then-is_null-clause-value : goal.returns-then-is_null-clause-value
returns-then-is_null-clause-value c = null-has_none c.args.self.now c.args.node.now c.of.result (sym c.is_null.ensures ∙ c.if-is_null.true) (c.of.ensures ∙ c.null_manifest.ensures.empty)
