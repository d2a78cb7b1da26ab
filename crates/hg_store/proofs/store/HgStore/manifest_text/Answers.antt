use Rattle.std.proofs.Common.{Some, sym, ap, ◌∙◌}
use Rattle.hg_store.proofs.ViewLemmas.{text-there}
use Rattle.hg_store.proofs.store.HgStore.manifest_text.Goals as goal

pub returns-in-Some-clause-value : goal.returns-in-Some-clause-value
returns-in-Some-clause-value c =
    ap Some c.as_slice.ensures ∙ sym (text-there c.args.self.now c.args.node.now _ c.get.ensures.known (sym c.in-Some.ensures.revision))
