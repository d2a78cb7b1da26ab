use Rattle.std.proofs.Common.{true≢false, sym, ap, ◌∙◌}
use Rattle.text_model.specs.Id.{Id}
use Rattle.std.proofs.lemmas.Slice.Eq.{bytes_eq-Decides}
use Rattle.file_rule.proofs.RowLemmas.{one_parents}
use Rattle.file_rule.proofs.revision.has_parents.Goals as goal

pub returns-else-eq-clause-other : goal.returns-else-eq-clause-other
returns-else-eq-clause-other c = λ _ parents.
    let same = one_parents c.args.store.now c.args.path.now c.args.node.now c.in-Some.found c.args.parents c.in-Some.ensures.value parents in
    true≢false (sym ((bytes_eq-Decides c.in-Some.found.0 c.args.parents.0).1 (ap (λ (x : Id × Id). x.0) same)) ∙ sym c.if-eq.ensures)
