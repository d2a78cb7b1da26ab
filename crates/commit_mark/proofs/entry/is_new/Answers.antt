use Rattle.std.proofs.Common.{Option, sym, subst, ◌∙◌}
use Rattle.text_model.specs.Text.{Bytes}
use Rattle.file_rule.proofs.NewRow.{ordered}
use Rattle.hg_model.specs.FileText.{IsFile}
use Rattle.commit_mark.proofs.NewRevision.{new-by, not-by}
use Rattle.commit_mark.proofs.entry.is_new.Goals as goal

pub returns-then-has_parents : goal.returns-then-has_parents
returns-then-has_parents c = λ ps w are file entries.
    let pq_is = c.parents_over-parents.ensures ∙ (λ i. ordered (c.node_or_null.ensures i) (c.node_or_null-2.ensures i)) in
    let parts = c.args.parts.now in
    let rev = w.revision in
    let is-file = subst (λ (m : Option Bytes). IsFile m (parts.body).now) (sym are.meta) (subst (IsFile rev.meta) (sym are.body) file) in
    new-by entries.0 _ _ ps w entries.1 c.args.parts.now are c.parents_over-parents.result pq_is c.has_parents.result c.has_parents.ensures c.if-has_parents.true c.is_plain.result (c.is_plain.ensures is-file)

pub returns-else-has_parents : goal.returns-else-has_parents
returns-else-has_parents c = λ ps w are file entries.
    let pq_is = c.parents_over-parents.ensures ∙ (λ i. ordered (c.node_or_null.ensures i) (c.node_or_null-2.ensures i)) in
    rw c.if-has_parents.false (not-by entries.0 _ _ ps w entries.1 c.args.parts.now are c.parents_over-parents.result pq_is c.has_parents.result c.has_parents.ensures c.if-has_parents.false)
