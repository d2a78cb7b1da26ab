use Rattle.std.proofs.Common.{true, true≢false, sym, ap, subst, ◌∙◌}
use Rattle.text_model.specs.Text.{Bytes}
use Rattle.hg_store.specs.Known.{AreFileParents}
use Rattle.pair_known.specs.Rows.{RowValue}
use Rattle.file_rule.proofs.NewRow.{ordered}
use Rattle.file_rule.proofs.BackLemmas.{new-is, not-new}
use Rattle.file_rule.proofs.back.is_new.Goals as goal

pub returns-then-has_parents : goal.returns-then-has_parents
returns-then-has_parents c = λ r s w is.
    let pq_is = c.parents_over-parents.ensures ∙ (λ i. ordered (c.node_or_null.ensures i) (c.node_or_null-2.ensures i)) in
    let meta = c.has_plain_meta.ensures w (c.as_slice-then-has_parents.ensures ∙ ap (λ (x : RowValue). x.path) (c.row.view_is ∙ is.of_row)) (ap (λ (x : RowValue). x.node) (c.row.view_is ∙ is.of_row)) is.held in
    new-is c.args.store.now c.args.row.now _ _ r s w is c.parents_over-parents.result pq_is true c.has_plain_meta.result
    (λ _. subst (λ (x : RowValue). AreFileParents c.args.store.now x.path x.node c.parents_over-parents.result) c.row.view_is
    (subst (λ (x : Bytes). AreFileParents c.args.store.now x c.row.inside.node c.parents_over-parents.result) c.as_slice.ensures (c.has_parents.ensures.held c.if-has_parents.true)))
    (λ e. absurd (true≢false e)) meta.0 meta.1

pub returns-else-has_parents : goal.returns-else-has_parents
returns-else-has_parents c = λ r s w is.
    let pq_is = c.parents_over-parents.ensures ∙ (λ i. ordered (c.node_or_null.ensures i) (c.node_or_null-2.ensures i)) in
    let other = c.has_parents.ensures.other c.if-has_parents.false in
    rw c.if-has_parents.false (not-new c.args.store.now c.args.row.now _ _ r s w is c.parents_over-parents.result pq_is
    (λ held. other (subst (λ (x : Bytes). AreFileParents c.args.store.now x c.row.inside.node c.parents_over-parents.result) (sym c.as_slice.ensures)
    (subst (λ (x : RowValue). AreFileParents c.args.store.now x.path x.node c.parents_over-parents.result) (sym c.row.view_is) held))))
