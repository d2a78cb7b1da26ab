use Rattle.std.proofs.Common.{sym, subst, ◌∙◌}
use Rattle.std.proofs.lemmas.Result.{IfOk-weaker}
use Rattle.text_model.specs.Id.{Id, blob_id}
use Rattle.view_model.specs.View.{Row}
use Rattle.file_rule.specs.Parents.{row_with}
use Rattle.file_rule.specs.Made.{IsMadeRow, IsRevisionOver}
use Rattle.make_model.specs.History.{made_revision}
use Rattle.make_history.proofs.RowLemmas.{over-text}
use Rattle.make_history.proofs.row.make_row.Goals as goal

pub row_with_text-requires : goal.row_with_text-requires
row_with_text-requires c =
    let p = c.requires.parents in
    record { text = over-text _ _ _ _ _ (c.in_ok-made.ensures.revision c.args.store.now p.0 p.1 p.2) }

pub returns-clause-row : goal.returns-clause-row
returns-clause-row c = IfOk-weaker c.row_with_text.result _ _ (λ made h ps a b.
    let path = c.as_slice.ensures ∙ c.in_ok-path.ensures in
    let body = c.as_slice-2.ensures ∙ c.in_ok-body.ensures in
    let r = made_revision ps c.args.numbers.now.copied c.as_slice.result.now c.as_slice-2.result.now in
    subst (λ (x : Row). IsMadeRow c.args.store.now made x) (λ i. row_with (c.in_ok-path.ensures i) (c.mode_of.ensures i) (made_revision ps c.args.numbers.now.copied (path i) (body i)))
    (h r (subst (λ (b : Id). IsRevisionOver r b c.in_ok-made.made.p c.in_ok-made.made.q c.in_ok-made.made.text) ((λ i. blob_id ((c.as_slice-2.ensures ∙ sym c.as_slice-3.ensures) i)) ∙ sym c.object_id.ensures)
    (c.in_ok-made.ensures.revision c.args.store.now ps a b)))) c.row_with_text.ensures.ok
