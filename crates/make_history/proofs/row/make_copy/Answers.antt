use Rattle.std.proofs.Common.{Some, ap, subst, ◌∙◌}
use Rattle.text_model.specs.Text.{Bytes, IsBytes}
use Rattle.hg_model.specs.FileText.{file_text}
use Rattle.make_history.proofs.RowLemmas.{copy-over}
use Rattle.make_history.proofs.row.make_copy.Goals as goal

pub returns : goal.returns
returns c = λ h.
    let meta = c.as_slice.ensures ∙ c.in_ok-meta.ensures.meta in
    copy-over c.args.source.now.path c.args.source.now.node c.args.body.now c.in_ok-marked_text.field-0 h c.in_ok-meta.ensures.id
    (subst (λ (l : Bytes). IsBytes l) meta c.in_ok-marked_text.ensures.bytes.0) c.in_ok-marked_text.ensures.bytes.1
    (c.in_ok-marked_text.ensures.text ∙ ap (λ (l : Bytes). file_text (Some l) c.args.body.now) meta)
