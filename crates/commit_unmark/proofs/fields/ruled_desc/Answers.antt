use Rattle.std.proofs.Common.{sym, subst, ◌∙◌, arith}
use Rattle.std.proofs.lemmas.Result.{IfOk-weaker}
use Rattle.text_model.specs.Text.{Bytes, IsBytes}
use Rattle.text_model.proofs.ByteLemmas.{IsBytes-by_index}
use Rattle.mark_law.proofs.LineBytes.{description-bytes}
use Rattle.commit_unmark.proofs.fields.ruled_desc.Goals as goal

pub returns-clause-bytes : goal.returns-clause-bytes
returns-clause-bytes c =
    let message = c.args.message.now in
    let bytes = description-bytes message (IsBytes-by_index message (λ i. omega (arith, c.type_inv.message i))) in
    IfOk-weaker c.of.result _ _ (λ desc is. subst (λ (d : Bytes). IsBytes d) (sym (is ∙ c.desc_of_message.ensures)) bytes) c.of.ensures
