use Rattle.std.proofs.Common.{sym, subst, arith}
use Rattle.std.proofs.lemmas.Result.{IfOk-weaker}
use Rattle.text_model.specs.Text.{Bytes, IsBytes}
use Rattle.text_model.proofs.ByteLemmas.{IsBytes-by_index}
use Rattle.mark_law.proofs.LineBytes.{line-bytes}
use Rattle.commit_rule.proofs.fields.line_at.Goals as goal

pub returns-clause-bytes : goal.returns-clause-bytes
returns-clause-bytes c =
    let user = c.args.user.now in
    let bytes = IsBytes-by_index user (λ i. omega (arith, c.type_inv.user i)) in
    IfOk-weaker c.line_of_user.result _ _ (λ line is. subst (λ (l : Bytes). IsBytes l) (sym is) (line-bytes user _ _ bytes)) c.line_of_user.ensures
