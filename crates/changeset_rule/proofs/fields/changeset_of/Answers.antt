use Rattle.std.proofs.Common.{◌∙◌, sym, ap, subst, arith}
use Rattle.text_model.specs.Text.{Bytes, IsBytes}
use Rattle.text_model.proofs.ByteLemmas.{IsBytes-by_index}
use Rattle.pair_model.specs.User.{UserDate}
use Rattle.mark_law.proofs.LineBytes.{user-bytes, description-bytes}
use Rattle.changeset_rule.proofs.fields.changeset_of.Goals as goal

pub returns-clause-user : goal.returns-clause-user
returns-clause-user c =
    let bytes = IsBytes-by_index c.args.author.now (λ i. omega (arith, c.type_inv.author i)) in
    subst (λ (l : Bytes). IsBytes l) (sym (ap (λ (x : UserDate). x.user) (c.author.view_is ∙ c.in_ok-author.ensures))) (user-bytes c.args.author.now bytes)

pub returns-clause-desc : goal.returns-clause-desc
returns-clause-desc c =
    let bytes = IsBytes-by_index c.args.message.now (λ i. omega (arith, c.type_inv.message i)) in
    subst (λ (l : Bytes). IsBytes l) (sym (c.in_ok-of.ensures ∙ c.desc_of_message.ensures)) (description-bytes c.args.message.now bytes)
