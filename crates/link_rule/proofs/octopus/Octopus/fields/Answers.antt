use Rattle.std.proofs.Common.{◌∙◌, ◌++◌, ◌∷◌, [], List, sym, ap, subst}
use Rattle.std.specs.Prelude.{pos}
use Rattle.text_model.specs.Text.{Bytes, IsBytes}
use Rattle.hg_model.specs.Changeset.{Extra, Plain, IsDateLine}
use Rattle.link_rule.proofs.LinkDates.{one-date}
use Rattle.link_rule.proofs.octopus.Octopus.fields.Goals as goal

pub returns-clause-date : goal.returns-clause-date
returns-clause-date c =
    let value = c.keep-value.result in
    let bytes = subst IsBytes (sym c.keep-value.ensures) c.in_ok-value_into.ensures.bytes in
    let one = c.in_ok-push.ensures.ok ∙ ap (λ (es : List Extra). es ++ record { key = c.in_ok-key.key; value = value } ∷ []) c.new-extras.ensures
    ∙ ap (λ (key : Bytes). record { key = key; value = value } ∷ []) c.in_ok-key.ensures in
    subst (λ (es : List Extra). IsDateLine (Plain (pos 0) (pos 0) es)) (sym one) (one-date value bytes)
