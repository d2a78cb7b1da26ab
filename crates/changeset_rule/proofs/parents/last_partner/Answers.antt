use Rattle.std.proofs.Common.{Option, ap, sym, ◌∙◌}
use Rattle.std.specs.Prelude.{unwrap_or}
use Rattle.text_model.specs.Id.{Id, null}
use Rattle.pair_known.specs.Partners.{hg_at}
use Rattle.changeset_rule.proofs.ParentLemmas.{partner-at}
use Rattle.changeset_rule.proofs.parents.last_partner.Goals as goal

pub returns : goal.returns
returns c =
    let of = λ (id : Id). unwrap_or (hg_at c.args.partners.now id) null in
    c.unwrap_or.ensures ∙ ap (λ (o : Option Id). unwrap_or o null) c.hg_of.ensures.partner ∙ ap of c.index-ids-ids.is ∙ sym (partner-at of c.args.ids.now c.index-ids-ids.result c.if-ids-lt2.false)
