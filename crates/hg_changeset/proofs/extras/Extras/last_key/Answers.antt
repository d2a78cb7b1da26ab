use Rattle.std.proofs.Common.{◌-◌, length, Some, sym, ap, ◌∙◌, arith}
use Rattle.hg_model.specs.Changeset.{Extra, last_key}
use Rattle.hg_changeset.proofs.ItemsLemmas.{last_key-at}
use Rattle.hg_changeset.proofs.extras.Extras.last_key.Goals as goal

pub returns-in-len1-up : goal.returns-in-len1-up
returns-in-len1-up c =
    ap Some c.as_slice-in-len1-up.ensures ∙ ap (λ (e : Extra). Some e.key) (c.last.view_is ∙ c.last-item.is)
    ∙ sym (last_key-at c.as_slice.result.now (length c.as_slice.result.now - 1) c.last-item.result (omega (arith, c.in-len1-up.len_at_least)))
    ∙ ap last_key (c.as_slice.ensures.value ∙ c.self.view_is)
