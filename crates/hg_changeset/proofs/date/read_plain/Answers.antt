use Rattle.std.proofs.Common.{sym, ap, ◌∙◌, List, w64, rules}
use Rattle.std.specs.Prelude.{ℤ}
use Rattle.std.specs.Int.RustNames.{FitsSigned}
use Rattle.std.proofs.lemmas.Int.{to_z-of_z}
use Rattle.hg_model.specs.Changeset.{Extra, date_in_zone}
use Rattle.hg_changeset.proofs.DateLineLemmas.{without_extras, with_extras}
use Rattle.hg_changeset.proofs.date.read_plain.Goals as goal

pub returns-in-None : goal.returns-in-None
returns-in-None c =
    let fits : FitsSigned w64 c.in-Some-signed_of.time = search rules in
    c.date_in_zone.ensures ∙ ap (λ (t : ℤ). date_in_zone t c.in-Some.rest.now c.new.result) (to_z-of_z w64 c.in-Some-signed_of.time fits)
    ∙ ap (λ (es : List Extra). date_in_zone c.in-Some-signed_of.time c.in-Some.rest.now es) c.new.ensures
    ∙ sym (without_extras c.args.text.now c.in-Some.time.now c.in-Some.rest.now c.in-Some-signed_of.time c.in-Some.ensures c.in-Some-signed_of.ensures c.in-None.ensures)

pub returns-in-Some-2 : goal.returns-in-Some-2
returns-in-Some-2 c =
    let fits : FitsSigned w64 c.in-Some-signed_of.time = search rules in
    c.date_in_zone-in-Some-2.ensures ∙ ap (λ (t : ℤ). date_in_zone t c.in-Some-cut_at.zone.now c.in-Some-2.extras) (to_z-of_z w64 c.in-Some-signed_of.time fits)
    ∙ sym (with_extras c.args.text.now c.in-Some.time.now c.in-Some.rest.now c.in-Some-signed_of.time c.in-Some.ensures c.in-Some-signed_of.ensures
    c.in-Some-cut_at.zone.now c.in-Some-cut_at.items.now c.in-Some-2.extras c.in-Some-cut_at.ensures (sym c.in-Some-2.is ∙ c.in_ok-read-in-Some-cut_at.ensures))
