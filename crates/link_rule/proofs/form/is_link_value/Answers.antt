use Rattle.std.proofs.Common.{◌&&◌, Bool, sym, ap, ◌∙◌}
use Rattle.std.specs.Prelude.{is_some}
use Rattle.link_rule.specs.Form.{parts_of}
use Rattle.link_rule.proofs.FormLemmas.{hex-is, counts, value-is}
use Rattle.link_rule.proofs.form.is_link_value.Goals as goal

pub returns-then-is_some : goal.returns-then-is_some
returns-then-is_some c =
    let hex = c.if-is_some.ensures ∙ ap is_some c.from_hex.ensures ∙ hex-is c.in-Some.id.now in
    c.are_counts.ensures ∙ ap (λ (b : Bool). b && counts c.in-Some.number.now c.in-Some.count.now) hex
    ∙ value-is (parts_of c.args.value.now) c.in-Some.id.now c.in-Some.number.now c.in-Some.count.now (sym c.in-Some.ensures)

pub returns-else-is_some : goal.returns-else-is_some
returns-else-is_some c =
    let hex = c.if-is_some.ensures ∙ ap is_some c.from_hex.ensures ∙ hex-is c.in-Some.id.now in
    c.if-is_some.false ∙ ap (λ (b : Bool). b && counts c.in-Some.number.now c.in-Some.count.now) hex
    ∙ value-is (parts_of c.args.value.now) c.in-Some.id.now c.in-Some.number.now c.in-Some.count.now (sym c.in-Some.ensures)
