use Rattle.std.proofs.Common.{sym, ap, option_map, ◌∙◌}
use Rattle.std.specs.Prelude.{is_some}
use Rattle.text_model.proofs.Options.{some_mapped}
use Rattle.link_rule.proofs.FormLemmas.{one, two, three, four}
use Rattle.link_rule.proofs.parts.three_parts.Goals as goal

pub returns-in_err-first : goal.returns-in_err-first
returns-in_err-first c = ap (option_map _) c.from_residual.ensures ∙ sym (one c.args.value.now (sym c.in_err-first.ensures))

pub returns-in_err-second : goal.returns-in_err-second
returns-in_err-second c =
    ap (option_map _) c.from_residual-in_err-second.ensures
    ∙ sym (two c.args.value.now c.in_ok-first.first.now c.in_ok-first.rest.now (sym c.in_ok-first.ensures) (sym c.in_err-second.ensures))

pub returns-then-is_some : goal.returns-then-is_some
returns-then-is_some c =
    let some = ap is_some (sym c.cut_at-3.ensures) ∙ some_mapped _ c.cut_at-3.result ∙ sym c.if-is_some.ensures in
    sym (four c.args.value.now c.in_ok-first.first.now c.in_ok-first.rest.now c.in_ok-second.second.now c.in_ok-second.third.now (sym c.in_ok-first.ensures) (sym c.in_ok-second.ensures) some)

pub returns : goal.returns
returns c =
    let none = ap is_some (sym c.cut_at-3.ensures) ∙ some_mapped _ c.cut_at-3.result ∙ sym c.if-is_some.ensures in
    sym (three c.args.value.now c.in_ok-first.first.now c.in_ok-first.rest.now c.in_ok-second.second.now c.in_ok-second.third.now (sym c.in_ok-first.ensures) (sym c.in_ok-second.ensures) none)
