use Rattle.std.proofs.Common.{Option, Some, ap, ◌∙◌, ℕ, eqb, arith}
use Rattle.std.specs.Option.{option_eq}
use Rattle.text_model.proofs.DecimalLemmas.{decimal_test}
use Rattle.bridge_text.proofs.decimal.is_decimal_of.Goals as goal

pub returns : goal.returns
returns c = c.eq.ensures ∙ ap (λ (r : Option ℕ). option_eq eqb r (Some c.args.number)) c.decimal_of.ensures ∙ decimal_test c.args.text.now c.args.number (omega (arith, c.ranges.number.fits))
