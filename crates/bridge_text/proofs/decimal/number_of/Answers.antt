use Rattle.std.proofs.Common.{◌≡◌, ◌^◌, sym, ap, ◌∙◌, refl, arith, lt-ltb, take_all}
use Rattle.text_model.specs.Text.{number_of}
use Rattle.text_model.proofs.DecimalLemmas.{number_of-passes}
use Rattle.bridge_text.proofs.decimal.number_of.Goals as goal

pub returns-in_err-checked_mul : goal.returns-in_err-checked_mul
returns-in_err-checked_mul c =
    let past = number_of-passes c.args.digits.now c.loop-digit.digit-index (2 ^ 64) c.loop-digit-test.true (omega (arith, c.loop-digit.invariant.number, c.in_err-checked_mul.ensures)) in
    c.from_residual.ensures ∙ sym (rw past refl)

pub returns-in_err-number : goal.returns-in_err-number
returns-in_err-number c =
    let past = number_of-passes c.args.digits.now c.loop-digit.digit-index (2 ^ 64) c.loop-digit-test.true (omega (arith, c.loop-digit.invariant.number, c.in_err-number.ensures, c.from.ensures, c.in_ok-checked_mul.ensures.1)) in
    c.from_residual-in_err-number.ensures ∙ sym (rw past refl)

pub returns : goal.returns
returns c =
    let whole : c.loop-digit.number ≡ number_of c.args.digits.now =
    c.loop-digit.invariant.number ∙ ap number_of (take_all c.loop-digit.digit-index c.args.digits.now c.loop-digit-test.false) in
    rw (← whole, lt-ltb c.loop-digit.number (2 ^ 64) c.loop-digit.invariant.fits) refl
