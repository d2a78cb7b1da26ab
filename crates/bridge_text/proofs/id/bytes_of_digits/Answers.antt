use Rattle.std.proofs.Common.{◌≡◌, ◌==◌, ◌*◌, length, refl, sym, ◌∙◌, arith, eqb-true}
use Rattle.std.proofs.lemmas.List.{take_all, length-set}
use Rattle.text_model.specs.Id.{bytes_of_digits}
use Rattle.text_model.proofs.TestLemmas.{both}
use Rattle.bridge_text.proofs.DigitLemmas.{length-bytes_of_digits, one_more}
use Rattle.bridge_text.proofs.id.bytes_of_digits.Goals as goal

pub loop-i-preserved : goal.loop-i-preserved
loop-i-preserved c =
    let parts = both (length c.args.text.now == 40) _ c.requires in
    let long : length c.args.text.now ≡ 40 = eqb-true (length c.args.text.now) 40 parts.0 in (
      length-set c.loop-i.bytes c.loop-i.i _ ∙ c.loop-i.invariant.0,
      one_more c.args.text.now c.loop-i.bytes c.loop-i.i _ (omega (arith, long)) (omega (arith, long, c.loop-i-test.true)) (omega (arith, c.loop-i.invariant.0, c.loop-i-test.true))
          c.loop-i.invariant.1 (rw (c.digit_value.ensures.value, c.digit_value-in-loop-i.ensures.value) refl),
    )

pub returns : goal.returns
returns c =
    let parts = both (length c.args.text.now == 40) _ c.requires in
    let long : length c.args.text.now ≡ 40 = eqb-true (length c.args.text.now) 40 parts.0 in
    let all : 2 * length (bytes_of_digits c.args.text.now) ≡ 40 = length-bytes_of_digits c.args.text.now (omega (arith, long)) ∙ long in
    let end : c.loop-i.i ≡ 20 = omega (arith, c.loop-i-test.false, c.loop-i.auto.i-end) in
    sym (take_all c.loop-i.i c.loop-i.bytes (omega (arith, end, c.loop-i.invariant.0))) ∙ c.loop-i.invariant.1 ∙ take_all c.loop-i.i (bytes_of_digits c.args.text.now) (omega (arith, end, all))
