use Rattle.std.proofs.Common.{◌<◌, ◌^◌, ◌∷◌, [], length, arith}
use Rattle.text_model.specs.Text.{lf}
use Rattle.state_part.proofs.StripLemmas.{stripped_none}
use Rattle.state_part.proofs.SectionLemmas.{too_short, no_end}
use Rattle.state_part.proofs.section.read_section.Goals as goal

pub returns-in_err-text : goal.returns-in_err-text
returns-in_err-text c =
    let long : length c.args.bytes.now < 2 ^ 64 = omega arith in
    rw c.from_residual-in_err-text.ensures (too_short c.args.word.now c.args.bytes.now c.in_ok-size.behind.now c.in_ok-size.size long c.in_ok-size.ensures c.in_err-text.ensures.cases)

pub returns-in_err-rest : goal.returns-in_err-rest
returns-in_err-rest c =
    let long : length c.args.bytes.now < 2 ^ 64 = omega arith in
    let split = c.in_ok-text.ensures.cases in
    rw c.from_residual-in_err-rest.ensures
    (no_end c.args.word.now c.args.bytes.now c.in_ok-size.behind.now c.in_ok-text.after.now c.in_ok-size.size long c.in_ok-size.ensures split.2
    (stripped_none (lf ∷ []) c.in_ok-text.after.now c.in_err-rest.ensures.cases))
