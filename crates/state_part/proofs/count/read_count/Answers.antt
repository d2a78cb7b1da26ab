use Rattle.state_part.proofs.StripLemmas.{stripped_none, stripped_word}
use Rattle.state_part.proofs.CountLemmas.{no_word, no_end, no_number, found}
use Rattle.state_part.proofs.count.read_count.Goals as goal

pub returns-in_err-behind : goal.returns-in_err-behind
returns-in_err-behind c = rw c.from_residual.ensures (no_word c.args.word.now c.args.bytes.now (stripped_none c.args.word.now c.args.bytes.now c.in_err-behind.ensures.cases))

pub returns-in_err-digits : goal.returns-in_err-digits
returns-in_err-digits c =
    let a = c.in_ok-behind.ensures.cases in
    let b = c.in_ok-numbered.ensures.cases in
    rw c.from_residual-in_err-digits.ensures
    (no_end c.args.word.now c.args.bytes.now c.in_ok-numbered.numbered.now (stripped_word c.args.word.now c.args.bytes.now c.in_ok-behind.behind.now c.in_ok-numbered.numbered.now a.0 a.1 b.0 b.1) c.in_err-digits.ensures)

pub returns-in_err-decimal_of : goal.returns-in_err-decimal_of
returns-in_err-decimal_of c =
    let a = c.in_ok-behind.ensures.cases in
    let b = c.in_ok-numbered.ensures.cases in
    rw c.from_residual-in_err-decimal_of.ensures
    (no_number c.args.word.now c.args.bytes.now c.in_ok-numbered.numbered.now c.in_ok-digits.digits.now c.in_ok-digits.rest.now
    (stripped_word c.args.word.now c.args.bytes.now c.in_ok-behind.behind.now c.in_ok-numbered.numbered.now a.0 a.1 b.0 b.1) c.in_ok-digits.ensures c.in_err-decimal_of.ensures)

pub returns : goal.returns
returns c =
    let a = c.in_ok-behind.ensures.cases in
    let b = c.in_ok-numbered.ensures.cases in
    found c.args.word.now c.args.bytes.now c.in_ok-numbered.numbered.now c.in_ok-digits.digits.now c.in_ok-digits.rest.now c.in_ok-decimal_of.field-0
    (stripped_word c.args.word.now c.args.bytes.now c.in_ok-behind.behind.now c.in_ok-numbered.numbered.now a.0 a.1 b.0 b.1) c.in_ok-digits.ensures c.in_ok-decimal_of.ensures
