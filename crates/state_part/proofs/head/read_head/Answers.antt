use Rattle.std.proofs.Common.{◌≢◌, bytes_eq, sym, ap, ◌∙◌, true≢false}
use Rattle.text_model.proofs.TestLemmas.{bytes_eq-is, bytes_eq-self}
use Rattle.state_model.specs.Text.{version}
use Rattle.state_part.proofs.StripLemmas.{stripped_none, stripped_some}
use Rattle.state_part.proofs.HeadLemmas.{before_number, no_line, no_word, no_number, another, in_force, no_other}
use Rattle.state_part.proofs.head.read_head.Goals as goal

pub returns-in_default-clause-head : goal.returns-in_default-clause-head
returns-in_default-clause-head c = no_line c.args.bytes.now c.in_default.ensures

pub returns-in_default-strip_prefix-clause-head : goal.returns-in_default-strip_prefix-clause-head
returns-in_default-strip_prefix-clause-head c =
    no_word c.args.bytes.now c.in-Some.line.now c.in-Some.rest.now c.in-Some.ensures (stripped_none before_number c.in-Some.line.now c.in_default-strip_prefix.ensures.cases)

pub returns-then-eq-clause-head : goal.returns-then-eq-clause-head
returns-then-eq-clause-head c =
    let s = c.in-Some-strip_prefix.ensures.cases in
    let number = c.in-Some-strip_prefix.number.now in
    in_force c.args.bytes.now c.in-Some.line.now c.in-Some.rest.now number c.in-Some.ensures (stripped_some before_number c.in-Some.line.now number s.0 s.1) (bytes_eq-is number version (sym c.if-eq.ensures))

pub returns-then-eq-clause-version : goal.returns-then-eq-clause-version
returns-then-eq-clause-version c =
    let s = c.in-Some-strip_prefix.ensures.cases in
    let number = c.in-Some-strip_prefix.number.now in
    no_other c.args.bytes.now c.in-Some.line.now c.in-Some.rest.now number c.in-Some.ensures (stripped_some before_number c.in-Some.line.now number s.0 s.1) (bytes_eq-is number version (sym c.if-eq.ensures))

pub returns-then-is_decimal-clause-head : goal.returns-then-is_decimal-clause-head
returns-then-is_decimal-clause-head c =
    let s = c.in-Some-strip_prefix.ensures.cases in
    let number = c.in-Some-strip_prefix.number.now in
    let other : number ≢ version = λ e. true≢false (sym (bytes_eq-self version) ∙ ap (λ n. bytes_eq n version) (sym e) ∙ sym c.if-eq.ensures) in
    another c.args.bytes.now c.in-Some.line.now c.in-Some.rest.now number c.in-Some.ensures (stripped_some before_number c.in-Some.line.now number s.0 s.1) (sym c.if-is_decimal.ensures) other

pub returns-else-is_decimal-clause-head : goal.returns-else-is_decimal-clause-head
returns-else-is_decimal-clause-head c =
    let s = c.in-Some-strip_prefix.ensures.cases in
    let number = c.in-Some-strip_prefix.number.now in
    no_number c.args.bytes.now c.in-Some.line.now c.in-Some.rest.now number c.in-Some.ensures (stripped_some before_number c.in-Some.line.now number s.0 s.1) (sym c.if-is_decimal.ensures)
