use Rattle.std.proofs.Common.{sym, ap, ◌∙◌, option_map}
use Rattle.std.specs.Prelude.{bytes_eq}
use Rattle.state_part.proofs.StripLemmas.{stripped_some}
use Rattle.name_model.specs.Line.{phases}
use Rattle.ref_map.specs.Values.{phase_value}
use Rattle.ref_map.proofs.PhaseLemmas.{no_word, this_node, other_node}
use Rattle.ref_map.proofs.form.phase_in.Goals as goal

pub returns-in_err-word : goal.returns-in_err-word
returns-in_err-word c =
    let a = c.in_ok-rest.ensures.cases in
    ap (option_map phase_value) c.from_residual-in_err-word.ensures
    ∙ sym (no_word c.args.name.now c.in_ok-rest.rest.now c.args.node.now (stripped_some phases c.args.name.now c.in_ok-rest.rest.now a.0 a.1) c.in_err-word.ensures)

pub returns-then-eq : goal.returns-then-eq
returns-then-eq c =
    let a = c.in_ok-rest.ensures.cases in
    c.of.ensures
    ∙ sym (this_node c.args.name.now c.in_ok-rest.rest.now c.in_ok-word.word.now c.in_ok-word.digits.now c.args.node.now
    (stripped_some phases c.args.name.now c.in_ok-rest.rest.now a.0 a.1) c.in_ok-word.ensures (ap (bytes_eq c.in_ok-word.digits.now) (sym (c.as_slice.ensures ∙ c.hex.ensures.hex)) ∙ sym c.if-eq.ensures))

pub returns-else-eq : goal.returns-else-eq
returns-else-eq c =
    let a = c.in_ok-rest.ensures.cases in
    sym (other_node c.args.name.now c.in_ok-rest.rest.now c.in_ok-word.word.now c.in_ok-word.digits.now c.args.node.now
    (stripped_some phases c.args.name.now c.in_ok-rest.rest.now a.0 a.1) c.in_ok-word.ensures (ap (bytes_eq c.in_ok-word.digits.now) (sym (c.as_slice.ensures ∙ c.hex.ensures.hex)) ∙ sym c.if-eq.ensures))
