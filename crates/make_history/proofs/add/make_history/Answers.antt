use Rattle.std.proofs.Common.{◌≡◌, ◌∙◌, sym, ap, arith}
use Rattle.std.proofs.lemmas.Result.{err_from_is_err_and}
use Rattle.make_model.specs.Numbers as model
use Rattle.make_model.specs.Numbers.{numbers_from, state_before}
use Rattle.make_history.specs.Made.{numbers_value}
use Rattle.make_history.proofs.HistoryLemmas.{state-none, state-next, made-none, next-fault}
use Rattle.make_history.proofs.add.make_history.Goals as goal

pub loop-number-init : goal.loop-number-init
loop-number-init c = record {
  made = made-none c.args.seed _ c.new.ensures c.new-2.ensures;
  state = sym (state-none c.args.seed);
}

pub returns-in_err-add_next-clause-fault : goal.returns-in_err-add_next-clause-fault
returns-in_err-add_next-clause-fault c =
    let e = err_from_is_err_and c.from_residual.result c.from_residual.ensures.1 in
    let value : numbers_value c.numbers_from-numbers.result ≡ numbers_from (state_before c.args.seed c.loop-number.number) = c.numbers_from-numbers.ensures.value ∙ ap numbers_from c.loop-number.invariant.state in
    rw (e.1, e.2) (next-fault c.args.seed c.args.n c.loop-number.number c.in_err-add_next.field-0.0 (omega arith) c.requires.few (c.in_err-add_next.ensures.fault c.args.seed c.loop-number.invariant.made value))

pub loop-number-preserved : goal.loop-number-preserved
loop-number-preserved c =
    let value : numbers_value c.numbers_from-numbers.result ≡ numbers_from (state_before c.args.seed c.loop-number.number) = c.numbers_from-numbers.ensures.value ∙ ap numbers_from c.loop-number.invariant.state in
    record {
      made = c.in_ok-add_next.ensures.ok c.args.seed c.loop-number.invariant.made value;
      state = ap (λ (x : model.Numbers). x.state) value ∙ sym (state-next c.args.seed c.loop-number.number);
    }
