use Rattle.std.proofs.Common.{refl}
use Rattle.std.proofs.lemmas.Result.{err_from_is_err_and}
use Rattle.bridge_cli.proofs.PrintedLemmas.{print-makes, print-unfetched}
use Rattle.bridge_cli.proofs.printed.printed_work.Goals as goal

pub print-requires : goal.print-requires
print-requires g c =
    let f = c.in_ok-fetched.ensures.state in
    record { stands = (f.0, (f.1).stands) }

pub returns-in_err-bytes-clause-makes : goal.returns-in_err-bytes-clause-makes
returns-in_err-bytes-clause-makes g c = λ input.
    let p = err_from_is_err_and c.from_residual-in_err-bytes.result c.from_residual-in_err-bytes.ensures.1 in
    rw (p.1, p.2) tt

pub returns-in_err-bytes-clause-input : goal.returns-in_err-bytes-clause-input
returns-in_err-bytes-clause-input g c = λ faults.
    let p = err_from_is_err_and c.from_residual-in_err-bytes.result c.from_residual-in_err-bytes.ensures.1 in
    rw (p.1, p.2) refl

pub returns-in_err-bytes-clause-slot : goal.returns-in_err-bytes-clause-slot
returns-in_err-bytes-clause-slot g c =
    let p = err_from_is_err_and c.from_residual-in_err-bytes.result c.from_residual-in_err-bytes.ensures.1 in
    rw (p.1, p.2) c.in_ok-fetched.ensures.cause

pub returns-clause-makes : goal.returns-clause-makes
returns-clause-makes g c = λ input.
    print-makes (g.K.Slot.held c.args.slot.now) c.in_ok-fetched.fetched _ _ c.in_ok-fetched.ensures.state c.of.ensures.output c.of.ensures.text input c.args.printed c.in_ok-bytes.ensures

pub returns-in_err-fetched-clause-makes : goal.returns-in_err-fetched-clause-makes
returns-in_err-fetched-clause-makes g c = λ input.
    let p = err_from_is_err_and c.from_residual.result c.from_residual.ensures.1 in
    rw (p.1, p.2) (print-unfetched c.args.printed input (g.K.Slot.held c.args.slot.now) c.in_err-fetched.field-0.0 c.in_err-fetched.ensures.state)
