use Rattle.std.proofs.Common.{Some}
use Rattle.std.proofs.lemmas.Result.{err_from_is_err_and}
use Rattle.bridge_cli.proofs.NamedLemmas.{saved-of, set-done, set-unfetched, set-refuses, set-cause, set-slot}
use Rattle.bridge_cli.proofs.names.names_of_text.Goals as goal

pub text_of-requires : goal.text_of-requires
text_of-requires g c =
    let f = c.in_ok-state.ensures.state in
    record { stands = c.in_ok-next.ensures.next f.0 (saved-of c.in_ok-state.state f.0 f.1) }

pub returns-in_err-next-clause-makes : goal.returns-in_err-next-clause-makes
returns-in_err-next-clause-makes g c =
    let p = err_from_is_err_and c.from_residual-in_err-next.result c.from_residual-in_err-next.ensures.1 in
    rw (p.1, p.2)
    (set-refuses c.args.side (g.I.Source.left c.args.input.now) (g.K.Slot.held c.args.slot.now) c.in_ok-state.state c.in_err-next.field-0.0 c.in_ok-state.ensures.state c.in_err-next.ensures.names c.in_err-next.ensures.refused)

pub returns-in_err-next-clause-input : goal.returns-in_err-next-clause-input
returns-in_err-next-clause-input g c =
    let p = err_from_is_err_and c.from_residual-in_err-next.result c.from_residual-in_err-next.ensures.1 in
    rw (p.1, p.2) (set-cause _ _ c.in_err-next.field-0.0 c.in_err-next.ensures.cause)

pub returns-in_err-next-clause-slot : goal.returns-in_err-next-clause-slot
returns-in_err-next-clause-slot g c =
    let p = err_from_is_err_and c.from_residual-in_err-next.result c.from_residual-in_err-next.ensures.1 in
    rw (p.1, p.2) (set-slot _ _ c.in_err-next.field-0.0 c.in_ok-state.ensures.cause)

pub returns-in_err-state-clause-makes : goal.returns-in_err-state-clause-makes
returns-in_err-state-clause-makes g c =
    let p = err_from_is_err_and c.from_residual.result c.from_residual.ensures.1 in
    rw (p.1, p.2) (set-unfetched c.args.side (g.I.Source.left c.args.input.now) (g.K.Slot.held c.args.slot.now) c.in_err-state.field-0.0 c.in_err-state.ensures.state)

pub returns-clause-makes : goal.returns-clause-makes
returns-clause-makes g c =
    set-done c.args.side (g.I.Source.left c.args.input.now) _ (g.K.Slot.held c.args.slot.now) c.in_ok-state.state c.in_ok-next.next (record { output = c.new.result; text = Some c.in_ok-text.text }) c.in_ok-next.ensures.end c.new.ensures
    c.in_ok-state.ensures.state c.in_ok-next.ensures.set c.in_ok-text.ensures

pub returns-in_err-text-clause-makes : goal.returns-in_err-text-clause-makes
returns-in_err-text-clause-makes g c =
    let p = err_from_is_err_and c.from_residual-in_err-text.result c.from_residual-in_err-text.ensures.1 in
    rw (p.1, p.2) tt

pub returns-in_err-text-clause-input : goal.returns-in_err-text-clause-input
returns-in_err-text-clause-input g c =
    let p = err_from_is_err_and c.from_residual-in_err-text.result c.from_residual-in_err-text.ensures.1 in
    rw (p.1, p.2) c.in_ok-next.ensures.cause

pub returns-in_err-text-clause-slot : goal.returns-in_err-text-clause-slot
returns-in_err-text-clause-slot g c =
    let p = err_from_is_err_and c.from_residual-in_err-text.result c.from_residual-in_err-text.ensures.1 in
    rw (p.1, p.2) c.in_ok-state.ensures.cause
