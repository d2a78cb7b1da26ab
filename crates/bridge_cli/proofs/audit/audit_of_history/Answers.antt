use Rattle.std.proofs.Common.{refl}
use Rattle.std.proofs.lemmas.Result.{err_from_is_err_and}
use Rattle.bridge_cli.proofs.AuditLemmas.{audit-makes, audit-differs, audit-steps}
use Rattle.bridge_cli.proofs.audit.audit_of_history.Goals as goal

pub returns-in_err-found-clause-makes : goal.returns-in_err-found-clause-makes
returns-in_err-found-clause-makes g c = λ input.
    let p = err_from_is_err_and c.from_residual-in_err-found.result c.from_residual-in_err-found.ensures.1 in
    rw (p.1, p.2) tt

pub returns-in_err-found-clause-input : goal.returns-in_err-found-clause-input
returns-in_err-found-clause-input g c = λ faults.
    let p = err_from_is_err_and c.from_residual-in_err-found.result c.from_residual-in_err-found.ensures.1 in
    rw (p.1, p.2) refl

pub returns-in_err-found-clause-slot : goal.returns-in_err-found-clause-slot
returns-in_err-found-clause-slot g c =
    let p = err_from_is_err_and c.from_residual-in_err-found.result c.from_residual-in_err-found.ensures.1 in
    rw (p.1, p.2) c.in_ok-state.ensures.cause

pub returns-in_err-found-clause-steps : goal.returns-in_err-found-clause-steps
returns-in_err-found-clause-steps g c = λ input.
    audit-steps (g.K.Slot.held c.args.slot.now) c.in_ok-state.state _ _ c.in_ok-state.ensures.state c.verify.ensures.steps.0 c.verify.ensures.steps.1 input

pub returns-in_err-verified_count-in-Holds-clause-makes : goal.returns-in_err-verified_count-in-Holds-clause-makes
returns-in_err-verified_count-in-Holds-clause-makes g c = λ input.
    let p = err_from_is_err_and c.from_residual-in_err-verified_count-in-Holds.result c.from_residual-in_err-verified_count-in-Holds.ensures.1 in
    rw (p.1, p.2) tt

pub returns-in_err-verified_count-in-Holds-clause-input : goal.returns-in_err-verified_count-in-Holds-clause-input
returns-in_err-verified_count-in-Holds-clause-input g c = λ faults.
    let p = err_from_is_err_and c.from_residual-in_err-verified_count-in-Holds.result c.from_residual-in_err-verified_count-in-Holds.ensures.1 in
    rw (p.1, p.2) refl

pub returns-in_err-verified_count-in-Holds-clause-slot : goal.returns-in_err-verified_count-in-Holds-clause-slot
returns-in_err-verified_count-in-Holds-clause-slot g c =
    let p = err_from_is_err_and c.from_residual-in_err-verified_count-in-Holds.result c.from_residual-in_err-verified_count-in-Holds.ensures.1 in
    rw (p.1, p.2) c.in_ok-state.ensures.cause

pub returns-in_err-verified_count-in-Holds-clause-steps : goal.returns-in_err-verified_count-in-Holds-clause-steps
returns-in_err-verified_count-in-Holds-clause-steps g c = λ input.
    audit-steps (g.K.Slot.held c.args.slot.now) c.in_ok-state.state _ _ c.in_ok-state.ensures.state c.verify.ensures.steps.0 c.verify.ensures.steps.1 input

pub returns-in-Holds-clause-makes : goal.returns-in-Holds-clause-makes
returns-in-Holds-clause-makes g c = λ input.
    audit-makes (g.K.Slot.held c.args.slot.now) c.in_ok-state.state c.of_bytes.result c.in_ok-verified_count-in-Holds.field-0 c.in_ok-found.found c.in-Holds.blocks c.in_ok-state.ensures.state c.in_ok-found.ensures.holds c.in-Holds.is
    c.in_ok-verified_count-in-Holds.ensures c.of_bytes.ensures.output c.of_bytes.ensures.text input

pub returns-in-Holds-clause-steps : goal.returns-in-Holds-clause-steps
returns-in-Holds-clause-steps g c = λ input.
    audit-steps (g.K.Slot.held c.args.slot.now) c.in_ok-state.state _ _ c.in_ok-state.ensures.state c.verify.ensures.steps.0 c.verify.ensures.steps.1 input

pub returns-clause-makes : goal.returns-clause-makes
returns-clause-makes g c = λ input.
    audit-differs (g.K.Slot.held c.args.slot.now) c.in_ok-state.state c.in_ok-found.found c.in-Differs.kept c.in-Differs.right c.in_ok-state.ensures.state c.in_ok-found.ensures.differs c.in-Differs.is input

pub returns-clause-steps : goal.returns-clause-steps
returns-clause-steps g c = λ input.
    audit-steps (g.K.Slot.held c.args.slot.now) c.in_ok-state.state _ _ c.in_ok-state.ensures.state c.verify.ensures.steps.0 c.verify.ensures.steps.1 input
