use Rattle.std.proofs.lemmas.Result.{err_from_is_err_and}
use Rattle.name_engine.proofs.SetLemmas.{refused-long, refused-line, line-cause, set-next, set-done}
use Rattle.name_engine.proofs.NameLemmas.{input-named}
use Rattle.name_engine.proofs.set.set_names.Goals as goal

pub returns-in_err-text-clause-refused : goal.returns-in_err-text-clause-refused
returns-in_err-text-clause-refused g c =
    let p = err_from_is_err_and c.from_residual.result c.from_residual.ensures.1 in
    rw (p.1, p.2) (refused-long c.args.side c.args.state (g.S.Source.left c.args.src.now) c.in_err-text.field-0.0 c.in_err-text.ensures.long)

pub returns-in_err-text-clause-cause : goal.returns-in_err-text-clause-cause
returns-in_err-text-clause-cause g c =
    let p = err_from_is_err_and c.from_residual.result c.from_residual.ensures.1 in
    rw (p.1, p.2) c.in_err-text.ensures.cause

pub returns-in_err-names-clause-refused : goal.returns-in_err-names-clause-refused
returns-in_err-names-clause-refused g c =
    let p = err_from_is_err_and c.from_residual-in_err-names.result c.from_residual-in_err-names.ensures.1 in
    rw (p.1, p.2)
    (refused-line c.args.side c.args.state c.deref.result.now (c.in_ok-text.text).items c.deref.ensures.value c.in_ok-text.ensures.short (g.S.Source.left c.args.src.now)
    c.in_err-names.field-0.0 c.in_ok-text.ensures.bytes c.in_err-names.ensures.fault)

pub returns-in_err-names-clause-cause : goal.returns-in_err-names-clause-cause
returns-in_err-names-clause-cause g c =
    let p = err_from_is_err_and c.from_residual-in_err-names.result c.from_residual-in_err-names.ensures.1 in
    rw (p.1, p.2) (line-cause _ _ c.in_err-names.field-0.0 c.in_ok-text.ensures.cause)

pub returns-clause-set : goal.returns-clause-set
returns-clause-set g c =
    set-done c.args.side c.args.state c.deref.result.now (c.in_ok-text.text).items c.deref.ensures.value c.in_ok-text.ensures.short (g.S.Source.left c.args.src.now)
    c.in_ok-names.names c.with_names.result c.with_names.ensures c.in_ok-text.ensures.bytes c.in_ok-names.ensures.names

pub returns-clause-next : goal.returns-clause-next
returns-clause-next g c =
    set-next c.args.side c.args.state c.deref.result.now (c.in_ok-text.text).items c.deref.ensures.value c.in_ok-text.ensures.short c.in_ok-names.names c.with_names.result
    c.with_names.ensures

pub returns-in_err-text-clause-names : goal.returns-in_err-text-clause-names
returns-in_err-text-clause-names g c =
    let p = err_from_is_err_and c.from_residual.result c.from_residual.ensures.1 in
    rw (p.1, p.2) (input-named c.args.side c.in_err-text.field-0.0 c.in_err-text.ensures.names)

pub returns-in_err-names-clause-names : goal.returns-in_err-names-clause-names
returns-in_err-names-clause-names g c =
    let p = err_from_is_err_and c.from_residual-in_err-names.result c.from_residual-in_err-names.ensures.1 in
    rw (p.1, p.2) c.in_err-names.ensures.fault_names
