use Rattle.std.proofs.Common.{subst}
use Rattle.std.proofs.lemmas.Result.{err_from_is_err_and}
use Rattle.text_model.specs.Text.{Bytes}
use Rattle.saved_model.specs.Step.{OfStream}
use Rattle.make_engine.specs.Faults.{IsRefusedFor}
use Rattle.make_engine.specs.Taken.{IsTaken, RefusesAlone}
use Rattle.make_engine.proofs.CountLemmas.{stream-refused, made-counts}
use Rattle.make_engine.proofs.counts.make_counts.Goals as goal

pub returns-in_err-stream-clause-refused : goal.returns-in_err-stream-clause-refused
returns-in_err-stream-clause-refused g c =
    let p = err_from_is_err_and c.from_residual.result c.from_residual.ensures.1 in
    rw (p.1, p.2) c.in_err-stream.ensures.refused

pub returns-in_err-second-clause-refused : goal.returns-in_err-second-clause-refused
returns-in_err-second-clause-refused g c =
    let p = err_from_is_err_and c.from_residual-in_err-second.result c.from_residual-in_err-second.ensures.1 in
    let fault = c.in_err-second.field-0.0 in
    rw (p.1, p.2)
    (stream-refused c.args.n c.args.seed c.args.steps.now c.stream_of_made.new.steps (c.in_ok-stream.stream).items c.in_ok-stream.ensures.stream fault
    (subst (λ (b : Bytes). IsRefusedFor (RefusesAlone (OfStream b)) fault) c.deref.ensures.value c.in_err-second.ensures.refused))

pub returns-clause-counts : goal.returns-clause-counts
returns-clause-counts g c =
    (made-counts c.args.n c.args.seed c.args.steps.now c.stream_of_made.new.steps c.state_of_stream.new.steps (c.in_ok-stream.stream).items (c.in_ok-lines_of.field-0).items c.in_ok-second.second
    c.in_ok-stream.ensures.stream
    (subst (λ (b : Bytes). IsTaken (OfStream b) c.stream_of_made.new.steps c.state_of_stream.new.steps c.in_ok-second.second) c.deref.ensures.value c.in_ok-second.ensures.taken) c.in_ok-lines_of.ensures).0

pub returns-clause-steps : goal.returns-clause-steps
returns-clause-steps g c =
    made-counts c.args.n c.args.seed c.args.steps.now c.stream_of_made.new.steps c.state_of_stream.new.steps (c.in_ok-stream.stream).items (c.in_ok-lines_of.field-0).items c.in_ok-second.second
    c.in_ok-stream.ensures.stream
    (subst (λ (b : Bytes). IsTaken (OfStream b) c.stream_of_made.new.steps c.state_of_stream.new.steps c.in_ok-second.second) c.deref.ensures.value c.in_ok-second.ensures.taken) c.in_ok-lines_of.ensures

pub returns-in_err-lines_of-clause-refused : goal.returns-in_err-lines_of-clause-refused
returns-in_err-lines_of-clause-refused g c =
    let p = err_from_is_err_and c.from_residual-in_err-lines_of.result c.from_residual-in_err-lines_of.ensures.1 in
    rw (p.1, p.2) tt

pub returns-in_err-stream-clause-names : goal.returns-in_err-stream-clause-names
returns-in_err-stream-clause-names g c =
    let p = err_from_is_err_and c.from_residual.result c.from_residual.ensures.1 in
    rw (p.1, p.2) c.in_err-stream.ensures.names

pub returns-in_err-second-clause-names : goal.returns-in_err-second-clause-names
returns-in_err-second-clause-names g c =
    let p = err_from_is_err_and c.from_residual-in_err-second.result c.from_residual-in_err-second.ensures.1 in
    rw (p.1, p.2) c.in_err-second.ensures.names

pub returns-in_err-lines_of-clause-names : goal.returns-in_err-lines_of-clause-names
returns-in_err-lines_of-clause-names g c =
    let p = err_from_is_err_and c.from_residual-in_err-lines_of.result c.from_residual-in_err-lines_of.ensures.1 in
    rw (p.1, p.2) tt
