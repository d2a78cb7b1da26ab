use Rattle.std.proofs.Common.{subst, ◌∙◌}
use Rattle.std.proofs.lemmas.Result.{err_from_is_err_and}
use Rattle.text_model.specs.Text.{Bytes}
use Rattle.state_model.specs.Kept.{with_kept, empty_state}
use Rattle.saved_model.specs.Step.{OfBundle}
use Rattle.make_engine.specs.Faults.{IsRefusedFor}
use Rattle.make_engine.specs.Taken.{RefusesAlone}
use Rattle.make_engine.proofs.CountLemmas.{not-made, bundle-refused, made-stream}
use Rattle.make_engine.proofs.NameLemmas.{make-named}
use Rattle.make_engine.proofs.counts.stream_of_made.Goals as goal

pub returns-in_err-bundle-clause-refused : goal.returns-in_err-bundle-clause-refused
returns-in_err-bundle-clause-refused g c =
    let p = err_from_is_err_and c.from_residual.result c.from_residual.ensures.1 in
    rw (p.1, p.2) (not-made c.args.n c.args.seed c.in_err-bundle.field-0.0 c.in_err-bundle.ensures.fault)

pub returns-in_err-first-clause-refused : goal.returns-in_err-first-clause-refused
returns-in_err-first-clause-refused g c =
    let p = err_from_is_err_and c.from_residual-in_err-first.result c.from_residual-in_err-first.ensures.1 in
    let fault = c.in_err-first.field-0.0 in
    let is = c.deref.ensures.value ∙ c.in_ok-bundle.ensures.ok in
    rw (p.1, p.2)
    (bundle-refused c.args.n c.args.seed c.in_ok-bundle.ensures.few c.in_ok-bundle.ensures.apart fault
    (subst (λ (b : Bytes). IsRefusedFor (RefusesAlone (OfBundle b)) fault) is c.in_err-first.ensures.refused))

pub dump_git-requires : goal.dump_git-requires
dump_git-requires g c = let t = c.in_ok-first.ensures.taken in record { stands = (with_kept empty_state t.kept, t.stands) }

pub returns-clause-stream : goal.returns-clause-stream
returns-clause-stream g c =
    rw c.in_ok-joined.ensures
    (made-stream c.args.n c.args.seed c.in_ok-bundle.ensures.few c.in_ok-bundle.ensures.apart c.deref.result.now c.in_ok-stream.stream c.args.steps.now c.state_of_bundle.new.steps
    c.in_ok-first.first (c.deref.ensures.value ∙ c.in_ok-bundle.ensures.ok) c.in_ok-first.ensures.taken c.in_ok-stream.ensures)

pub returns-in_err-stream-clause-refused : goal.returns-in_err-stream-clause-refused
returns-in_err-stream-clause-refused g c =
    let p = err_from_is_err_and c.from_residual-in_err-stream.result c.from_residual-in_err-stream.ensures.1 in
    rw (p.1, p.2) tt

pub returns-in_err-joined-clause-refused : goal.returns-in_err-joined-clause-refused
returns-in_err-joined-clause-refused g c =
    let p = err_from_is_err_and c.from_residual-in_err-joined.result c.from_residual-in_err-joined.ensures.1 in
    rw (p.1, p.2) tt

pub returns-in_err-bundle-clause-names : goal.returns-in_err-bundle-clause-names
returns-in_err-bundle-clause-names g c =
    let p = err_from_is_err_and c.from_residual.result c.from_residual.ensures.1 in
    rw (p.1, p.2) (make-named c.in_err-bundle.field-0.0)

pub returns-in_err-first-clause-names : goal.returns-in_err-first-clause-names
returns-in_err-first-clause-names g c =
    let p = err_from_is_err_and c.from_residual-in_err-first.result c.from_residual-in_err-first.ensures.1 in
    rw (p.1, p.2) c.in_err-first.ensures.names

pub returns-in_err-stream-clause-names : goal.returns-in_err-stream-clause-names
returns-in_err-stream-clause-names g c =
    let p = err_from_is_err_and c.from_residual-in_err-stream.result c.from_residual-in_err-stream.ensures.1 in
    rw (p.1, p.2) tt

pub returns-in_err-joined-clause-names : goal.returns-in_err-joined-clause-names
returns-in_err-joined-clause-names g c =
    let p = err_from_is_err_and c.from_residual-in_err-joined.result c.from_residual-in_err-joined.ensures.1 in
    rw (p.1, p.2) tt
