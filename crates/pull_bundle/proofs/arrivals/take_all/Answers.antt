use Rattle.std.proofs.Common.{◌++◌, ap, sym, subst, ◌∙◌, List, length, arith, take, drop, take_all}
use Rattle.std.specs.Prelude.{slice_get}
use Rattle.std.proofs.lemmas.List.{length-map, take-append-drop}
use Rattle.std.proofs.lemmas.Result.{err_from_is_err_and}
use Rattle.hg_model.specs.Revision.{known_after_all}
use Rattle.hg_bundle.specs.declared.arrival.Arrival.{Arrival}
use Rattle.hg_bundle.specs.Arrivals.{arrival_of}
use Rattle.history_model.specs.Pull.{revisions_among}
use Rattle.pull_bundle.specs.Takes.{TakesArrivals}
use Rattle.pull_bundle.proofs.ArrivalLemmas.{none-taken, entry-at, comes-next, taken-next, refused-next}
use Rattle.pull_bundle.proofs.StepLemmas.{some-taken}
use Rattle.pull_bundle.proofs.arrivals.take_all.Goals as goal

pub loop-place-init : goal.loop-place-init
loop-place-init g c = record { took = λ base blocks came starts. none-taken c.args.taking base blocks starts.taking starts.saved; least = omega arith; few = omega arith }

pub take_arrival-requires : goal.take_arrival-requires
take_arrival-requires g c =
    let x = c.requires.starts in
    let i = c.loop-place.place in
    let t = c.loop-place.invariant.took x.0 x.1 x.2 x.3 in
    let e = entry-at x.2 i c.at.result.now (ap (λ (l : List Arrival). slice_get l i) (sym x.3.are) ∙ c.at.ensures) in
    record { comes = (x.1 ++ (t.takes).new, known_after_all x.0 (revisions_among (take i x.2)), e.entry, e.is, comes-next c.args.taking c.loop-place.next x.0 x.1 c.args.arrivals.now x.2 x.3 i e.entry e.at t) }

pub returns-in_err-next-clause-refused : goal.returns-in_err-next-clause-refused
returns-in_err-next-clause-refused g c =
    let p = err_from_is_err_and c.from_residual.result c.from_residual.ensures.1 in
    let i = c.loop-place.place in
    rw (p.1, p.2) (λ base blocks came starts.
    let t = c.loop-place.invariant.took base blocks came starts in
    let e = entry-at came i c.at.result.now (ap (λ (l : List Arrival). slice_get l i) (sym starts.are) ∙ c.at.ensures) in
    refused-next c.args.taking c.loop-place.next base blocks c.args.arrivals.now came starts i e.entry e.at t c.in_err-next.field-0.0
    (c.in_err-next.ensures.refused _ _ e.entry e.is (comes-next c.args.taking c.loop-place.next base blocks c.args.arrivals.now came starts i e.entry e.at t)))

pub loop-place-preserved : goal.loop-place-preserved
loop-place-preserved g c =
    let i = c.loop-place.place in record {
      took = λ base blocks came starts.
          let t = c.loop-place.invariant.took base blocks came starts in
          let e = entry-at came i c.at.result.now (ap (λ (l : List Arrival). slice_get l i) (sym starts.are) ∙ c.at.ensures) in
          taken-next c.args.taking c.loop-place.next base blocks c.args.arrivals.now came starts i e.entry e.at t c.in_ok-next.next
          (c.in_ok-next.ensures.ok _ _ e.entry e.is (comes-next c.args.taking c.loop-place.next base blocks c.args.arrivals.now came starts i e.entry e.at t));
      least = omega (arith, c.loop-place.invariant.least, c.in_ok-next.ensures.least);
      few = omega (arith, c.loop-place.invariant.few, c.in_ok-next.ensures.steps);
    }

pub returns-clause-ok : goal.returns-clause-ok
returns-clause-ok g c = λ base blocks came starts.
    subst (TakesArrivals c.args.taking c.loop-place.next base blocks)
    (take_all c.loop-place.place came (omega (arith, length-map came arrival_of, ap length starts.are, c.len-place-end.ensures, c.loop-place-test.false))) (c.loop-place.invariant.took base blocks came starts)

pub returns-in_err-next-clause-names : goal.returns-in_err-next-clause-names
returns-in_err-next-clause-names g c =
    let p = err_from_is_err_and c.from_residual.result c.from_residual.ensures.1 in
    rw (p.1, p.2) c.in_err-next.ensures.names

pub returns-in_err-next-clause-some : goal.returns-in_err-next-clause-some
returns-in_err-next-clause-some g c =
    let p = err_from_is_err_and c.from_residual.result c.from_residual.ensures.1 in
    let i = c.loop-place.place in
    rw p.1 (λ base blocks came starts.
    let t = c.loop-place.invariant.took base blocks came starts in
    some-taken c.args.taking c.loop-place.next base blocks starts.taking came (take i came) (drop i came) (sym (take-append-drop i came)) t c.args.steps.now c.loop-place.steps c.take_arrival.new.steps c.loop-place.invariant.few
    c.in_err-next.ensures.few)
