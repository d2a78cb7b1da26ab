use Rattle.std.proofs.Common.{List, length, take_all, true≢false, ap, sym, subst, ◌∙◌, arith}
use Rattle.std.specs.Prelude.{slice_get}
use Rattle.std.proofs.lemmas.List.{length-map}
use Rattle.text_model.specs.Lists.{Each}
use Rattle.hg_model.specs.Reading as model
use Rattle.hg_bundle.specs.declared.arrival.Arrival.{Arrival}
use Rattle.hg_bundle.specs.Arrivals.{arrival_of}
use Rattle.history_model.specs.Pull.{Dangles}
use Rattle.pull_bundle.proofs.ArrivalLemmas.{entry-at}
use Rattle.pull_bundle.proofs.FirstThat.{each-next, first-at}
use Rattle.pull_bundle.proofs.left_over.first_dangling.Goals as goal

pub returns-then-dangles : goal.returns-then-dangles
returns-then-dangles c = λ blocks came state are.
    let i = c.loop-place.place in
    let e = entry-at came i c.at-arrival.result.now (ap (λ (l : List Arrival). slice_get l i) (sym are) ∙ c.at-arrival.ensures) in (
      e.entry,
      e.is,
      first-at (Dangles c.args.state.now.known.hg blocks) came i e.entry e.at (c.loop-place.invariant.none blocks came state are) ((c.dangles.ensures blocks e.entry state e.is).0 c.if-dangles.true),
    )

pub loop-place-preserved : goal.loop-place-preserved
loop-place-preserved c =
    let i = c.loop-place.place in record {
      none = λ blocks came state are.
          let e = entry-at came i c.at-arrival.result.now (ap (λ (l : List Arrival). slice_get l i) (sym are) ∙ c.at-arrival.ensures) in
          each-next (λ (a : model.Arrival). ¬ (Dangles c.args.state.now.known.hg blocks a)) came i e.entry e.at (c.loop-place.invariant.none blocks came state are)
          (λ d. true≢false (sym ((c.dangles.ensures blocks e.entry state e.is).1 d) ∙ c.if-dangles.false));
    }

pub returns : goal.returns
returns c = λ blocks came state are.
    subst (Each (λ (a : model.Arrival). ¬ (Dangles c.args.state.now.known.hg blocks a)))
    (take_all c.loop-place.place came (omega (arith, length-map came arrival_of, ap length are, c.len-place-end.ensures, c.loop-place-test.false))) (c.loop-place.invariant.none blocks came state are)
