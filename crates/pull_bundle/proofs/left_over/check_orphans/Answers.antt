use Rattle.std.proofs.Common.{List, length, take_all, true≢false, ap, sym, subst, ◌∙◌, arith}
use Rattle.std.specs.Prelude.{slice_get}
use Rattle.std.proofs.lemmas.List.{length-map}
use Rattle.text_model.specs.Lists.{Each}
use Rattle.text_model.specs.Fault.{Orphan}
use Rattle.hg_model.specs.Reading as model
use Rattle.hg_bundle.specs.declared.arrival.Arrival.{Arrival}
use Rattle.hg_bundle.specs.Arrivals.{arrival_of}
use Rattle.history_model.specs.Pull.{IsOrphan}
use Rattle.pull_bundle.proofs.ArrivalLemmas.{entry-at}
use Rattle.pull_bundle.proofs.FirstThat.{each-next, first-at}
use Rattle.pull_bundle.proofs.left_over.check_orphans.Goals as goal

pub returns-then-is_orphan-clause-refused : goal.returns-then-is_orphan-clause-refused
returns-then-is_orphan-clause-refused c = λ known came refers are.
    let i = c.loop-place.place in
    let e = entry-at came i c.at-arrival.result.now (ap (λ (l : List Arrival). slice_get l i) (sym are) ∙ c.at-arrival.ensures) in
    record {
      orphan = e.entry;
      first = first-at (IsOrphan known) came i e.entry e.at (c.loop-place.invariant.none known came refers are) ((c.is_orphan.ensures known e.entry refers e.is).0 c.if-is_orphan.true);
      is = (λ k. record { name = Orphan; id = (e.is k).node; place = (e.is k).at });
    }

pub loop-place-preserved : goal.loop-place-preserved
loop-place-preserved c =
    let i = c.loop-place.place in record {
      none = λ known came refers are.
          let e = entry-at came i c.at-arrival.result.now (ap (λ (l : List Arrival). slice_get l i) (sym are) ∙ c.at-arrival.ensures) in
          each-next (λ (a : model.Arrival). ¬ (IsOrphan known a)) came i e.entry e.at (c.loop-place.invariant.none known came refers are)
          (λ o. true≢false (sym ((c.is_orphan.ensures known e.entry refers e.is).1 o) ∙ c.if-is_orphan.false));
    }

pub returns-clause-ok : goal.returns-clause-ok
returns-clause-ok c = λ known came refers are.
    subst (Each (λ (a : model.Arrival). ¬ (IsOrphan known a)))
    (take_all c.loop-place.place came (omega (arith, length-map came arrival_of, ap length are, c.len-place-end.ensures, c.loop-place-test.false))) (c.loop-place.invariant.none known came refers are)
