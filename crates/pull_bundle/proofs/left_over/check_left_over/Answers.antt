use Rattle.std.proofs.Common.{◌++◌, inr}
use Rattle.std.proofs.lemmas.Result.{on_ok_weaker, IfErr-weaker, err_from_is_err_and}
use Rattle.text_model.specs.Fault.{DanglingLink}
use Rattle.view_model.specs.Dump.{revisions_in}
use Rattle.pair_model.specs.Block.{changesets_in}
use Rattle.pull_bundle.proofs.LeftOverLemmas.{refer-blocks, refer-more, orphan-left}
use Rattle.pull_bundle.proofs.left_over.check_left_over.Goals as goal

pub returns-in-None-clause-ok : goal.returns-in-None-clause-ok
returns-in-None-clause-ok c = on_ok_weaker c.check_orphans.result (λ ok blocks came t.
    let none = c.in-None.ensures blocks came t.state t.are in
    record {
      no_orphan = ok c.args.state.now.known.hg came (revisions_in (changesets_in blocks), t.referred, refer-blocks c.args.state.now c.args.referred blocks c.args.arrivals.now came t none) t.are;
      no_dangling = none;
    }) c.check_orphans.ensures.ok

pub returns-in-None-clause-refused : goal.returns-in-None-clause-refused
returns-in-None-clause-refused c = IfErr-weaker c.check_orphans.result _ _ (λ e due blocks came t.
    orphan-left c.args.state.now.known.hg blocks came e (due c.args.state.now.known.hg came (revisions_in (changesets_in blocks), t.referred, refer-blocks c.args.state.now c.args.referred blocks c.args.arrivals.now came t (c.in-None.ensures blocks came t.state t.are)) t.are))
    c.check_orphans.ensures.refused

pub returns-in_err-check_orphans-in-Some-clause-refused : goal.returns-in_err-check_orphans-in-Some-clause-refused
returns-in_err-check_orphans-in-Some-clause-refused c =
    let p = err_from_is_err_and c.from_residual-in_err-check_orphans-in-Some.result c.from_residual-in_err-check_orphans-in-Some.ensures.1 in
    rw (p.1, p.2) (λ blocks came t.
    let more = c.in_ok-all-in-Some.ensures blocks came (revisions_in (changesets_in blocks)) t.state t.are t.referred in
    orphan-left c.args.state.now.known.hg blocks came c.in_err-check_orphans-in-Some.field-0.0
    (c.in_err-check_orphans-in-Some.ensures.refused c.args.state.now.known.hg came (revisions_in (changesets_in blocks) ++ more.0, more.2, refer-more c.args.state.now c.args.referred blocks c.args.arrivals.now came t more.0 more.1) t.are))

pub returns-in_ok-check_orphans-in-Some-clause-refused : goal.returns-in_ok-check_orphans-in-Some-clause-refused
returns-in_ok-check_orphans-in-Some-clause-refused c = λ blocks came t.
    let more = c.in_ok-all-in-Some.ensures blocks came (revisions_in (changesets_in blocks)) t.state t.are t.referred in
    let first = c.in-Some.ensures blocks came t.state t.are in
    inr (
      c.in_ok-check_orphans-in-Some.ensures.ok c.args.state.now.known.hg came (revisions_in (changesets_in blocks) ++ more.0, more.2, refer-more c.args.state.now c.args.referred blocks c.args.arrivals.now came t more.0 more.1) t.are,
      first.0,
      first.2,
      (λ k. record { name = DanglingLink; id = (first.1 k).node; place = (first.1 k).at }),
    )
