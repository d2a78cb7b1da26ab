use Rattle.std.proofs.Common.{true≢false, refl, sym, ap, subst, ◌∙◌, length, arith, take_all}
use Rattle.text_model.specs.Lists.{Each}
use Rattle.text_model.proofs.Elements.{each_in}
use Rattle.view_model.specs.View.{ChangesetFits}
use Rattle.commit_rule.proofs.ListLemmas.{get-at, each-more}
use Rattle.pair_choice.proofs.LimitLemmas.{IsWithin, link-at, links-fit}
use Rattle.pair_choice.proofs.within.links_fit.Goals as goal

pub returns-then-not-branch : goal.returns-then-not-branch
returns-then-not-branch c = λ known views added are.
    let at = get-at c.args.links.now c.as_slice-link-items.result.now c.loop-link.link-index c.link-item.result c.as_slice-link-items.ensures c.loop-link-test.true c.link-item.is in
    let made = link-at known c.args.links.now views are c.loop-link.link-index c.link-item.result at in (
      λ t. absurd (true≢false (sym t)),
      λ all. absurd (true≢false (sym ((c.in_ok-changeset_fits.ensures known made.0 added made.2).1 (each_in ChangesetFits views made.0 all made.1)) ∙ c.if-not-branch.true)),
    )

pub loop-link-preserved : goal.loop-link-preserved
loop-link-preserved c =
    let at = get-at c.args.links.now c.as_slice-link-items.result.now c.loop-link.link-index c.link-item.result c.as_slice-link-items.ensures c.loop-link-test.true c.link-item.is in
    each-more IsWithin c.args.links.now c.loop-link.link-index c.link-item.result at c.loop-link.invariant (λ known l added made. (c.in_ok-changeset_fits.ensures known l added made).0 c.if-not-branch.false)

pub returns : goal.returns
returns c = λ known views added are.
    let each = subst (Each IsWithin) (take_all c.loop-link.link-index c.args.links.now (omega (arith, ap length c.as_slice-link-items.ensures, c.loop-link-test.false))) c.loop-link.invariant in
    (λ _. links-fit known c.args.links.now views added are each, λ _. refl)
