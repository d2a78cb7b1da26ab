use Rattle.std.proofs.Common.{◌≡◌, ◌<◌, [], length, false, true≢false, subst, sym, ◌∙◌, arith}
use Rattle.git_dump.proofs.CommitLemmas.{commit-at_place}
use Rattle.tree_sum.specs.Sums.{AreSums}
use Rattle.git_section.proofs.Walkable.{one_more}
use Rattle.git_section.proofs.walks.have_walks.Goals as goal

pub loop-id-init : goal.loop-id-init
loop-id-init c = (subst (AreSums c.args.store.now) (sym c.new-sums.ensures) tt, ([], (tt, tt)))

pub loop-id-preserved : goal.loop-id-preserved
loop-id-preserved c =
    let below : c.loop-id.id-index < length c.args.ids.now = omega (arith, c.loop-id-test.true) in (
      c.has_walk.ensures.sums,
      one_more c.args.store.now c.args.ids.now c.loop-id.id-index c.id-item.result below c.id-item.is c.loop-id.invariant.1 (c.in_ok-has_walk.ensures.has.0 (cc c.if-not-branch.false)),
    )

pub returns-then-not-branch : goal.returns-then-not-branch
returns-then-not-branch c = (
  λ t. absurd (true≢false (sym t)),
  λ all.
      let below : c.loop-id.id-index < length c.args.ids.now = omega (arith, c.loop-id-test.true) in
      let at = commit-at_place c.args.store.now c.args.ids.now all.0 all.1 c.loop-id.id-index c.id-item.result c.id-item.result below c.id-item.is in
      let no : c.in_ok-has_walk.field-0 ≡ false = cc c.if-not-branch.true in
      absurd (true≢false (sym (c.in_ok-has_walk.ensures.has.1 (at.view, at.is)) ∙ no)),
)
