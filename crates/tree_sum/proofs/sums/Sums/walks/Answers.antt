use Rattle.std.proofs.Common.{◌≡◌, ◌↔◌, Bool, None, IsTrue, sym, subst}
use Rattle.git_model.specs.Unfold.{walk_fault}
use Rattle.tree_sum.proofs.Keeping.{whole-answer}
use Rattle.tree_sum.proofs.sums.Sums.walks.Goals as goal

pub returns-then-passes-clause-ok : goal.returns-then-passes-clause-ok
returns-then-passes-clause-ok c =
    subst (λ (b : Bool). IsTrue b ↔ (walk_fault c.args.store.now c.args.root.now ≡ None)) (sym c.is_some-passes.ensures)
    (whole-answer c.args.store.now c.args.root.now c.in_ok-sum.sum c.in_ok-sum.ensures.objects c.in_ok-sum.ensures.ok)

pub returns-else-passes-clause-ok : goal.returns-else-passes-clause-ok
returns-else-passes-clause-ok c =
    subst (λ (b : Bool). IsTrue b ↔ (walk_fault c.args.store.now c.args.root.now ≡ None)) (sym c.is_some-passes.ensures)
    (whole-answer c.args.store.now c.args.root.now c.in_ok-sum.sum c.in_ok-sum.ensures.objects c.in_ok-sum.ensures.ok)
