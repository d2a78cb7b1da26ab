use Rattle.std.proofs.Common.{IsTrue, ◌↔◌, true≢false, List, sym, subst, ◌∙◌}
use Rattle.std.proofs.lemmas.Result.{IfOk-weaker}
use Rattle.view_model.specs.View.{CommitView}
use Rattle.pair_model.specs.Block.{Block}
use Rattle.pair_model.specs.Plain.{IsPlainCommit}
use Rattle.pair_known.specs.Over.{IsCommitOver}
use Rattle.plain_rule.specs.CommitHead.{IsPlainHead}
use Rattle.plain_rule.proofs.PlainCommit.{is-plain, head-by-plain}
use Rattle.plain_rule.proofs.commit.is_plain_commit.Goals as goal

pub returns-then-not-branch : goal.returns-then-not-branch
returns-then-not-branch c = λ blocks v over. (
  (λ t. absurd (true≢false (sym t))),
  (λ plain.
      let head = subst IsPlainHead over.draft.value (head-by-plain c.args.known.now blocks c.args.c.now v over plain) in
      absurd (true≢false (sym (c.in_ok-has_plain_head.ensures.1 head) ∙ c.if-not-branch.true))),
)

pub returns : goal.returns
returns c =
    let known = c.args.known.now in
    IfOk-weaker c.has_what_is_handed_on.result _ (λ t. (blocks : List Block) → (v : CommitView) → IsCommitOver known blocks c.args.c.now v → IsTrue t ↔ IsPlainCommit blocks v)
    (λ t test blocks v over.
    is-plain known blocks c.args.c.now v over c.has_what_is_handed_on.ensures.known (c.in_ok-has_plain_head.ensures.0 c.if-not-branch.false) t (test blocks v over)) c.has_what_is_handed_on.ensures.same
