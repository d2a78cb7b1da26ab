use Rattle.std.proofs.Common.{◌≡◌, subst, arith}
use Rattle.std.proofs.lemmas.Result.{IfOk-weaker}
use Rattle.text_model.specs.Id.{blob_id}
use Rattle.view_model.specs.View.{FileRevision}
use Rattle.file_rule.specs.Made.{IsRevisionOver}
use Rattle.make_history.proofs.RowLemmas.{made-copied, made-new}
use Rattle.make_history.proofs.row.make_revision.Goals as goal

pub returns-then-number-eq0 : goal.returns-then-number-eq0
returns-then-number-eq0 c =
    let is : c.args.number ≡ 0 = omega arith in
    record {
      revision = IfOk-weaker c.make_copied.result _ _ (λ made h known ps a b.
          subst (λ (r : FileRevision). IsRevisionOver r (blob_id c.args.body.now) made.p made.q made.text) (made-copied ps c.args.number c.args.path.now c.args.body.now is) (h known ps a b)) c.make_copied.ensures.revision;
    }

pub returns : goal.returns
returns c =
    let other : c.args.number ≡ 0 → ⊥ = λ e. omega arith in
    record {
      revision = IfOk-weaker c.make_new.result _ _ (λ made h known ps a b.
          subst (λ (r : FileRevision). IsRevisionOver r (blob_id c.args.body.now) made.p made.q made.text) (made-new ps c.args.number c.args.path.now c.args.body.now other) (h known ps a b)) c.make_new.ensures;
    }
