use Rattle.std.proofs.Common.{◌≡◌, ◌++◌, true≢false, Some, sym, ap, subst, ◌∙◌}
use Rattle.text_model.specs.Text.{Bytes}
use Rattle.text_model.proofs.Options.{none_some}
use Rattle.git_model.specs.Commit.{IsCommit, commit_fault, commit_text}
use Rattle.git_model.proofs.CommitLemmas.{commit_fault-text}
use Rattle.git_model.proofs.OneTextLemmas.{one_commit}
use Rattle.git_object.specs.Faults.{IsCommitFault}
use Rattle.changeset_unmark.proofs.head.is_commit.Goals as goal

pub returns-in-Ok : goal.returns-in-Ok
returns-in-Ok c =
    let own : c.as_slice.result.now ≡ commit_text c.args.commit.now = c.as_slice.ensures.value ∙ c.in_ok-write_into.ensures.ok ∙ ap (λ (front : Bytes). front ++ commit_text c.args.commit.now) c.new-text.ensures.items in (
      (λ t. subst IsCommit (c.is_same.ensures.0 t) c.in-Ok.ensures.ok.0),
      (λ is. c.is_same.ensures.1 (one_commit c.as_slice.result.now c.in-Ok.found c.args.commit.now c.in-Ok.ensures.ok (is, own))),
    )

pub returns-in-Err-Shape : goal.returns-in-Err-Shape
returns-in-Err-Shape c =
    let own : c.as_slice.result.now ≡ commit_text c.args.commit.now = c.as_slice.ensures.value ∙ c.in_ok-write_into.ensures.ok ∙ ap (λ (front : Bytes). front ++ commit_text c.args.commit.now) c.new-text.ensures.items in
    let fault : commit_fault c.as_slice.result.now ≡ Some c.in-Err-Shape.field-0-0 = subst (IsCommitFault c.as_slice.result.now) c.in-Err-Shape.field-0-is c.in-Err-Shape.ensures.fault in (
      (λ t. absurd (true≢false (sym t))),
      (λ is. absurd (none_some (sym (commit_fault-text c.as_slice.result.now c.args.commit.now (is, own)) ∙ fault))),
    )
