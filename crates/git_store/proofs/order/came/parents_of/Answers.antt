use Rattle.std.proofs.Common.{sym, ap, ◌∙◌}
use Rattle.git_model.specs.Commit.{Commit}
use Rattle.git_model.proofs.CommitLemmas.{parent_ids-text}
use Rattle.git_store.specs.Ancestry.{parents_in}
use Rattle.git_store.proofs.order.came.parents_of.Goals as goal

pub returns-in-Some : goal.returns-in-Some
returns-in-Some c =
    let at = c.in-Some.ensures.commit in
    c.as_slice.ensures ∙ ap (λ (x : Commit). x.parents) c.commit-in-Some.view_is ∙ sym (ap parents_in at.held ∙ parent_ids-text at.content c.in-Some.commit.now at.is)
