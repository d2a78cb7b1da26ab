use Rattle.std.proofs.Common.{◌≡◌, ◌↔◌, None, IsTrue, sym, ap, ◌∙◌}
use Rattle.std.proofs.lemmas.Result.{IfOk-weaker}
use Rattle.git_model.specs.Commit.{Commit}
use Rattle.git_model.specs.Unfold.{walk_fault}
use Rattle.view_model.specs.View.{CommitView}
use Rattle.git_view.proofs.Held.{commit-is_held}
use Rattle.git_dump.specs.Commits.{IsWalkableCommit}
use Rattle.git_section.proofs.Walkable.{walks, has_walk}
use Rattle.git_section.proofs.walks.has_walk.Goals as goal

pub returns-clause-has : goal.returns-clause-has
returns-clause-has c =
    let known = c.args.store.now in
    let id = c.args.id.now in
    let v = c.in-Some.commit.now in
    let root = c.commit-2.inside.tree in
    let same : root ≡ v.tree_id = ap (λ (x : Commit). x.tree_id) c.commit-2.view_is in
    let at = c.in-Some.ensures.commit in
    IfOk-weaker c.walks.result (λ passes. IsTrue passes ↔ (walk_fault known root ≡ None)) (λ has. IsTrue has ↔ ((x : CommitView) × IsWalkableCommit known id x))
    (λ passes fits. (
      λ yes. let none = fits.0 yes in walks known id v root same none (commit-is_held known c.commit.ensures.known id v at (ap (walk_fault known) (sym same) ∙ none)),
      λ is. fits.1 (has_walk known id c.commit.ensures.known is v root at same),
    ))
    c.walks.ensures.ok
