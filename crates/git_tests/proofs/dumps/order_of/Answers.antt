use Rattle.std.proofs.Common.{List, [], ◌∷◌, ◌++◌, sym, subst}
use Rattle.text_model.specs.Id.{Id}
use Rattle.git_model.specs.Object.{Object}
use Rattle.view_model.specs.View.{CommitView}
use Rattle.git_dump.specs.Commits.{IsWalkableCommit, AreWalkableCommits}
use Rattle.git_tests.proofs.dumps.order_of.Goals as goal

push : (known : List Object) (ids : List Id) (id : Id) (cs : List CommitView) (c : CommitView) → AreWalkableCommits known ids cs → IsWalkableCommit known id c → AreWalkableCommits known (ids ++ id ∷ []) (cs ++ c ∷ [])
push known [] id [] c are is = ((is.0, tt), (is.1, tt))
push known [] id (d ∷ cs) c are is = absurd are.0
push known (i ∷ ids) id [] c are is = absurd are.0
push known (i ∷ ids) id (d ∷ cs) c are is = let rest = push known ids id cs c (are.0.1, are.1.1) is in ((are.0.0, rest.0), (are.1.0, rest.1))

pub loop-place-init : goal.loop-place-init
loop-place-init c = ([], subst (λ (ids : List Id). AreWalkableCommits c.args.store.now ids []) (sym c.new-order.ensures) (tt, tt))

pub loop-place-preserved : goal.loop-place-preserved
loop-place-preserved c =
    let known = c.args.store.now in
    let before = c.loop-place.invariant in
    let commit = c.in_ok-check_commit.ensures in
    (before.0 ++ commit.0 ∷ [], subst (λ (ids : List Id). AreWalkableCommits known ids (before.0 ++ commit.0 ∷ [])) (sym c.in_ok-push.ensures.ok) (push known c.loop-place.order c.in_ok-id.id before.0 commit.0 before.1 commit.1))
