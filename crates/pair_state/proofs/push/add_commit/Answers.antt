use Rattle.std.proofs.Common.{◌≡◌, List, ◌++◌, Err, sym, ap, subst, ◌∙◌}
use Rattle.std.proofs.lemmas.Result.{err_from_is_err_and, on_ok_weaker}
use Rattle.git_model.specs.Object.{Object}
use Rattle.git_store.specs.Growth.{HasGrown, Clash}
use Rattle.pair_state.proofs.GrowthLemmas.{errs}
use Rattle.pair_state.proofs.push.add_commit.Goals as goal
use Rattle.git_store.proofs.Growth.{grown-more, clash-front, clash-rest}

-- the objects that the draft gives are those it had
same-clash : (git : List Object) (a b x y rest : List Object) → a ≡ x → b ≡ y → Clash git (a ++ b ++ rest) → Clash git (x ++ y ++ rest)
same-clash git a b x y rest p q = subst (λ (l : List Object). Clash git l) (λ i. p i ++ q i ++ rest)

same-grown : (git new : List Object) (a b x y rest : List Object) → a ≡ x → b ≡ y → HasGrown git new (a ++ b ++ rest) → HasGrown git new (x ++ y ++ rest)
same-grown git new a b x y rest p q = subst (λ (l : List Object). HasGrown git new l) (λ i. p i ++ q i ++ rest)

pub returns-in_err-add_blobs-clause-collision : goal.returns-in_err-add_blobs-clause-collision
returns-in_err-add_blobs-clause-collision c = λ is.
    let d = c.args.commit in
    let given = c.into_objects-fresh in
    let p = err_from_is_err_and c.from_residual.result c.from_residual.ensures.1 in
    let clash = clash-front c.args.git.now (given.result.0 ++ given.result.1) _ (clash-front c.args.git.now given.result.0 given.result.1 (c.in_err-add_blobs.ensures.collision (errs _ _ (ap Err (sym p.2) ∙ sym p.1 ∙ is)))) in
    same-clash c.args.git.now given.result.0 given.result.1 d.fresh d.trees _ given.ensures.blobs given.ensures.trees clash

pub returns-in_err-add_trees-clause-collision : goal.returns-in_err-add_trees-clause-collision
returns-in_err-add_trees-clause-collision c = λ is.
    let d = c.args.commit in
    let given = c.into_objects-fresh in
    let p = err_from_is_err_and c.from_residual-in_err-add_trees.result c.from_residual-in_err-add_trees.ensures.1 in
    let clash = clash-front c.args.git.now (given.result.0 ++ given.result.1) _
    (clash-rest c.args.git.now c.add_blobs.new.git given.result.0 given.result.1 c.in_ok-add_blobs.ensures.ok (c.in_err-add_trees.ensures.collision (errs _ _ (ap Err (sym p.2) ∙ sym p.1 ∙ is)))) in
    same-clash c.args.git.now given.result.0 given.result.1 d.fresh d.trees _ given.ensures.blobs given.ensures.trees clash

pub returns-clause-ok : goal.returns-clause-ok
returns-clause-ok c =
    let d = c.args.commit in
    let given = c.into_objects-fresh in
    let both = grown-more c.args.git.now c.add_blobs.new.git c.add_trees.new.git given.result.0 given.result.1 c.in_ok-add_blobs.ensures.ok c.in_ok-add_trees.ensures.ok in
    on_ok_weaker c.add_object.result (λ g. same-grown c.args.git.now c.add_object.new.git given.result.0 given.result.1 d.fresh d.trees _ given.ensures.blobs given.ensures.trees
    (grown-more c.args.git.now c.add_trees.new.git c.add_object.new.git (given.result.0 ++ given.result.1) _ both g)) c.add_object.ensures.ok

pub returns-clause-collision : goal.returns-clause-collision
returns-clause-collision c = λ is.
    let d = c.args.commit in
    let given = c.into_objects-fresh in
    let both = grown-more c.args.git.now c.add_blobs.new.git c.add_trees.new.git given.result.0 given.result.1 c.in_ok-add_blobs.ensures.ok c.in_ok-add_trees.ensures.ok in
    let clash = clash-rest c.args.git.now c.add_trees.new.git (given.result.0 ++ given.result.1) _ both (c.add_object.ensures.collision is) in
    same-clash c.args.git.now given.result.0 given.result.1 d.fresh d.trees _ given.ensures.blobs given.ensures.trees clash
