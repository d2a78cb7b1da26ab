use Rattle.std.proofs.Common.{◌∷◌, [], ◌++◌, Err, sym, ap, subst, ◌∙◌, append_assoc}
use Rattle.std.proofs.lemmas.Result.{err_from_is_err_and}
use Rattle.text_model.specs.Id.{object_id, tree}
use Rattle.git_model.specs.Object.{Object}
use Rattle.git_store.specs.Growth.{IsRight, HasGrown, Clash}
use Rattle.git_store.proofs.Growth.{grown-more}
use Rattle.pair_state.proofs.GrowthLemmas.{each-here, clash-here, errs}
use Rattle.pair_state.proofs.objects.add_trees.Goals as goal

pub add_object-requires-clause-its_id : goal.add_object-requires-clause-its_id
add_object-requires-clause-its_id c =
    let l = c.loop-tree in
    let whole = sym c.into_iter-tree-iterator.ensures.into_iter_gives.0 ∙ l.invariant.2 ∙ ap (λ r. l.yielded ++ r) c.in-Some.ensures.steps.0 in
    let right = subst IsRight (sym c.tree.view_is) (each-here IsRight c.args.trees l.yielded c.in-Some.tree _ c.requires.right (sym c.into_vec-tree-items.ensures ∙ whole)) in
    ap (object_id tree) (c.in_ok-content.ensures ∙ c.into_vec.ensures) ∙ right.0

pub loop-tree-preserved : goal.loop-tree-preserved
loop-tree-preserved c =
    let l = c.loop-tree in
    let o = c.in-Some.tree in (
      tt,
      tt,
      l.invariant.2 ∙ ap (λ r. l.yielded ++ r) c.in-Some.ensures.steps.0 ∙ sym (append_assoc l.yielded (o ∷ []) _),
      grown-more c.args.git.now l.git c.add_object.new.git l.yielded (o ∷ []) l.invariant.3
          (subst (λ (t : Object). HasGrown l.git c.add_object.new.git (t ∷ [])) ((λ i. record { id = c.tree.inside.id; kind = tree; content = (c.in_ok-content.ensures ∙ c.into_vec.ensures) i }) ∙ c.tree.view_is) c.in_ok-add_object.ensures.ok),
    )

pub returns-in_err-add_object-clause-collision : goal.returns-in_err-add_object-clause-collision
returns-in_err-add_object-clause-collision c = λ is.
    let l = c.loop-tree in
    let o = c.in-Some.tree in
    let p = err_from_is_err_and c.from_residual-in_err-add_object.result c.from_residual-in_err-add_object.ensures.1 in
    let whole = sym c.into_iter-tree-iterator.ensures.into_iter_gives.0 ∙ l.invariant.2 ∙ ap (λ r. l.yielded ++ r) c.in-Some.ensures.steps.0 in
    clash-here c.args.git.now l.git c.args.trees l.yielded o _ l.invariant.3
    (subst (λ (t : Object). Clash l.git (t ∷ [])) ((λ i. record { id = c.tree.inside.id; kind = tree; content = (c.in_ok-content.ensures ∙ c.into_vec.ensures) i }) ∙ c.tree.view_is) (c.in_err-add_object.ensures.collision (errs _ _ (ap Err (sym p.2) ∙ sym p.1 ∙ is))))
    (sym c.into_vec-tree-items.ensures ∙ whole)
