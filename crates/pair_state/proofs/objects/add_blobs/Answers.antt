use Rattle.std.proofs.Common.{◌∷◌, [], ◌++◌, Err, sym, ap, ◌∙◌, append_assoc}
use Rattle.std.proofs.lemmas.Result.{err_from_is_err_and}
use Rattle.pair_known.specs.Fresh.{fresh_object}
use Rattle.git_store.specs.Growth.{IsRight}
use Rattle.pair_state.proofs.GrowthLemmas.{each-turn, grown-turn, clash-turn, errs}
use Rattle.pair_state.proofs.objects.add_blobs.Goals as goal

pub add_object-requires-clause-its_id : goal.add_object-requires-clause-its_id
add_object-requires-clause-its_id c =
    let l = c.loop-blob in
    let whole = sym c.into_iter-blob-iterator.ensures.into_iter_gives.0 ∙ l.invariant.2 ∙ ap (λ r. l.yielded ++ r) c.in-Some.ensures.steps.0 in
    (each-turn IsRight fresh_object c.args.blobs c.into_vec-blob-items.result.items l.yielded c.in-Some.blob _ c.requires.right c.into_vec-blob-items.ensures whole).0

pub loop-blob-preserved : goal.loop-blob-preserved
loop-blob-preserved c =
    let l = c.loop-blob in
    let o = c.in-Some.blob in (
      tt,
      tt,
      l.invariant.2 ∙ ap (λ r. l.yielded ++ r) c.in-Some.ensures.steps.0 ∙ sym (append_assoc l.yielded (o ∷ []) _),
      grown-turn fresh_object c.args.git.now l.git c.add_object.new.git l.yielded o l.invariant.3
          c.in_ok-add_object.ensures.ok,
    )

pub returns-in_err-add_object-clause-collision : goal.returns-in_err-add_object-clause-collision
returns-in_err-add_object-clause-collision c = λ is.
    let l = c.loop-blob in
    let o = c.in-Some.blob in
    let p = err_from_is_err_and c.from_residual.result c.from_residual.ensures.1 in
    let whole = sym c.into_iter-blob-iterator.ensures.into_iter_gives.0 ∙ l.invariant.2 ∙ ap (λ r. l.yielded ++ r) c.in-Some.ensures.steps.0 in
    clash-turn fresh_object c.args.git.now l.git c.args.blobs c.into_vec-blob-items.result.items l.yielded o _ l.invariant.3
    (c.in_err-add_object.ensures.collision (errs _ _ (ap Err (sym p.2) ∙ sym p.1 ∙ is)))
    c.into_vec-blob-items.ensures whole
