-- The first objects of a store in one text, and one object more.
use Rattle.std.proofs.Common.{◌≡◌, ◌≤◌, [], ◌∷◌, ◌++◌, List, Option, Some, None, IfSome, length, take, length-append, arith, sym, ap, subst, ◌∙◌}
use Rattle.std.proofs.lemmas.List.{take-append-le}
use Rattle.git_model.specs.Object.{Object}
use Rattle.git_model.specs.Stream.{stream_text}
use Rattle.git_store.specs.declared.written.Written.{Written}
use Rattle.git_store.specs.Written.{IsWritten}

still-written : (known new : List Object) (o : Object) (w : Written) → new ≡ known ++ o ∷ [] → IsWritten known w → IsWritten new w
still-written known new o w is written = subst (λ (l : List Object). IsWritten l w) (sym is) (record {
  count = omega (arith, written.count, length-append known (o ∷ []));
  text = written.text ∙ ap stream_text (sym (take-append-le w.count known (o ∷ []) written.count));
})

pub written-push : (known new : List Object) (o : Object) (w : Option Written) → new ≡ known ++ o ∷ [] → IfSome w (IsWritten known) → IfSome w (IsWritten new)
written-push known new o None is written = tt
written-push known new o (Some w) is written = still-written known new o w is written
