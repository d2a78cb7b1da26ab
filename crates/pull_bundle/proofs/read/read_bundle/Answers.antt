use Rattle.std.proofs.Common.{List, Ok, Err, refl, sym, subst, ap, ◌∙◌}
use Rattle.std.specs.Prelude.{IfSome}
use Rattle.std.proofs.lemmas.Result.{err_from_is_err_and}
use Rattle.hg_model.specs.Revision.{Revision, known_after_all}
use Rattle.hg_store.specs.Known.{AreAdded}
use Rattle.hg_bundle.specs.Arrivals.{Reads, revisions_of}
use Rattle.pull_bundle.proofs.ReadLemmas.{grown-fresh, has-read, told, fault-refused, fault-cause, fault-names}
use Rattle.pull_bundle.proofs.read.read_bundle.Goals as goal

pub returns-clause-read : goal.returns-clause-read
returns-clause-read g c =
    let came = c.in_ok-store.ensures.grown in (
      came.0,
      has-read c.args.state _ c.in_ok-store.store (revisions_of came.0)
          (record { known = refl; blocks = refl; changesets = refl; commits = refl; tags = refl; names = refl; agreed = refl })
          (came.2 ∙ ap (λ (l : List Revision). known_after_all l (revisions_of came.0)) c.replace-store.ensures.value) (λ are. c.in_ok-store.ensures.added (subst AreAdded (sym c.replace-store.ensures.value) are)) c.in_ok-store.arrivals came.0 came.1 refl
          (grown-fresh _ _ c.in_ok-store.store c.in_ok-store.arrivals came c.replace-store.ensures.value),
    )

pub returns-clause-told : goal.returns-clause-told
returns-clause-told g c =
    told (g.S.Source.left c.args.src.now) c.args.state _ c.in_ok-store.store c.in_ok-store.arrivals
    (record { known = refl; blocks = refl; changesets = refl; commits = refl; tags = refl; names = refl; agreed = refl }) (λ are. c.in_ok-store.ensures.added (subst AreAdded (sym c.replace-store.ensures.value) are))
    (grown-fresh _ _ c.in_ok-store.store c.in_ok-store.arrivals c.in_ok-store.ensures.grown c.replace-store.ensures.value)
    (subst (λ (l : List Revision). IfSome (g.S.Source.left c.args.src.now) (λ bytes. Reads l bytes (Ok (c.in_ok-store.store, c.in_ok-store.arrivals)))) c.replace-store.ensures.value c.in_ok-store.ensures.reads)

pub returns-in_err-store-clause-refused : goal.returns-in_err-store-clause-refused
returns-in_err-store-clause-refused g c =
    let p = err_from_is_err_and c.from_residual.result c.from_residual.ensures.1 in
    rw (p.1, p.2) (fault-refused (g.S.Source.left c.args.src.now) c.args.state.known.hg c.in_err-store.field-0.0
    (subst (λ (l : List Revision). IfSome (g.S.Source.left c.args.src.now) (λ bytes. Reads l bytes (Err c.in_err-store.field-0.0))) c.replace-store.ensures.value c.in_err-store.ensures.reads))

pub returns-in_err-store-clause-cause : goal.returns-in_err-store-clause-cause
returns-in_err-store-clause-cause g c =
    let p = err_from_is_err_and c.from_residual.result c.from_residual.ensures.1 in
    rw (p.1, p.2) (fault-cause _ _ c.in_err-store.field-0.0 c.in_err-store.ensures.cause)

pub returns-in_err-store-clause-names : goal.returns-in_err-store-clause-names
returns-in_err-store-clause-names g c =
    let p = err_from_is_err_and c.from_residual.result c.from_residual.ensures.1 in
    rw (p.1, p.2) (fault-names c.in_err-store.field-0.0 c.in_err-store.ensures.names)
