use Rattle.std.proofs.Common.{sym, ◌∙◌}
use Rattle.std.proofs.lemmas.Result.{err_from_is_err_and}
use Rattle.git_store.specs.Known.{object_with}
use Rattle.git_store.proofs.KnownLemmas.{fresh-fault, other-fault, fault-first}
use Rattle.git_store.proofs.store.GitStore.parse_other.Goals as goal

pub returns-in_err-parsed-clause-fault : goal.returns-in_err-parsed-clause-fault
returns-in_err-parsed-clause-fault c =
    let p = err_from_is_err_and c.from_residual.result c.from_residual.ensures.1 in
    rw (p.1, p.2) (fault-first c.args.self.now (object_with c.args.id.now c.args.kind c.args.content.now) c.in_err-parsed.field-0.0 c.in_err-parsed.ensures.fault)

pub returns-then-knows-clause-fault : goal.returns-then-knows-clause-fault
returns-then-knows-clause-fault c =
    other-fault c.args.self.now c.knows.ensures.known (object_with c.args.id.now c.args.kind c.args.content.now) c.in_ok-parsed.ensures.fits c.requires.other (sym c.knows.ensures.there ∙ c.if-knows.true)

pub returns-clause-faultless : goal.returns-clause-faultless
returns-clause-faultless c =
    fresh-fault c.args.self.now c.knows.ensures.known (object_with c.args.id.now c.args.kind c.args.content.now) c.in_ok-parsed.ensures.fits (sym c.knows.ensures.there ∙ c.if-knows.false)
