use Rattle.std.proofs.Common.{◌≡◌, sym, ap, ◌∙◌, true}
use Rattle.text_model.specs.Text.{Bytes}
use Rattle.git_store.specs.Known.{object_with, knows_same}
use Rattle.git_store.proofs.KnownLemmas.{same-has_no_fault}
use Rattle.git_store.proofs.store.GitStore.add.Goals as goal

pub returns-then-knows_same-clause-faultless : goal.returns-then-knows_same-clause-faultless
returns-then-knows_same-clause-faultless c =
    let known = c.args.self.now in
    let same : knows_same known (object_with c.args.id c.args.kind c.args.content) ≡ true =
    sym (c.knows_same.ensures.same ∙ ap (λ (t : Bytes). knows_same known (object_with c.args.id c.args.kind t)) c.as_slice.ensures) ∙ c.if-knows_same.true in
    same-has_no_fault known c.knows_same.ensures.known (object_with c.args.id c.args.kind c.args.content) same
