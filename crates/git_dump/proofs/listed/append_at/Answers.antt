use Rattle.std.proofs.Common.{◌++◌, sym, ap, ◌∙◌, append-nil}
use Rattle.std.proofs.lemmas.Result.{on_ok_weaker}
use Rattle.text_model.specs.Text.{Bytes}
use Rattle.git_model.specs.Object.{Object}
use Rattle.git_model.specs.Stream.{stream_text}
use Rattle.bridge_text.specs.Kinds.{object_kind}
use Rattle.git_dump.proofs.VisitLemmas.{there-is, not-there, one-text, no-text}
use Rattle.git_dump.proofs.listed.append_at.Goals as goal

pub returns-in-Some-clause-ok : goal.returns-in-Some-clause-ok
returns-in-Some-clause-ok c =
    let o : Object = record { id = c.args.id.now; kind = object_kind c.in-Some.kind; content = c.in-Some.content.now } in
    let there = there-is c.args.store.now c.args.id.now (object_kind c.in-Some.kind) c.in-Some.content.now c.in-Some.ensures.content in
    on_ok_weaker c.put_with_id.result (λ put. put ∙ ap (λ (b : Bytes). c.args.out.now ++ b) (one-text o ∙ ap stream_text (sym there))) c.put_with_id.ensures.ok

pub returns-in-None-clause-ok : goal.returns-in-None-clause-ok
returns-in-None-clause-ok c =
    sym (append-nil c.args.out.now) ∙ ap (λ (b : Bytes). c.args.out.now ++ b) (no-text ∙ ap stream_text (sym (not-there c.args.store.now c.args.id.now c.in-None.ensures.content)))
