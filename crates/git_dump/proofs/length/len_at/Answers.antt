use Rattle.std.proofs.Common.{length, sym, ap, ◌∙◌}
use Rattle.text_model.specs.Text.{Bytes}
use Rattle.git_model.specs.Object.{Object}
use Rattle.git_model.specs.Stream.{stream_text}
use Rattle.bridge_text.specs.Kinds.{object_kind}
use Rattle.git_dump.proofs.VisitLemmas.{there-is, id-there, not-there, one-text, no-text}
use Rattle.git_dump.proofs.length.len_at.Goals as goal

pub returns-in-Some : goal.returns-in-Some
returns-in-Some c =
    let o : Object = record { id = c.args.id.now; kind = object_kind c.in-Some.kind; content = c.in-Some.content.now } in
    let there = there-is c.args.store.now c.args.id.now (object_kind c.in-Some.kind) c.in-Some.content.now c.in-Some.ensures.content in
    c.object_len.ensures c.args.id.now (id-there c.args.store.now c.in-Some.ensures.known c.args.id.now (object_kind c.in-Some.kind) c.in-Some.content.now c.in-Some.ensures.content) ∙ ap (λ (b : Bytes). length b) (one-text o ∙ ap stream_text (sym there))

pub returns-in-None : goal.returns-in-None
returns-in-None c = ap (λ (b : Bytes). length b) (no-text ∙ ap stream_text (sym (not-there c.args.store.now c.args.id.now c.in-None.ensures.content)))
