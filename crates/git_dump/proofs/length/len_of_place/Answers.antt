use Rattle.std.proofs.Common.{length, Option, Some, sym, ap, ◌∙◌}
use Rattle.text_model.specs.Text.{Bytes}
use Rattle.git_model.specs.Object.{Object}
use Rattle.git_model.specs.Stream.{stream_text}
use Rattle.bridge_text.specs.Kinds.{object_kind}
use Rattle.git_dump.specs.Walks.{object_list}
use Rattle.git_dump.proofs.VisitLemmas.{id-of-place, one-text, no-text}
use Rattle.git_dump.proofs.length.len_of_place.Goals as goal

pub returns-in-Some : goal.returns-in-Some
returns-in-Some c =
    let o : Object = record { id = c.in-Some.field-0-0.now; kind = object_kind c.in-Some.kind; content = c.as_slice.result.now } in
    let same = ap (λ (b : Bytes). Some (record { id = c.in-Some.field-0-0.now; kind = object_kind c.in-Some.kind; content = b })) c.as_slice.ensures ∙ c.in-Some.ensures.object in
    c.object_len.ensures c.in-Some.field-0-0.now (id-of-place c.args.store.now c.in-Some.ensures.known c.args.place o (sym same)) ∙ ap (λ (b : Bytes). length b) (one-text o ∙ ap (λ (found : Option Object). stream_text (object_list found)) same)

pub returns-in-None : goal.returns-in-None
returns-in-None c = ap (λ (b : Bytes). length b) (no-text ∙ ap (λ (found : Option Object). stream_text (object_list found)) c.in-None.ensures.object)
