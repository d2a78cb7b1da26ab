use Rattle.std.proofs.Common.{◌++◌, Option, sym, ap, ◌∙◌, append-nil}
use Rattle.std.proofs.lemmas.Result.{on_ok_weaker}
use Rattle.text_model.specs.Text.{Bytes}
use Rattle.git_model.specs.Object.{Object}
use Rattle.git_model.specs.Stream.{stream_text}
use Rattle.bridge_text.specs.Kinds.{object_kind}
use Rattle.git_dump.specs.Walks.{object_list}
use Rattle.git_dump.proofs.VisitLemmas.{one-text, no-text}
use Rattle.git_dump.proofs.listed.append_place.Goals as goal

pub returns-in-Some-clause-ok : goal.returns-in-Some-clause-ok
returns-in-Some-clause-ok c =
    let o : Object = record { id = c.in-Some.id.now; kind = object_kind c.in-Some.kind; content = c.in-Some.content.now } in
    on_ok_weaker c.put_with_id.result
    (λ put. put ∙ ap (λ (b : Bytes). c.args.out.now ++ b) (one-text o ∙ ap (λ (found : Option Object). stream_text (object_list found)) c.in-Some.ensures.object)) c.put_with_id.ensures.ok

pub returns-in-None-clause-ok : goal.returns-in-None-clause-ok
returns-in-None-clause-ok c =
    sym (append-nil c.args.out.now) ∙ ap (λ (b : Bytes). c.args.out.now ++ b) (no-text ∙ ap (λ (found : Option Object). stream_text (object_list found)) c.in-None.ensures.object)
