use Rattle.std.proofs.Common.{sym, ap, ◌∙◌}
use Rattle.text_model.specs.Id.{tree}
use Rattle.git_model.specs.Object.{Object}
use Rattle.git_store.specs.Known.{knows_same}
use Rattle.bridge_text.specs.Kinds.{object_kind}
use Rattle.state_audit.proofs.KeptFiles.{same-found, same-none}
use Rattle.state_audit.proofs.kept.is_stored.Goals as goal

pub returns-in-Some : goal.returns-in-Some
returns-in-Some c =
    let own : Object = record { id = c.made.inside.id; kind = tree; content = c.made.inside.content } in
    c.is_tree.ensures
    ∙ same-found c.args.git.now own (object_kind c.in-Some.kind) c.in-Some.content.now c.content-in-Some.result.now (c.content-in-Some.ensures ∙ ap (λ (o : Object). o.content) (sym c.made.view_is)) c.in-Some.ensures.content
    ∙ ap (knows_same c.args.git.now) c.made.view_is

pub returns-in-None : goal.returns-in-None
returns-in-None c = same-none c.args.git.now (record { id = c.made.inside.id; kind = tree; content = c.made.inside.content }) c.in-None.ensures.content ∙ ap (knows_same c.args.git.now) c.made.view_is
