use Rattle.std.proofs.Common.{ℕ, List, ap, ◌∙◌}
use Rattle.std.proofs.lemmas.Option.{same_Some, none-some}
use Rattle.std.specs.Prelude.{option_map}
use Rattle.text_model.specs.Id.{ObjectKind}
use Rattle.git_model.specs.Object.{Object}
use Rattle.pair_known.specs.Fresh.{fresh_object}
use Rattle.file_rule.proofs.RowLemmas.{brought, stored}
use Rattle.file_rule.proofs.revision.content_text.Goals as goal

pub unreachable-requires : goal.unreachable-requires
unreachable-requires c =
    let t = c.requires.held.0 in
    let s = stored c.args.c.now.fresh c.args.known.now.git t c.args.id.now c.requires.held.1 c.requires.held.2 c.in-None.ensures in
    none-some _ (c.in-None-shared_object.ensures.content ∙ ap (option_map {U = ObjectKind × List ℕ} (λ (o : Object). (o.kind, o.content))) s.1)

pub returns-in-Some : goal.returns-in-Some
returns-in-Some c = λ t is held.
    brought c.args.c.now.fresh c.args.known.now.git t c.args.id.now (fresh_object c.in-Some.blob.now) is held c.in-Some.ensures

pub returns-in-Some-shared_object : goal.returns-in-Some-shared_object
returns-in-Some-shared_object c = λ t is held.
    let s = stored c.args.c.now.fresh c.args.known.now.git t c.args.id.now is held c.in-None.ensures in
    ap (λ (p : ObjectKind × List ℕ). p.1) (same_Some _ _ (c.in-Some-shared_object.ensures.content ∙ ap (option_map {U = ObjectKind × List ℕ} (λ (o : Object). (o.kind, o.content))) s.1)) ∙ s.2
