use Rattle.std.proofs.Common.{sym, ap, subst, ◌∙◌}
use Rattle.text_model.specs.Id.{Id}
use Rattle.hg_model.specs.Changeset.{Changeset}
use Rattle.hg_changeset.specs.Values.{changeset_value}
use Rattle.hg_store.specs.Views.{IsManifestOf}
use Rattle.view_model.specs.Held.{IsManifestHeld}
use Rattle.file_rule.specs.Parents.{IsParent}
use Rattle.file_rule.proofs.ParentLemmas.{no-parent, parent-there, fields-are}
use Rattle.file_rule.proofs.parents.parent_of.Goals as goal

pub returns-then-is_null-clause-view : goal.returns-then-is_null-clause-view
returns-then-is_null-clause-view c = λ v view.
    let none = view.of_null (sym c.if-is_null.ensures) in
    subst (IsParent c.args.store.now c.parent_with.result) (sym none)
    (no-parent c.args.store.now c.parent_with.ensures.known c.parent_with.result c.parent_with.ensures.node c.parent_with.ensures.entries)

pub parent_with-requires-in-Some : goal.parent_with-requires-in-Some
parent_with-requires-in-Some c =
    let v = c.requires.known.0 in
    let held = c.requires.known.1.held (sym c.if-is_null.ensures) in
    let fields = fields-are c.args.store.now c.in-Some.ensures.known c.args.node.now c.in-Some.field-0-0 c.in-Some.field-0-1 (changeset_value c.in-Some.changeset.now) v held c.in-Some.ensures.value in
    record { held = (v.manifest, v.rows, subst (λ (x : Changeset). IsManifestHeld c.args.store.now x.manifest v.manifest v.rows) (sym fields) held.manifest) }

pub returns-clause-view : goal.returns-clause-view
returns-clause-view c = λ v view.
    let held = view.held (sym c.if-is_null.ensures) in
    let fields = fields-are c.args.store.now c.in-Some.ensures.known c.args.node.now c.in-Some.field-0-0 c.in-Some.field-0-1 (changeset_value c.in-Some.changeset.now) v held c.in-Some.ensures.value in
    parent-there c.args.store.now c.in-Some.ensures.known c.parent_with-in-Some.result c.args.node.now v held (c.parent_with-in-Some.ensures.node ∙ ap (λ (x : Changeset). x.manifest) fields)
    (subst (λ (x : Id). IsManifestOf c.args.store.now x (c.parent_with-in-Some.result.manifest).now) (sym c.parent_with-in-Some.ensures.node) c.parent_with-in-Some.ensures.entries)
