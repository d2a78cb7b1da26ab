use Rattle.std.proofs.Common.{[], ◌∷◌, refl, sym, ap, subst}
use Rattle.std.proofs.lemmas.Result.{on_ok_weaker}
use Rattle.hg_model.specs.Revision as model
use Rattle.hg_store.specs.Groups.{group_value}
use Rattle.hg_dump.specs.State.{Steps}
use Rattle.hg_dump.proofs.MeetLemmas.{steps-changesets, steps-manifests, steps-files}
use Rattle.hg_dump.proofs.brought.Brought.refer.Goals as goal

pub returns-in-Changesets : goal.returns-in-Changesets
returns-in-Changesets c =
    let a = c.args.self.now in
    let b = record a { changesets = c.refer.new.self } in
    let is = ap group_value c.in-Changesets.is in
    on_ok_weaker c.refer.result
    (λ own. subst (λ (g : model.Group). Steps c.args.is_new (record { group = g; node = c.args.node.now; link = c.args.link.now } ∷ []) a b) (sym is)
    (steps-changesets c.args.is_new c.args.node.now c.args.link.now a b own refl (λ path. refl)))
    c.refer.ensures

pub returns-in-Manifests : goal.returns-in-Manifests
returns-in-Manifests c =
    let a = c.args.self.now in
    let b = record a { manifests = c.refer-in-Manifests.new.self } in
    let is = ap group_value c.in-Manifests.is in
    on_ok_weaker c.refer-in-Manifests.result
    (λ own. subst (λ (g : model.Group). Steps c.args.is_new (record { group = g; node = c.args.node.now; link = c.args.link.now } ∷ []) a b) (sym is)
    (steps-manifests c.args.is_new c.args.node.now c.args.link.now a b own refl (λ path. refl)))
    c.refer-in-Manifests.ensures

pub returns-in-FilesAt : goal.returns-in-FilesAt
returns-in-FilesAt c =
    let a = c.args.self.now in
    let b = record a { files = c.refer_file.new.files } in
    let is = ap group_value c.in-FilesAt.is in
    on_ok_weaker c.refer_file.result
    (λ own. subst (λ (g : model.Group). Steps c.args.is_new (record { group = g; node = c.args.node.now; link = c.args.link.now } ∷ []) a b) (sym is)
    (steps-files c.args.is_new c.args.node.now c.args.link.now a b c.in-FilesAt.path.now refl refl own))
    c.refer_file.ensures
