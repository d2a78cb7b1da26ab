use Rattle.std.proofs.Common.{◌≡◌, true, subst}
use Rattle.hg_model.specs.Revision.{is_known_parent}
use Rattle.hg_store.specs.declared.group.Group.{Group}
use Rattle.hg_store.specs.Groups.{group_value, revision_value}
use Rattle.hg_store.proofs.NewerLemmas.{parent-known, parent-has_text}
use Rattle.hg_store.proofs.store.HgStore.near.Goals as goal

pub unreachable-requires : goal.unreachable-requires
unreachable-requires c =
    let a = c.args.addition.now in
    let known = subst (λ (group : Group). is_known_parent c.args.self.now (group_value group) a.p ≡ true) c.in-Manifests.is (parent-known c.args.self.now (revision_value a) c.requires.parents) in
    parent-has_text c.args.self.now a.p known c.in-None.ensures.value
