use Rattle.std.proofs.Common.{sym, subst, ◌∙◌}
use Rattle.hg_store.specs.Faults.{IsFault}
use Rattle.hg_store.specs.Groups.{revision_value}
use Rattle.pair_state.proofs.CameLemmas.{fault-is, no-other, not-bad, bad-is, come-one}
use Rattle.pair_state.proofs.revisions.add_revision.Goals as goal

pub unreachable-requires : goal.unreachable-requires
unreachable-requires c = no-other c.args.hg.now (revision_value c.args.addition) c.requires.ready _ (subst (IsFault _) c.in-Err-ParentOrder.field-0-is c.in-Err-ParentOrder.ensures.fault) (λ e. cc)

pub unreachable-requires-in-Err-ParentUnknown : goal.unreachable-requires-in-Err-ParentUnknown
unreachable-requires-in-Err-ParentUnknown c = no-other c.args.hg.now (revision_value c.args.addition) c.requires.ready _ (subst (IsFault _) c.in-Err-ParentUnknown.field-0-is c.in-Err-ParentUnknown.ensures.fault) (λ e. cc)

pub unreachable-requires-in-Err-LinkUnknown : goal.unreachable-requires-in-Err-LinkUnknown
unreachable-requires-in-Err-LinkUnknown c = no-other c.args.hg.now (revision_value c.args.addition) c.requires.ready _ (subst (IsFault _) c.in-Err-LinkUnknown.field-0-is c.in-Err-LinkUnknown.ensures.fault) (λ e. cc)

pub unreachable-requires-in-Err-NodeWrong : goal.unreachable-requires-in-Err-NodeWrong
unreachable-requires-in-Err-NodeWrong c = no-other c.args.hg.now (revision_value c.args.addition) c.requires.ready _ (subst (IsFault _) c.in-Err-NodeWrong.field-0-is c.in-Err-NodeWrong.ensures.fault) (λ e. cc)

pub unreachable-requires-in-Err-ChangesetShape : goal.unreachable-requires-in-Err-ChangesetShape
unreachable-requires-in-Err-ChangesetShape c = no-other c.args.hg.now (revision_value c.args.addition) c.requires.ready _ (subst (IsFault _) c.in-Err-ChangesetShape.field-0-is c.in-Err-ChangesetShape.ensures.fault) (λ e. cc)

pub unreachable-requires-in-Err-ManifestShape : goal.unreachable-requires-in-Err-ManifestShape
unreachable-requires-in-Err-ManifestShape c = no-other c.args.hg.now (revision_value c.args.addition) c.requires.ready _ (subst (IsFault _) c.in-Err-ManifestShape.field-0-is c.in-Err-ManifestShape.ensures.fault) (λ e. cc)

pub unreachable-requires-in-Err-PathUnfit : goal.unreachable-requires-in-Err-PathUnfit
unreachable-requires-in-Err-PathUnfit c = no-other c.args.hg.now (revision_value c.args.addition) c.requires.ready _ (subst (IsFault _) c.in-Err-PathUnfit.field-0-is c.in-Err-PathUnfit.ensures.fault) (λ e. cc)

pub unreachable-requires-in-Err-FileShape : goal.unreachable-requires-in-Err-FileShape
unreachable-requires-in-Err-FileShape c = no-other c.args.hg.now (revision_value c.args.addition) c.requires.ready _ (subst (IsFault _) c.in-Err-FileShape.field-0-is c.in-Err-FileShape.ensures.fault) (λ e. cc)

pub returns-in-Ok-clause-ok : goal.returns-in-Ok-clause-ok
returns-in-Ok-clause-ok c =
    let r = revision_value c.args.addition in
    come-one c.args.hg.now c.add_hashed.new.self r c.in-Ok.ensures.ok (not-bad _ (sym (fault-is c.args.hg.now r c.requires.ready) ∙ c.in-Ok.ensures.faultless))

pub returns-in-Err-Collision-clause-collision : goal.returns-in-Err-Collision-clause-collision
returns-in-Err-Collision-clause-collision c = λ _.
    let r = revision_value c.args.addition in
    bad-is _ (sym (fault-is c.args.hg.now r c.requires.ready) ∙ subst (IsFault _) c.in-Err-Collision.field-0-is c.in-Err-Collision.ensures.fault)
