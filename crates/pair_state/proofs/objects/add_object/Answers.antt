use Rattle.std.proofs.Common.{sym, subst, ◌∷◌, [], List}
use Rattle.git_model.specs.Object.{Object}
use Rattle.git_store.specs.Faults.{IsFault}
use Rattle.git_store.specs.Known.{object_with}
use Rattle.git_store.specs.Growth.{HasGrown}
use Rattle.git_store.proofs.Growth.{one-more, one-clash, none-fault}
use Rattle.pair_state.proofs.objects.add_object.Goals as goal

pub unreachable-requires : goal.unreachable-requires
unreachable-requires c = none-fault c.args.git.now _ c.requires.fits _ (subst (IsFault _) c.in-Err-ObjectShape.field-0-is c.in-Err-ObjectShape.ensures.fault) (λ e. cc)

pub unreachable-requires-in-Err-ModeOut : goal.unreachable-requires-in-Err-ModeOut
unreachable-requires-in-Err-ModeOut c = none-fault c.args.git.now _ c.requires.fits _ (subst (IsFault _) c.in-Err-ModeOut.field-0-is c.in-Err-ModeOut.ensures.fault) (λ e. cc)

pub unreachable-requires-in-Err-NameUnfit : goal.unreachable-requires-in-Err-NameUnfit
unreachable-requires-in-Err-NameUnfit c = none-fault c.args.git.now _ c.requires.fits _ (subst (IsFault _) c.in-Err-NameUnfit.field-0-is c.in-Err-NameUnfit.ensures.fault) (λ e. cc)

pub unreachable-requires-in-Err-ParentTwice : goal.unreachable-requires-in-Err-ParentTwice
unreachable-requires-in-Err-ParentTwice c = none-fault c.args.git.now _ c.requires.fits _ (subst (IsFault _) c.in-Err-ParentTwice.field-0-is c.in-Err-ParentTwice.ensures.fault) (λ e. cc)

pub unreachable-requires-in-Err-ParentLimit : goal.unreachable-requires-in-Err-ParentLimit
unreachable-requires-in-Err-ParentLimit c = none-fault c.args.git.now _ c.requires.fits _ (subst (IsFault _) c.in-Err-ParentLimit.field-0-is c.in-Err-ParentLimit.ensures.fault) (λ e. cc)

pub returns-in-Ok-clause-ok : goal.returns-in-Ok-clause-ok
returns-in-Ok-clause-ok c =
    let o : Object = object_with c.args.id c.args.kind c.args.content in
    subst (λ (new : List Object). HasGrown c.args.git.now new (o ∷ [])) (sym c.in-Ok.ensures.ok) (one-more c.args.git.now o c.in-Ok.ensures.faultless)

pub returns-in-Err-Collision-clause-collision : goal.returns-in-Err-Collision-clause-collision
returns-in-Err-Collision-clause-collision c = λ _. one-clash c.args.git.now _ c.requires.fits (subst (IsFault _) c.in-Err-Collision.field-0-is c.in-Err-Collision.ensures.fault)
