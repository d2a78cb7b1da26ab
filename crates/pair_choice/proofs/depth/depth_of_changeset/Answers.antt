use Rattle.std.proofs.lemmas.Result.{IfOk-weaker}
use Rattle.partner_model.specs.Partner.{OfHg, OfGit, IsHeldView}
use Rattle.pair_choice.proofs.DepthLemmas.{not-plain, peels-one}
use Rattle.pair_choice.proofs.Meets.{clear-first}
use Rattle.pair_choice.proofs.depth.depth_of_changeset.Goals as goal

pub changeset_below-requires : goal.changeset_below-requires
changeset_below-requires g c = record { over = (c.requires.unmarks.0, c.requires.unmarks.2, c.requires.unmarks.4) }

pub depth_above-requires : goal.depth_above-requires
depth_above-requires g c =
    let r = c.requires.unmarks in
    record { found = (r.0, OfGit r.2, not-plain c.args.known.now r.0 r.4.history (OfHg r.1) (OfGit r.2) r.5 r.3, c.in_ok-found.ensures.found r.0 r.2 r.4) }

pub returns-clause-depth : goal.returns-clause-depth
returns-clause-depth g c = IfOk-weaker c.depth_above.result _ _ (λ depth is-depth blocks v w unmarks over marked apart.
    let k = c.args.known.now in
    is-depth blocks over.history (OfHg v) (OfGit w) (clear-first k blocks (OfHg v) apart) (peels-one blocks (IsHeldView k.hg) (OfHg v) (OfGit w) marked unmarks)
    (not-plain k blocks over.history (OfHg v) (OfGit w) marked unmarks) (c.in_ok-found.ensures.found blocks w over)) c.depth_above.ensures.depth
