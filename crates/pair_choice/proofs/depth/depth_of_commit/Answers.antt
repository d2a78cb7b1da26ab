use Rattle.std.proofs.lemmas.Result.{IfOk-weaker}
use Rattle.partner_model.specs.Partner.{OfHg, OfGit, IsHeldView}
use Rattle.pair_choice.proofs.DepthLemmas.{inside-of, not-plain, peels-one}
use Rattle.pair_choice.proofs.Meets.{clear-first}
use Rattle.pair_choice.proofs.depth.depth_of_commit.Goals as goal

pub commit_below-requires : goal.commit_below-requires
commit_below-requires g c =
    let r = c.requires.unmarks in
    record { inside = (r.0, r.2, inside-of c.args.known.now r.0 c.args.c.now r.1 r.3.over c.args.first.now r.2 r.3.unmarks r.3.made) }

pub depth_above-requires : goal.depth_above-requires
depth_above-requires g c =
    let k = c.args.known.now in
    let r = c.requires.unmarks in
    let inside = inside-of k r.0 c.args.c.now r.1 r.3.over c.args.first.now r.2 r.3.unmarks r.3.made in
    record { found = (r.0, OfHg r.2, not-plain k r.0 (r.3.over).history (OfGit r.1) (OfHg r.2) r.4 r.3.unmarks, c.in_ok-found.ensures.found r.0 r.2 inside) }

pub returns-clause-depth : goal.returns-clause-depth
returns-clause-depth g c = IfOk-weaker c.depth_above.result _ _ (λ depth is-depth blocks v h is marked.
    let k = c.args.known.now in
    let inside = inside-of k blocks c.args.c.now v is.over c.args.first.now h is.unmarks is.made in
    is-depth blocks (is.over).history (OfGit v) (OfHg h) (clear-first k blocks (OfGit v) (λ x. x)) (peels-one blocks (IsHeldView k.hg) (OfGit v) (OfHg h) marked is.unmarks)
    (not-plain k blocks (is.over).history (OfGit v) (OfHg h) marked is.unmarks) (c.in_ok-found.ensures.found blocks h inside)) c.depth_above.ensures.depth
