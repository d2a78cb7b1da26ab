use Rattle.std.proofs.Common.{subst, arith}
use Rattle.std.proofs.lemmas.Result.{IfOk-weaker}
use Rattle.partner_model.specs.Partner.{IsHeldView}
use Rattle.partner_law.proofs.Choices.{peels_on}
use Rattle.pair_choice.specs.Depths.{IsUnmarking}
use Rattle.pair_choice.specs.declared.unmark.Unmarking.{Unmarking}
use Rattle.pair_choice.proofs.DepthLemmas.{depth-is, not-plain}
use Rattle.pair_choice.proofs.Meets.{clear-more, meets}
use Rattle.pair_choice.proofs.depth.depth_above.Goals as goal

pub returns-in-Nothing-clause-depth : goal.returns-in-Nothing-clause-depth
returns-in-Nothing-clause-depth g c = λ blocks history top m clear peels marked is.
    depth-is c.args.known.now blocks history 1 top m (omega arith) clear peels (subst (λ (u : Unmarking). IsUnmarking c.args.known.now blocks m u) c.in-Nothing.is is)

pub returns-in-Collision-clause-depth : goal.returns-in-Collision-clause-depth
returns-in-Collision-clause-depth g c = λ blocks history top m clear peels marked is.
    meets c.args.known.now blocks 1 top m (omega arith) peels marked (subst (λ (u : Unmarking). IsUnmarking c.args.known.now blocks m u) c.in-Collision.is is)

pub depth_over-requires : goal.depth_over-requires
depth_over-requires g c =
    let f = subst (λ (u : Unmarking). IsUnmarking c.args.known.now c.requires.found.0 c.requires.found.1 u) c.in-Found.is c.requires.found.3 in
    record { over = (c.requires.found.0, f.0, f.2) }

pub returns-in-Found-clause-depth : goal.returns-in-Found-clause-depth
returns-in-Found-clause-depth g c = IfOk-weaker c.depth_over.result _ _ (λ depth is-depth blocks history top m clear peels marked is.
    let k = c.args.known.now in
    let f = subst (λ (u : Unmarking). IsUnmarking k blocks m u) c.in-Found.is is in
    is-depth blocks top f.0 (clear-more k blocks history 1 top m clear peels f.3) (peels_on blocks (IsHeldView k.hg) 1 top m f.0 peels marked f.1)
    (not-plain k blocks history m f.0 marked f.1) f.2) c.depth_over.ensures.depth
