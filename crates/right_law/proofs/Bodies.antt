-- Where no object is another one of the same id, the bodies of a right history collide with none, whatever else is known.
use Rattle.std.proofs.Common.{◌≡◌, false, List, ◌++◌}
use Rattle.text_model.specs.Lists.{Each}
use Rattle.text_model.proofs.EachLemmas.{Each-weaker}
use Rattle.text_model.proofs.Elements.{in_left, in_right}
use Rattle.git_model.specs.Object.{Object}
use Rattle.view_model.specs.View.{Row, ChangesetView}
use Rattle.pair_model.specs.Block.{Block, changesets_in}
use Rattle.partner_model.specs.Partner.{OfHg}
use Rattle.partner_model.specs.Clash.{MeetsCollision, body_object}
use Rattle.state_model.specs.Saved.{has_other_content}
use Rattle.frame_law.proofs.Bodies.{HasBlob, one_of, never_collides}
use Rattle.right_law.proofs.Judged.{meets_more}

module _ (all others : List Object) (one : has_other_content (all ++ others) ≡ false) where
  more_rows : (rows : List Row) → Each (HasBlob all) rows → Each (HasBlob (all ++ others)) rows
  more_rows rows w = Each-weaker (HasBlob all) (HasBlob (all ++ others)) (λ row i. in_left (body_object row) all others i) rows w

  pub no_meeting : (before : List Block) (K : ChangesetView → Type 0) → Each (λ v. Each (HasBlob all) v.rows) (changesets_in before) → (h : ChangesetView) → Each (HasBlob all) h.rows → MeetsCollision before K others (OfHg h) → ⊥
  no_meeting before K each h w x =
      never_collides (all ++ others) (one_of (all ++ others) one) before K (Each-weaker (λ v. Each (HasBlob all) v.rows) (λ v. Each (HasBlob (all ++ others)) v.rows) (λ v rows. more_rows v.rows rows) (changesets_in before) each)
      (OfHg h) (more_rows h.rows w) (meets_more before K others (all ++ others) (OfHg h) (λ o i. in_right o all others i) x)
