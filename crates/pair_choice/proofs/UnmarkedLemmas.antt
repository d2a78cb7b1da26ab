-- The choice for a changeset that has an unmarking and marks, whose bodies don't collide.
use Rattle.std.proofs.Common.{◌≡◌, false, List, arith}
use Rattle.text_model.specs.Lists.{Each}
use Rattle.view_model.specs.View.{ChangesetView, CommitView, paths_of, has_clash}
use Rattle.pair_model.specs.Block.{Block}
use Rattle.partner_model.specs.Mark.{mark_commit}
use Rattle.partner_model.specs.Partner.{OfHg, IsHeldView, IsPlain}
use Rattle.partner_model.specs.Clash.{IsColliding}
use Rattle.changeset_unmark.specs.Drafts.{IsBuiltCommit}
use Rattle.pair_known.specs.Over.{IsChangesetOver, IsCommitOver}
use Rattle.pair_known.specs.declared.known.Known.{Known}
use Rattle.pair_known.specs.declared.hg_draft.HgDraft.{HgDraft}
use Rattle.pair_known.specs.declared.git_draft.GitDraft.{GitDraft}
use Rattle.pair_choice.specs.Bodies.{IsBodyAlone}
use Rattle.pair_choice.specs.Chosen.{ChangesetRefuses}
use Rattle.pair_choice.specs.Depths.{IsDepth}
use Rattle.pair_choice.specs.Parts.{IsUnmarkedCommit, is_bare_date}
use Rattle.pair_choice.specs.declared.depth.Depth.TheVariants.{Even, Odd, TooDeep, Collides}
use Rattle.pair_known.specs.declared.choice_fault.ChoiceFault.TheVariants.{Collision, NestLimit}
use Rattle.pair_choice.proofs.BodyLemmas.{built-of}
use Rattle.pair_choice.proofs.Collisions.{none-collide, collides}
use Rattle.pair_choice.proofs.Collisions as bodies
use Rattle.pair_choice.proofs.DepthLemmas.{over-of, none-colliding, peels-none}
use Rattle.pair_choice.proofs.Meets.{meets}
use Rattle.pair_choice.proofs.CommitLemmas.{IsChoice, not-bare, even-paired, even-choice, odd-choice}

module _ (k : Known) (blocks : List Block) (h : HgDraft) (first : GitDraft) (v : ChangesetView) (w : CommitView) (is : IsUnmarkedCommit k blocks h first v w) (marked : is_bare_date (v.fields).date ≡ false) where
  pub not-plain : ¬ (IsPlain blocks (OfHg v))
  not-plain = not-bare blocks v marked

  -- where a body isn't alone, they collide
  pub colliding : has_clash (paths_of v.rows) ≡ false → ¬ (Each (IsBodyAlone k.git first.fresh) v.rows) → ChangesetRefuses k blocks v Collision
  colliding clear not-alone = (
    clear,
    (λ on. on.1 w is.unmarks),
    meets k blocks 0 (OfHg v) (OfHg v) (omega arith) (peels-none blocks (IsHeldView k.hg) (OfHg v)) not-plain (w, is.unmarks, collides k.git first w is.built v.rows (is.unmarks).bodies not-alone),
  )

  -- so does one below
  pub collides-below : has_clash (paths_of v.rows) ≡ false → IsDepth k blocks (OfHg v) Collides → ChangesetRefuses k blocks v Collision
  collides-below clear depth = (clear, (λ on. on.1 w is.unmarks), depth)

  module _ (alone : Each (IsBodyAlone k.git first.fresh) v.rows) where
    pub over : (d : GitDraft) → IsBuiltCommit k.git d w → IsCommitOver k blocks d w
    over d built = over-of k blocks h v is.inside (bodies.apart-of k.git first.fresh v.rows alone) d w is.unmarks built

    pub asked : IsCommitOver k blocks first w
    asked = over first is.built

    pub none : ¬ (IsColliding blocks (IsHeldView k.hg) k.git (OfHg v))
    none = none-colliding k blocks v (none-collide k.git first.fresh v.rows alone)

    pub even-over : IsDepth k blocks (OfHg v) Even → IsChangesetOver k blocks h v
    even-over depth = record { inside = is.inside; parents = even-paired k blocks (is.inside).history v w is.unmarks depth.0 depth.1 depth.2.0 }

    pub even : IsDepth k blocks (OfHg v) Even → IsChoice k blocks v (mark_commit blocks v)
    even depth = even-choice k blocks (is.inside).history v (is.inside).view w is.unmarks depth.3 depth.0 depth.1 depth.2.0 depth.2.1

    pub odd : IsDepth k blocks (OfHg v) Odd → IsChoice k blocks v w
    odd depth = odd-choice k blocks (is.inside).history v w is.unmarks depth.3 (λ d ruled. over d (built-of k.git d w ruled.made)) depth.0 depth.1 depth.2.0 depth.2.1

    pub deep : has_clash (paths_of v.rows) ≡ false → IsDepth k blocks (OfHg v) TooDeep → ChangesetRefuses k blocks v NestLimit
    deep clear depth = (clear, (λ on. on.1 w is.unmarks), depth.1, depth.0)
