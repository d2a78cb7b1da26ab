-- What the choice of a partner answers.
use Rattle.std.specs.Prelude.{◌≡◌, ◌≢◌, false, List, [], ◌∷◌, ◌++◌, IsTrue, ⊤}
use Rattle.text_model.specs.Lists.{Each}
use Rattle.view_model.specs.View.{ChangesetView, CommitView, IsChangesetView, ChangesetFits, CommitFits, paths_of, has_clash, HasBodiesOf}
use Rattle.pair_model.specs.Block.{Block}
use Rattle.pair_model.specs.Octopus.{is_link_view, links_of}
use Rattle.partner_model.specs.Partner.{OfHg, OfGit, IsHeldView}
use Rattle.partner_model.specs.Given.{IsCommitFor, IsChangesetFor, IsOnLink, IsTooDeep}
use Rattle.partner_model.specs.Clash.{MeetsCollision}
use Rattle.link_rule.specs.Links.{AreLinksMade}
use Rattle.pair_known.specs.Over.{IsCommitOver}
use Rattle.pair_known.specs.Ruled.{IsRuledCommit, IsMadeChangeset}
use Rattle.pair_known.specs.declared.known.Known.{Known}
use Rattle.pair_known.specs.declared.git_draft.GitDraft.{GitDraft}
use Rattle.pair_known.specs.declared.hg_block.HgBlock.{HgBlock}
use Rattle.pair_known.specs.declared.choice_fault.ChoiceFault.{ChoiceFault}
use Rattle.pair_known.specs.declared.choice_fault.ChoiceFault.TheVariants.{PathClash, ParentIsLink, NestLimit, PairLimit, Collision, Memory}

-- The partner of the changeset, and that none of the refusals is due. The draft of a commit with links stands for it, so that its links can be asked.
pub record IsChosenCommit (k : Known) (blocks : List Block) (h : ChangesetView) (d : GitDraft) (c : CommitView) : Type 0 where
  pub partner : IsCommitFor blocks (IsHeldView k.hg) h c
  pub ruled : IsRuledCommit k.git d c
  pub bodies : HasBodiesOf h.rows c.rows
  pub over : links_of blocks c ≢ [] → IsCommitOver k blocks d c
  pub no_clash : has_clash (paths_of h.rows) ≡ false
  pub on_no_link : ¬ (IsOnLink blocks (IsHeldView k.hg) h)
  pub apart : ¬ (MeetsCollision blocks (IsHeldView k.hg) k.git (OfHg h))
  pub not_deep : ¬ (IsTooDeep blocks (IsHeldView k.hg) (OfHg h))

-- the links and the partner of the commit, and that none of the refusals is due
pub record IsChosenBlock (k : Known) (blocks : List Block) (c : CommitView) (d : HgBlock) (h : ChangesetView) : Type 0 where
  pub partner : IsChangesetFor blocks (IsHeldView k.hg) c h
  pub made : IsMadeChangeset k.hg d.last h
  pub links : AreLinksMade k.hg d.links (links_of blocks c)
  pub strict : links_of blocks c ≡ [] → IsChangesetView h
  pub no_link : is_link_view h ≡ false
  pub fits : Each ChangesetFits (links_of blocks c ++ h ∷ [])
  pub apart : ¬ (MeetsCollision blocks (IsHeldView k.hg) k.git (OfGit c))
  pub not_deep : ¬ (IsTooDeep blocks (IsHeldView k.hg) (OfGit c))

-- why a changeset has no partner; each fault denies the ones before it
abbrev pub ChangesetRefuses : Known → List Block → ChangesetView → ChoiceFault → Type 0
ChangesetRefuses k blocks h PathClash = IsTrue (has_clash (paths_of h.rows))
ChangesetRefuses k blocks h ParentIsLink = (has_clash (paths_of h.rows) ≡ false) × IsOnLink blocks (IsHeldView k.hg) h
ChangesetRefuses k blocks h Collision =
    (has_clash (paths_of h.rows) ≡ false) × (¬ (IsOnLink blocks (IsHeldView k.hg) h)) × MeetsCollision blocks (IsHeldView k.hg) k.git (OfHg h)
ChangesetRefuses k blocks h NestLimit =
    (has_clash (paths_of h.rows) ≡ false) × (¬ (IsOnLink blocks (IsHeldView k.hg) h)) × (¬ (MeetsCollision blocks (IsHeldView k.hg) k.git (OfHg h)))
    × IsTooDeep blocks (IsHeldView k.hg) (OfHg h)
ChangesetRefuses k blocks h PairLimit =
    (has_clash (paths_of h.rows) ≡ false) × (¬ (IsOnLink blocks (IsHeldView k.hg) h)) × (¬ (MeetsCollision blocks (IsHeldView k.hg) k.git (OfHg h)))
    × (¬ (IsTooDeep blocks (IsHeldView k.hg) (OfHg h))) × (c : CommitView) × IsCommitFor blocks (IsHeldView k.hg) h c × (¬ (CommitFits c))
ChangesetRefuses k blocks h Memory = ⊤

-- why a commit has no block; each fault denies the ones before it
abbrev pub CommitRefuses : Known → List Block → CommitView → ChoiceFault → Type 0
CommitRefuses k blocks c Collision = MeetsCollision blocks (IsHeldView k.hg) k.git (OfGit c)
CommitRefuses k blocks c NestLimit = (¬ (MeetsCollision blocks (IsHeldView k.hg) k.git (OfGit c))) × IsTooDeep blocks (IsHeldView k.hg) (OfGit c)
CommitRefuses k blocks c PairLimit =
    (¬ (MeetsCollision blocks (IsHeldView k.hg) k.git (OfGit c))) × (¬ (IsTooDeep blocks (IsHeldView k.hg) (OfGit c)))
    × (h : ChangesetView) × IsChangesetFor blocks (IsHeldView k.hg) c h × (¬ (Each ChangesetFits (links_of blocks c ++ h ∷ [])))
CommitRefuses k blocks c Memory = ⊤
CommitRefuses k blocks c other = ⊥
