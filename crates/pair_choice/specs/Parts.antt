-- The parts of a choice: a member with its first unmarking, and the drafts of a partner.
use Rattle.std.specs.Prelude.{◌≡◌, Bool, true, false, List, [], ◌∷◌, ◌++◌}
use Rattle.text_model.specs.Lists.{Each}
use Rattle.hg_model.specs.Changeset.{DateLine, Plain}
use Rattle.view_model.specs.View.{ChangesetView, CommitView, IsChangesetView, ChangesetFits, paths_of, has_clash}
use Rattle.pair_model.specs.Block.{Block}
use Rattle.pair_model.specs.Octopus.{links_of}
use Rattle.partner_model.specs.Partner.{UnmarksCommit, UnmarksChangeset, IsHeldView}
use Rattle.pair_known.specs.Over.{IsChangesetIn, IsCommitOver}
use Rattle.pair_known.specs.Ruled.{IsMadeChangeset}
use Rattle.changeset_unmark.specs.Drafts.{IsBuiltCommit}
use Rattle.link_rule.specs.Links.{AreLinksMade}
use Rattle.pair_known.specs.declared.known.Known.{Known}
use Rattle.pair_known.specs.declared.hg_draft.HgDraft.{HgDraft}
use Rattle.pair_known.specs.declared.git_draft.GitDraft.{GitDraft}
use Rattle.pair_known.specs.declared.hg_block.HgBlock.{HgBlock}

-- no path of the changeset lies below another, and it has no unmarking
pub record IsAlone (k : Known) (blocks : List Block) (d : HgDraft) (h : ChangesetView) : Type 0 where
  pub inside : IsChangesetIn k blocks d h
  pub no_clash : has_clash (paths_of h.rows) ≡ false
  pub none : (c : CommitView) → ¬ (UnmarksChangeset blocks (IsHeldView k.hg) h c)

-- the second draft is that of the changeset's unmarking
pub record IsUnmarkedCommit (k : Known) (blocks : List Block) (d : HgDraft) (first : GitDraft) (h : ChangesetView) (c : CommitView) : Type 0 where
  pub inside : IsChangesetIn k blocks d h
  pub unmarks : UnmarksChangeset blocks (IsHeldView k.hg) h c
  pub built : IsBuiltCommit k.git first c

-- the draft is that of the commit's unmarking
pub record IsUnmarkedChangeset (k : Known) (blocks : List Block) (d : GitDraft) (first : HgDraft) (c : CommitView) (h : ChangesetView) : Type 0 where
  pub over : IsCommitOver k blocks d c
  pub unmarks : UnmarksCommit blocks c h
  pub made : IsMadeChangeset k.hg first h

-- the drafts are those of the commit's links and of its changeset, within their limits
pub record IsBlockMade (k : Known) (blocks : List Block) (c : CommitView) (d : HgBlock) (h : ChangesetView) : Type 0 where
  pub made : IsMadeChangeset k.hg d.last h
  pub links : AreLinksMade k.hg d.links (links_of blocks c)
  pub strict : links_of blocks c ≡ [] → IsChangesetView h
  pub fits : Each ChangesetFits (links_of blocks c ++ h ∷ [])

-- the date line can be read, and has no extras
abbrev pub is_bare_date : DateLine → Bool
is_bare_date (Plain time tz []) = true
is_bare_date _ = false
