-- A changeset or a commit over a history that is stored: what a rule for it is asked over.
use Rattle.std.specs.Prelude.{[], ◌∷◌, is_some, IsTrue, List}
use Rattle.text_model.specs.Lists.{Each}
use Rattle.view_model.specs.View.{ChangesetView, CommitView, IsChangesetView, IsCommitView}
use Rattle.pair_model.specs.Block.{Block, block_of_node, block_of_id, not_null}
use Rattle.pair_known.specs.declared.known.Known.{Known}
use Rattle.pair_known.specs.declared.hg_draft.HgDraft.{HgDraft}
use Rattle.pair_known.specs.declared.git_draft.GitDraft.{GitDraft}
use Rattle.pair_known.specs.Blocks.{IsHistoryHeld}
use Rattle.pair_known.specs.Drafts.{IsHgDraft}
use Rattle.pair_known.specs.GitDrafts.{IsGitDraft}

-- each parent of the changeset stands in a block
abbrev pub AreChangesetParentsPaired : List Block → ChangesetView → Type 0
AreChangesetParentsPaired blocks h = Each (λ p. IsTrue (is_some (block_of_node blocks p))) (not_null (h.p ∷ h.q ∷ []))

-- each parent of the commit stands in a block
abbrev pub AreCommitParentsPaired : List Block → CommitView → Type 0
AreCommitParentsPaired blocks c = Each (λ p. IsTrue (is_some (block_of_id blocks p))) (c.value).parents

-- the draft stands for this changeset, over a history that is stored
pub record IsChangesetIn (k : Known) (blocks : List Block) (d : HgDraft) (h : ChangesetView) : Type 0 where
  pub history : IsHistoryHeld k blocks
  pub draft : IsHgDraft k.hg d h
  pub view : IsChangesetView h

-- its parents stand in blocks too
pub record IsChangesetOver (k : Known) (blocks : List Block) (d : HgDraft) (h : ChangesetView) : Type 0 where
  pub inside : IsChangesetIn k blocks d h
  pub parents : AreChangesetParentsPaired blocks h

-- the draft stands for this commit, whose parents stand in blocks
pub record IsCommitOver (k : Known) (blocks : List Block) (d : GitDraft) (c : CommitView) : Type 0 where
  pub history : IsHistoryHeld k blocks
  pub draft : IsGitDraft k.git d c
  pub view : IsCommitView c
  pub parents : AreCommitParentsPaired blocks c
