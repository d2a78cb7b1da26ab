-- Commits that are taken into a state, one after the other.
use Rattle.std.specs.Prelude.{◌≡◌, ℕ, None, Some, List, [], ◌∷◌, ◌++◌, map, is_some, IsTrue}
use Rattle.text_model.specs.Lists.{Each}
use Rattle.text_model.specs.Text.{Bytes}
use Rattle.text_model.specs.Id.{Id, commit}
use Rattle.git_model.specs.Commit.{Commit}
use Rattle.hg_model.specs.Revision.{known_after_all}
use Rattle.git_model.specs.Unfold.{walk_fault}
use Rattle.git_store.specs.Known.{content_at, IsCommitAt}
use Rattle.view_model.specs.View.{CommitView, commit_id}
use Rattle.view_model.specs.Held.{IsCommitHeld}
use Rattle.view_model.specs.Dump.{revisions_in}
use Rattle.pair_model.specs.Block.{Block, id_of, block_of_id, changesets_in}
use Rattle.pair_known.specs.declared.git_draft.GitDraft.{GitDraft}
use Rattle.pair_known.specs.Over.{IsCommitOver}
use Rattle.history_model.specs.Pull as model
use Rattle.history_model.specs.Pull.{CommitGives, CommitsBring}
use Rattle.pair_state.specs.declared.state_parts.StateParts.{StateParts}
use Rattle.pair_state.specs.AllBlocks.{HasAllBlocks}
use Rattle.pull_outcome.specs.Steps.{AreFew}

-- a commit that is held and stands in no block, and whose parents stand in blocks
pub record TakesCommit (s : StateParts) (id : Id) (blocks : List Block) : Type 0 where
  pub state : HasAllBlocks s blocks
  pub content : Bytes
  pub held : content_at commit s.known.git id ≡ Some content
  pub parents : (v : Commit) → IsCommitAt s.known.git id v → Each (λ p. IsTrue (is_some (block_of_id blocks p))) v.parents
  pub free : block_of_id blocks id ≡ None

-- the draft stands for the commit, with all its files
pub record IsDraftFor (s : StateParts) (id : Id) (blocks : List Block) (d : GitDraft) (v : CommitView) : Type 0 where
  pub held : IsCommitHeld s.known.git id v
  pub walks : walk_fault s.known.git (v.value).tree_id ≡ None
  pub id_is : commit_id v ≡ id
  pub over : IsCommitOver s.known blocks d v

-- the block of the commit came behind the others
pub record CommitTaken (s next : StateParts) (id : Id) (blocks : List Block) (b : Block) : Type 0 where
  pub gives : CommitGives s.known.hg s.known.git blocks id b
  pub id_is : id_of b ≡ id
  pub state : HasAllBlocks next (blocks ++ b ∷ [])
  pub revisions : next.known.hg ≡ known_after_all s.known.hg (revisions_in (b.links ++ b.changeset ∷ []))
  pub objects : next.known.git ≡ s.known.git
  pub tags : next.tags ≡ s.tags
  pub names : next.names ≡ s.names

-- the same of commits one after the other
pub record CommitsTaken (s next : StateParts) (blocks : List Block) (ids : List Id) (new : List Block) : Type 0 where
  pub brings : CommitsBring s.known.hg s.known.git blocks ids new
  pub ids_are : map id_of new ≡ ids
  pub state : HasAllBlocks next (blocks ++ new)
  pub revisions : next.known.hg ≡ known_after_all s.known.hg (revisions_in (changesets_in new))
  pub objects : next.known.git ≡ s.known.git
  pub tags : next.tags ≡ s.tags
  pub names : next.names ≡ s.names

-- the first of the commits were taken, and one more was asked at most
pub record SomeTaken (s : StateParts) (m : model.State) (ordered : List Id) (before now : ℕ) : Type 0 where
  pub first : List Id
  pub others : List Id
  pub split : ordered ≡ first ++ others
  pub new : List Block
  pub brings : CommitsBring s.known.hg s.known.git m.blocks first new
  pub few : AreFew before new now
