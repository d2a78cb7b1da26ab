-- What the laws ask of what is known where a history is saved.
use Rattle.std.specs.Prelude.{◌≡◌, false, List, map, IsTrue}
use Rattle.text_model.specs.Lists.{Each, In}
use Rattle.text_model.specs.Id.{Id, is_null}
use Rattle.hg_model.specs.Revision.{Revision}
use Rattle.view_model.specs.View.{ChangesetView, IsChangesetView, changeset_node}
use Rattle.view_model.specs.Held.{IsChangesetHeld}
use Rattle.pair_model.specs.Block.{Block, node_of, changesets_in}
use Rattle.partner_model.specs.Partner.{IsHeldView}
use Rattle.history_model.specs.Pull.{is_changesets}
use Rattle.state_model.specs.Kept.{Kept}
use Rattle.saved_model.specs.Step.{known_of}
use Rattle.pull_law.specs.Sound.{IsSoundState}

-- what is known says of each node a changeset of this node, and the changeset of each block is known
pub record AreRight (known : List Revision) (blocks : List Block) : Type 0 where
  pub nodes : (node : Id) (h : ChangesetView) → IsChangesetHeld known node h → changeset_node h ≡ node
  pub saved : Each (λ b. IsChangesetHeld known (node_of b) b.changeset) blocks

-- a revision that is a changeset has the node of a changeset of the blocks
abbrev pub IsFromBlocks : List Block → Revision → Type 0
IsFromBlocks blocks r = IsTrue (is_changesets r.group) → In r.node (map changeset_node (changesets_in blocks))

-- The known revisions are those of the blocks: none has the null id, each changeset of the blocks is known with all that it stands for, and no
-- other changeset is known.
pub record AreOfBlocks (known : List Revision) (blocks : List Block) : Type 0 where
  pub some : Each (λ r. is_null r.node ≡ false) known
  pub held : Each (IsHeldView known) (changesets_in blocks)
  pub only : Each (IsFromBlocks blocks) known

-- the changesets of the blocks are changesets
abbrev pub HasViews : Kept → Type 0
HasViews k = Each IsChangesetView (changesets_in k.blocks)

-- What a saved history gives: its text, once it is read, is a sound state, and holds each changeset with all that it stands for.
pub record IsSound (k : Kept) : Type 0 where
  pub state : IsSoundState (known_of k)
  pub held : Each (IsHeldView (known_of k).revisions) (changesets_in k.blocks)
