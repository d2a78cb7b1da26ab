-- A state, and the history for which it stands.
use Rattle.std.specs.Prelude.{◌≡◌, ℕ, List, length, map, IsTrue}
use Rattle.text_model.specs.Lists.{Each}
use Rattle.text_model.specs.Id.{Id, has_id}
use Rattle.hg_model.specs.Revision.{Revision}
use Rattle.git_model.specs.Object.{Object}
use Rattle.git_store.specs.Known.{AreKnown}
use Rattle.tree_shape.specs.Laws.{IsKnown}
use Rattle.view_model.specs.View.{ChangesetView, Row, changeset_node}
use Rattle.view_model.specs.Held.{IsChangesetHeld}
use Rattle.pair_model.specs.Block as model
use Rattle.pair_model.specs.Block.{node_of, id_of, changesets_in}
use Rattle.pair_model.specs.Rule.{tree_row_of}
use Rattle.pair_known.specs.Blocks.{IsHistoryHeld}
use Rattle.pair_known.specs.Ruled.{blob_of_row}
use Rattle.pair_state.specs.declared.blocks.Block.{Block}
use Rattle.pair_state.specs.declared.state_parts.StateParts.{StateParts}

-- a pair, with the number of its links
pub record BlockValue : Type 0 where
  pub node : Id
  pub commit : Id
  pub links : ℕ

abbrev pub value_of : Block → BlockValue
value_of b = record { node = b.node; commit = b.commit; links = b.links }

abbrev pub block_value : model.Block → BlockValue
block_value b = record { node = node_of b; commit = id_of b; links = length b.links }

-- the blob that a file's body is
abbrev pub body_blob : Row → Object
body_blob row = blob_of_row (tree_row_of row)

-- the bodies of the files are stored blobs
abbrev pub HasBlobs : List Object → ChangesetView → Type 0
HasBlobs git v = Each (λ row. IsKnown git (body_blob row)) v.rows

-- the changeset with this node is stored, and the bodies of its files are stored blobs
pub record IsAgreed (hg : List Revision) (git : List Object) (node : Id) : Type 0 where
  pub view : ChangesetView
  pub held : IsChangesetHeld hg node view
  pub blobs : HasBlobs git view

-- The members of the blocks are stored, and these are their ids in order. The objects are sound, and each agreed changeset has bodies that are
-- stored blobs.
pub record IsStateOf (s : StateParts) (blocks : List model.Block) : Type 0 where
  pub held : IsHistoryHeld s.known blocks
  pub sound : AreKnown s.known.git
  pub blocks_are : map value_of s.blocks ≡ map block_value blocks
  pub changesets : s.changesets ≡ map changeset_node (changesets_in blocks)
  pub commits : s.commits ≡ map id_of blocks
  pub agreed : (node : Id) → IsTrue (has_id s.agreed node) → IsAgreed s.known.hg s.known.git node
