-- States to each of whose revisions the history refers.
use Rattle.std.specs.Prelude.{Bool, is_some, List, IsTrue}
use Rattle.text_model.specs.Lists.{Each}
use Rattle.text_model.specs.Id.{Id}
use Rattle.hg_model.specs.Revision.{Revision, knows}
use Rattle.view_model.specs.Dump.{revisions_in}
use Rattle.pair_model.specs.Block.{Block, changesets_in, view_at}
use Rattle.history_model.specs.Pull as model
use Rattle.pair_state.specs.declared.state_parts.StateParts.{StateParts}
use Rattle.pair_state.specs.Blocks.{IsStateOf}

-- the state in the words of the model
abbrev pub state_value : StateParts → List Block → model.State
state_value s blocks = record { revisions = s.known.hg; objects = s.known.git; blocks = blocks }

-- the node is that of a block's changeset or of one of its links
abbrev pub stands_in : List Block → Id → Bool
stands_in blocks node = is_some (view_at (changesets_in blocks) node)

-- One of the changesets of the blocks, links too, refers to the revision: it is the changeset, its manifest, or the revision of one of its files.
abbrev pub is_referred : List Block → Revision → Bool
is_referred blocks r = knows (revisions_in (changesets_in blocks)) r.group r.node

-- the state stands for this history, which refers to each revision that is known
pub record HasAllBlocks (s : StateParts) (blocks : List Block) : Type 0 where
  pub state : IsStateOf s blocks
  pub saved : Each (λ r. IsTrue (is_referred blocks r)) s.known.hg
