-- Which state the parts of a bridge stand for, and that their stores hold nothing else.
use Rattle.std.specs.Prelude.{◌≡◌, List, Some}
use Rattle.text_model.specs.Lists.{Each}
use Rattle.text_model.specs.Id.{Id}
use Rattle.git_model.specs.Object.{Object, object_at}
use Rattle.pair_model.specs.Block as model
use Rattle.pair_model.specs.Block.{node_of, id_of}
use Rattle.state_model.specs.Kept.{State, kept_of, ids_of}
use Rattle.saved_model.specs.Step.{known_of}
use Rattle.state_part.specs.declared.pairs.IdPair.{IdPair}
use Rattle.pair_state.specs.declared.state_parts.StateParts.{StateParts}
use Rattle.pair_state.specs.AllBlocks.{HasAllBlocks}

-- these objects are known under these ids
abbrev pub AreAt : List Object → List Id → List Object → Type 0
AreAt known ids objects = (ids ≡ ids_of objects) × Each (λ o. object_at known o.id ≡ Some o) objects

-- the parts stand for the state: its blocks, its tags, each of which is known as it is, and its names
pub record Stands (s : StateParts) (m : State) : Type 0 where
  pub blocks : HasAllBlocks s m.blocks
  pub tags : s.tags ≡ ids_of m.tags
  pub tags_held : Each (λ o. object_at s.known.git o.id ≡ Some o) m.tags
  pub names : s.names ≡ m.names

-- what is known is what the text of the state brings, in its order
pub record HoldsExactly (s : StateParts) (m : State) : Type 0 where
  pub revisions : s.known.hg ≡ (known_of (kept_of m)).revisions
  pub objects : s.known.git ≡ (known_of (kept_of m)).objects

-- the ids of the two sides of a block
abbrev pub pair_of : model.Block → IdPair
pair_of b = record { commit = id_of b; node = node_of b }
