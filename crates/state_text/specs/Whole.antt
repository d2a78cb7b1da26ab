-- The sections of a state, as they are read.
use Rattle.std.specs.Prelude.{◌≡◌, List, map, length}
use Rattle.pair_model.specs.Block as model
use Rattle.pair_model.specs.Block.{node_of, id_of, changesets_in, commits_in}
use Rattle.pair_state.specs.declared.blocks.Block as pair
use Rattle.state_model.specs.Kept.{State, NameRow}
use Rattle.state_model.specs.Saved.{IsState}
use Rattle.hg_section.specs.declared.section.HgSection.{HgSection}
use Rattle.hg_section.specs.Section.{HoldsChangesets}
use Rattle.tag_section.specs.declared.tags.TagSection.{TagSection}
use Rattle.tag_section.specs.Tags.{HoldsTags}

-- a block by its ids and the number of its links
abbrev pub block_in : model.Block → pair.Block
block_in b = record { node = node_of b; commit = id_of b; links = length b.links }

-- the sections hold what the state has, and these are its blocks
pub record AreSectionsOf (hg : HgSection) (blocks : List pair.Block) (tags : TagSection) (names : List NameRow) (m : State) : Type 0 where
  pub state : IsState m
  pub changesets : HoldsChangesets hg (changesets_in m.blocks)
  pub pairs : blocks ≡ map block_in m.blocks
  pub commits : HoldsTags tags (commits_in m.blocks) m.tags
  pub names_are : names ≡ m.names
