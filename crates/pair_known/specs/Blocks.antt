-- A history whose members stand in the stores of both sides.
use Rattle.std.specs.Prelude.{◌≡◌, false, None, List, map}
use Rattle.text_model.specs.Lists.{Each}
use Rattle.git_model.specs.Unfold.{walk_fault}
use Rattle.view_model.specs.View.{changeset_node, commit_id}
use Rattle.view_model.specs.Held.{AreChangesetsHeld, AreCommitsHeld}
use Rattle.pair_model.specs.Block.{Block, node_of, id_of, changesets_in, commits_in}
use Rattle.pair_model.specs.Octopus.{is_link_view}
use Rattle.hg_store.specs.Known.{AreAdded}
use Rattle.pair_known.specs.Partners.{ArePartners}
use Rattle.pair_known.specs.declared.known.Known.{Known}

-- The changesets of the blocks, links among them, and the commits are stored, the trees of the commits can be walked through, and the
-- pairs are those of the blocks. Nothing is said of whether both sides of a block agree.
pub record AreBlocksHeld (k : Known) (blocks : List Block) : Type 0 where
  pub changesets : AreChangesetsHeld k.hg (map changeset_node (changesets_in blocks)) (changesets_in blocks)
  pub commits : AreCommitsHeld k.git (map commit_id (commits_in blocks)) (commits_in blocks)
  pub walks : Each (λ b. walk_fault k.git ((b.commit).value).tree_id ≡ None) blocks
  pub partners : k.partners ≡ map (λ b. (node_of b, id_of b)) blocks

-- The same with what the stores promise of themselves: no revision has the null node, and partners are one to one. No changeset that has a
-- partner is a link.
pub record IsHistoryHeld (k : Known) (blocks : List Block) : Type 0 where
  pub held : AreBlocksHeld k blocks
  pub no_links : Each (λ b. is_link_view b.changeset ≡ false) blocks
  pub added : AreAdded k.hg
  pub partners : ArePartners k.partners
