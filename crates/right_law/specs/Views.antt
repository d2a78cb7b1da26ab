-- What the laws of right histories ask of their blocks beside the ground.
use Rattle.std.specs.Prelude.{List}
use Rattle.text_model.specs.Lists.{Each}
use Rattle.view_model.specs.View.{IsChangesetView, IsCommitView}
use Rattle.pair_model.specs.Block.{Block, changesets_in}

-- the changesets of the blocks, links among them, and their commits are views
pub record AreViews (blocks : List Block) : Type 0 where
  pub changesets : Each IsChangesetView (changesets_in blocks)
  pub commits : Each (λ b. IsCommitView b.commit) blocks
