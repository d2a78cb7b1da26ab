-- What the changesets and the commits that a pull leaves are: views, within their limits.
use Rattle.text_model.specs.Lists.{Each}
use Rattle.view_model.specs.View.{IsChangesetView, ChangesetFits, IsCommitView, CommitFits}
use Rattle.pair_model.specs.Block.{changesets_in, commits_in}
use Rattle.state_model.specs.Kept.{Kept}

-- its changesets are views, links among them
abbrev pub HasChangesetViews : Kept → Type 0
HasChangesetViews k = Each IsChangesetView (changesets_in k.blocks)

-- each text of its changesets is within its limit
abbrev pub HasChangesetsFit : Kept → Type 0
HasChangesetsFit k = Each ChangesetFits (changesets_in k.blocks)

-- its commits are views
abbrev pub HasCommitViews : Kept → Type 0
HasCommitViews k = Each IsCommitView (commits_in k.blocks)

-- each object of its commits is within its limit, and so are the rows of their trees
abbrev pub HasCommitsFit : Kept → Type 0
HasCommitsFit k = Each CommitFits (commits_in k.blocks)
