-- A member has at most one unmarking. No premise speaks of ids.
use Rattle.std.specs.Prelude.{◌≡◌, List}
use Rattle.view_model.specs.View.{ChangesetView, CommitView}
use Rattle.pair_model.specs.Block.{Block}
use Rattle.partner_model.specs.Partner.{UnmarksCommit, UnmarksChangeset}

-- a member has at most one unmarking
abbrev pub UnmarkingIsOne : List Block → (ChangesetView → Type 0) → Type 0
UnmarkingIsOne blocks Known =
    ((c : CommitView) (h k : ChangesetView) → UnmarksCommit blocks c h → UnmarksCommit blocks c k → h ≡ k)
    × ((h : ChangesetView) (c d : CommitView) → UnmarksChangeset blocks Known h c → UnmarksChangeset blocks Known h d → c ≡ d)
