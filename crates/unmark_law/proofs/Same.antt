-- A view is the same as itself.
use Rattle.std.proofs.Common.{List, [], ◌∷◌, refl}
use Rattle.view_model.specs.View.{Row, TreeRow, SameRows, SameTreeRows, ChangesetView, CommitView, SameChangeset, SameCommit}

pub same_changeset : (h : ChangesetView) → SameChangeset h h
same_changeset h = record { p = refl; q = refl; fields = refl; manifest = refl; rows = same_rows h.rows }
  where
    same_rows : (rows : List Row) → SameRows rows rows
    same_rows [] = tt
    same_rows (r ∷ rs) = ((refl, refl, refl), same_rows rs)

pub same_commit : (c : CommitView) → SameCommit c c
same_commit c = record { value = refl; rows = same_rows c.rows }
  where
    same_rows : (rows : List TreeRow) → SameTreeRows rows rows
    same_rows [] = tt
    same_rows (r ∷ rs) = (refl, refl, refl, same_rows rs)
