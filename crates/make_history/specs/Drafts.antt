-- The changeset behind others, over what a store holds of its parents.
use Rattle.std.specs.Prelude.{◌≡◌, ℕ, false, List, IsTrue}
use Rattle.text_model.specs.Lists.{Each, rises}
use Rattle.text_model.specs.Text.{has_byte, is_below}
use Rattle.text_model.specs.Id.{Id}
use Rattle.hg_model.specs.Revision.{Revision}
use Rattle.view_model.specs.View.{Row, ChangesetView, paths_of}
use Rattle.pair_model.specs.Block.{Parents}
use Rattle.file_rule.specs.Parents.{IsParentView}
use Rattle.make_model.specs.Numbers.{Numbers}
use Rattle.make_model.specs.History.{with_row, made_row, changeset_over}

-- the parents with these nodes are held; their paths rise, and hold no first byte of a mark of metadata
pub record IsOver (known : List Revision) (p q : Id) (ps : Parents) : Type 0 where
  pub first : IsParentView known p ps.first
  pub second : IsParentView known q ps.second
  pub nodes : (ps.p ≡ p) × (ps.q ≡ q)
  pub rising : IsTrue (rises is_below (paths_of (ps.first).rows))
  pub clean : Each (λ row. has_byte 1 row.path ≡ false) (ps.first).rows

abbrev pub next_rows : Parents → Numbers → ℕ → List Row
next_rows ps x n = with_row (made_row ps x n) (ps.first).rows

abbrev pub next_view : Parents → Numbers → ℕ → ChangesetView
next_view ps x n = changeset_over ps (next_rows ps x n) x n
