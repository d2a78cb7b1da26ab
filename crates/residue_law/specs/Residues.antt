-- What a residue is in an unmarking and in a marked commit.
use Rattle.std.specs.Prelude.{◌≡◌, false, List, map, Some, unwrap_or, IsTrue}
use Rattle.text_model.specs.Lists.{Each, rises}
use Rattle.text_model.specs.Text.{IsBytes, is_below}
use Rattle.text_model.specs.Path.{is_fit_path}
use Rattle.git_model.specs.Residue.{ResidueItem, fits}
use Rattle.view_model.specs.View.{paths_of, ChangesetView, IsChangesetView, TreeRow, tree_paths, has_clash, IsRowId, CommitView, files_among, HaveSameBodies}
use Rattle.pair_model.specs.MarkList.{ChangesetMarks, item_paths, IsResidue}
use Rattle.pair_model.specs.Rule.{tree_row_of, carried_to, tree_rows_with}
use Rattle.pair_model.specs.Block.{Block}
use Rattle.partner_model.specs.Mark.{residue_in, handed_on, mark_commit}
use Rattle.partner_model.specs.Partner.{UnmarksChangeset}
use Rattle.partner_model.specs.Filled.{files_in, HasMarks, filled_commit}

-- the residue of an unmarking is the one that the extras name, else what the commit's first parent hands on
abbrev pub ResidueIsRead : List Block → (ChangesetView → Type 0) → Type 0
ResidueIsRead blocks Known =
    (h : ChangesetView) (c : CommitView) (m : ChangesetMarks) → HasMarks h m → UnmarksChangeset blocks Known h c → residue_in c.rows ≡ unwrap_or m.tree (handed_on blocks (c.value).parents h.rows)

-- the files of an unmarking are those of the changeset, with the residue that is read
abbrev pub RowsAreRead : List Block → (ChangesetView → Type 0) → Type 0
RowsAreRead blocks Known =
    (h : ChangesetView) (c : CommitView) (m : ChangesetMarks) → HasMarks h m → UnmarksChangeset blocks Known h c → c.rows ≡ tree_rows_with (unwrap_or m.tree (handed_on blocks (c.value).parents h.rows)) (map tree_row_of h.rows)

-- a changeset whose extras name an item that doesn't fit its files has no unmarking
abbrev pub ResidueFits : List Block → (ChangesetView → Type 0) → Type 0
ResidueFits blocks Known =
    (h : ChangesetView) (c : CommitView) (m : ChangesetMarks) (items : List ResidueItem) → HasMarks h m → m.tree ≡ Some items → UnmarksChangeset blocks Known h c → Each (λ i. IsTrue (fits (files_in h.rows) i)) items

-- the paths of the items are fit, and none lies below another
pub record AreItemsFit (items : List ResidueItem) : Type 0 where
  pub paths : Each (λ i. IsTrue (is_fit_path i.path)) items
  pub no_clash : has_clash (item_paths items) ≡ false

-- a changeset whose extras name items with an unfit path, or one below another, has no unmarking
abbrev pub ItemsFit : List Block → (ChangesetView → Type 0) → Type 0
ItemsFit blocks Known = (h : ChangesetView) (c : CommitView) (m : ChangesetMarks) (items : List ResidueItem) → HasMarks h m → m.tree ≡ Some items → UnmarksChangeset blocks Known h c → AreItemsFit items

-- rows as those of a commit's view
pub record AreRowsOf (rows : List TreeRow) : Type 0 where
  pub each : Each (λ row. IsTrue (is_fit_path row.path) × IsBytes row.path × IsBytes row.content × IsRowId row.mode row.id row.content) rows
  pub in_order : IsTrue (rises is_below (tree_paths rows))
  pub no_clash : has_clash (tree_paths rows) ≡ false

-- Items that fit a changeset's files, with fit paths of which none lies below another, make rows of a commit's view, with just that residue and those files.
abbrev pub ResidueBuilds : Type 0
ResidueBuilds =
    (h : ChangesetView) (items : List ResidueItem) → IsChangesetView h → has_clash (paths_of h.rows) ≡ false → IsResidue items → AreItemsFit items → Each (λ i. IsTrue (fits (files_in h.rows) i)) items
    → AreRowsOf (tree_rows_with items (map tree_row_of h.rows)) × (residue_in (tree_rows_with items (map tree_row_of h.rows)) ≡ items) × HaveSameBodies h.rows (files_among (tree_rows_with items (map tree_row_of h.rows)))

-- a marked commit has the files of its changeset, and beside them what the first parent's partner hands on
abbrev pub HandsOn : List Block → Type 0
HandsOn blocks = (h : ChangesetView) → IsChangesetView h → (residue_in (mark_commit blocks h).rows ≡ carried_to blocks h) × HaveSameBodies h.rows (files_among (mark_commit blocks h).rows)

-- an unmarking of a changeset is the commit that its marks name
abbrev pub CommitIsFilled : List Block → (ChangesetView → Type 0) → Type 0
CommitIsFilled blocks Known = (h : ChangesetView) (c : CommitView) (m : ChangesetMarks) → HasMarks h m → UnmarksChangeset blocks Known h c → filled_commit blocks (c.value).parents h m ≡ Some c
