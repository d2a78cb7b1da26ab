-- The parts of the commit of a changeset, by what its draft has.
use Rattle.std.specs.Prelude.{◌≡◌, ◌≤◌, ◌++◌, false, List, [], length, map, Option, None, Some, IfSome, IsTrue, unwrap_or}
use Rattle.text_model.specs.Lists.{Each, SomeOf}
use Rattle.text_model.specs.Id.{Id, null}
use Rattle.git_model.specs.Object.{Object, knows_object}
use Rattle.git_model.specs.Residue.{ResidueItem, residue_of}
use Rattle.git_model.specs.Unfold.{FileRow, walk_fault, tree_rows}
use Rattle.hg_model.specs.Revision.{Revision}
use Rattle.view_model.specs.View.{Row, TreeRow, text_limit}
use Rattle.view_model.specs.Held.{IsFileHeld}
use Rattle.pair_model.specs.Block.{Block, block_of_node, not_null}
use Rattle.pair_model.specs.Rule.{mode_of_flag}
use Rattle.pair_known.specs.Partners.{git_at}
use Rattle.pair_known.specs.Rows.{RowValue, row_value}
use Rattle.pair_known.specs.Ruled.{blob_of_row}

-- the file of the tree
abbrev pub file_of_row : RowValue → FileRow
file_of_row row = record { path = row.path; mode = mode_of_flag row.flag; id = row.blob }

-- the partners of the nodes that aren't null
abbrev pub partners_at : List (Id × Id) → List Id → List Id
partners_at pairs nodes = map (λ node. unwrap_or (git_at pairs node) null) (not_null nodes)

-- each content is within its limit
abbrev pub AreShort : List Object → Type 0
AreShort objects = Each (λ o. length o.content ≤ text_limit) objects

-- each body is within its limit
abbrev pub AreShortBodies : List Row → Type 0
AreShortBodies rows = Each (λ row. length (row.revision).body ≤ text_limit) rows

-- the tree of the commit of the block with this node
abbrev pub IsTreeOf : List Block → Id → Id → Type 0
IsTreeOf blocks node root = (b : Block) × (block_of_node blocks node ≡ Some b) × (root ≡ ((b.commit).value).tree_id)

-- the residue of the tree, where there is one
abbrev pub residue_below : List Object → Option Id → List ResidueItem
residue_below known None = []
residue_below known (Some root) = residue_of (tree_rows known root)

-- a walk through the tree ends without a refusal, where there is one
abbrev pub WalksThrough : List Object → Option Id → Type 0
WalksThrough known old = IfSome old (λ root. walk_fault known root ≡ None)

-- The blobs are of these rows and aren't known, and with them all blobs of the rows are.
pub record AreBrought (known fresh : List Object) (rows : List TreeRow) : Type 0 where
  pub blobs : Each (λ o. SomeOf rows (λ row. o ≡ blob_of_row row)) fresh
  pub are_new : Each (λ o. knows_object known o.id ≡ false) fresh
  pub all : Each (λ row. IsTrue (knows_object (fresh ++ known) row.id)) rows

-- the store has the blob of a row
abbrev pub HasStoredBlob : List Object → RowValue → Type 0
HasStoredBlob known row = IsTrue (knows_object known row.blob)

-- the row has this node and this blob id, and its revision is held
abbrev pub IsRowOf : List Revision → RowValue → Row → Type 0
IsRowOf known value row = (row_value row ≡ value) × IsFileHeld known row

abbrev pub AreRowsOf : List Revision → List RowValue → List Row → Type 0
AreRowsOf known values rows = (values ≡ map row_value rows) × Each (IsFileHeld known) rows
