-- The manifest of a changeset over those of its parents.
use Rattle.std.specs.Prelude.{◌≡◌, List, map, IfSome}
use Rattle.hg_model.specs.Revision.{Revision}
use Rattle.view_model.specs.View.{Row, rows_text, manifest_node}
use Rattle.pair_model.specs.Block.{Parents}
use Rattle.pair_model.specs.Rule.{ruled_manifest}
use Rattle.pair_known.specs.Rows.{RowValue, row_value}
use Rattle.hg_manifest.specs.Values.{manifest_value}
use Rattle.file_rule.specs.Parents.{IsParent}
use Rattle.file_rule.specs.declared.parents.Parent.{Parent}
use Rattle.manifest_rule.specs.declared.manifest.RuledManifest.{RuledManifest}

-- the rows of a changeset, and its parents, whose manifests are stored
pub record AreRowsOver (known : List Revision) (rows : List RowValue) (first second : Parent) (ps : Parents) (hs : List Row) : Type 0 where
  pub of_rows : rows ≡ map row_value hs
  pub in_first : IsParent known first ps.first
  pub in_second : IsParent known second ps.second

-- the manifest that the rule gives for the rows, its node, and its text where that was written
pub record IsMadeManifest (made : RuledManifest) (ps : Parents) (hs : List Row) : Type 0 where
  pub manifest : manifest_value made.manifest ≡ ruled_manifest ps hs
  pub node : made.node ≡ manifest_node (ruled_manifest ps hs) hs
  pub text : IfSome made.text (λ text. text ≡ rows_text hs)
