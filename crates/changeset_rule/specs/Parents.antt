-- The parents of the changeset of a commit, by the stored changesets whose files they have.
use Rattle.std.specs.Prelude.{◌≡◌, List}
use Rattle.text_model.specs.Id.{Id}
use Rattle.hg_model.specs.Revision.{Revision}
use Rattle.view_model.specs.View.{ChangesetView}
use Rattle.pair_model.specs.Block.{Parents}
use Rattle.file_rule.specs.Parents.{IsParentView}
use Rattle.changeset_rule.specs.declared.parents.ParentNodes.{ParentNodes}

-- the changeset has the manifest and the files of the stored one with this node, or none where the node is null
pub record HasFilesAt (known : List Revision) (node : Id) (x : ChangesetView) : Type 0 where
  pub base : ChangesetView
  pub view : IsParentView known node base
  pub manifest : x.manifest ≡ base.manifest
  pub manifest_node : (x.fields).manifest ≡ (base.fields).manifest
  pub rows : x.rows ≡ base.rows

-- these are the nodes of the parents, and those of stored changesets with the same files
pub record AreParentNodes (known : List Revision) (nodes : ParentNodes) (ps : Parents) : Type 0 where
  pub parents : (nodes.p1 ≡ ps.p) × (nodes.p2 ≡ ps.q)
  pub first : HasFilesAt known nodes.first ps.first
  pub second : HasFilesAt known nodes.second ps.second
