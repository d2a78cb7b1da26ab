-- The parents of a changeset, as a store lends them.
use Rattle.std.specs.Prelude.{◌≡◌, true, false, List, map, Option, Some, None, ⊤}
use Rattle.text_model.specs.Lists.{Each}
use Rattle.text_model.specs.Text.{Bytes}
use Rattle.text_model.specs.Id.{Id, is_null}
use Rattle.hg_model.specs.Manifest.{Flag, ManifestEntry}
use Rattle.hg_model.specs.Revision.{Revision}
use Rattle.view_model.specs.View.{FileRevision, file_node, Row, entry_of_row, ChangesetView}
use Rattle.view_model.specs.Held.{IsFileHeld, IsManifestHeld, IsChangesetHeld}
use Rattle.pair_model.specs.Block.{no_changeset}
use Rattle.file_rule.specs.declared.parents.Parent.{Parent}

abbrev pub row_with : Bytes → Flag → FileRevision → Row
row_with path flag r = record { path = path; flag = flag; revision = r }

-- the entry names the revision, which is held; none names none
abbrev pub IsRevisionAt : List Revision → Bytes → Option ManifestEntry → Option FileRevision → Type 0
IsRevisionAt known path None None = ⊤
IsRevisionAt known path (Some e) (Some r) = (e.path ≡ path) × (e.node ≡ file_node r) × IsFileHeld known (row_with path e.flag r)
IsRevisionAt known path _ _ = ⊥

-- the manifest and the files of the view are held, and these are its entries
pub record IsParent (known : List Revision) (parent : Parent) (v : ChangesetView) : Type 0 where
  pub node : (v.fields).manifest ≡ parent.manifest_node
  pub entries : map entry_of_row v.rows ≡ (parent.manifest).now
  pub held : IsManifestHeld known (v.fields).manifest v.manifest v.rows
  pub files : Each (IsFileHeld known) v.rows

-- the view of a parent: of the null id the empty one, else that of a known changeset
pub record IsParentView (known : List Revision) (node : Id) (v : ChangesetView) : Type 0 where
  pub of_null : is_null node ≡ true → v ≡ no_changeset
  pub held : is_null node ≡ false → IsChangesetHeld known node v
