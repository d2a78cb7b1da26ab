-- The revisions to which changesets refer, asked by group and node.
use Rattle.std.specs.Prelude.{◌≡◌, ◌≢◌, ◌⊎◌, ◌↔◌, [], true, List, IsTrue}
use Rattle.text_model.specs.Lists.{Each, SomeOf}
use Rattle.text_model.specs.Text.{Bytes}
use Rattle.text_model.specs.Id.{Id, null, has_id}
use Rattle.hg_model.specs.Changeset.{Changeset}
use Rattle.hg_model.specs.Manifest.{ManifestEntry}
use Rattle.hg_model.specs.Revision.{Group, Manifests, FilesAt, Revision, knows}
use Rattle.hg_store.specs.Views.{IsChangesetOf, IsManifestOf}
use Rattle.view_model.specs.View.{ChangesetView, file_node}
use Rattle.hg_dump.specs.declared.refers.Refers.{Refers}
use Rattle.hg_dump.specs.State.{referred_in}

-- just these revisions have their groups and nodes among those that were met, and nothing is written of them
pub record RefersTo (refers : Refers) (rs : List Revision) : Type 0 where
  pub met : (group : Group) (node : Id) → has_id (referred_in refers.brought group).met node ≡ knows rs group node
  pub unwritten : (group : Group) → (referred_in refers.brought group).brought ≡ []

-- the file revisions of a changeset are among these
abbrev pub HasFilesOf : List Revision → ChangesetView → Type 0
HasFilesOf rs h = Each (λ row. IsTrue (knows rs (FilesAt row.path) (file_node row.revision))) h.rows

-- the changeset is known and names this: its manifest, or a file revision that a line of this has, where it is known
pub record IsNamedBy (known : List Revision) (node : Id) (group : Group) (n : Id) : Type 0 where
  pub p : Id
  pub q : Id
  pub fields : Changeset
  pub changeset : IsChangesetOf known node p q fields
  pub some : fields.manifest ≢ null
  pub names : ((group ≡ Manifests) × (n ≡ fields.manifest))
      ⊎ ((path : Bytes) × (group ≡ FilesAt path) × (entries : List ManifestEntry) × IsManifestOf known fields.manifest entries × SomeOf entries (λ e. (e.path ≡ path) × (e.node ≡ n)))

-- just the revisions that the changeset names have their groups and nodes among these
abbrev pub AreNamedBy : List Revision → Id → List Revision → Type 0
AreNamedBy known node more = (group : Group) (n : Id) → (knows more group n ≡ true) ↔ IsNamedBy known node group n
