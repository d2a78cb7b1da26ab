-- Changesets and commits that stand in a store: known revisions and known objects say all that a view says.
use Rattle.std.specs.Prelude.{◌≡◌, ⊤, true, false, List, [], ◌∷◌, map, Some}
use Rattle.text_model.specs.Lists.{Each}
use Rattle.text_model.specs.Id.{Id, null, commit}
use Rattle.hg_model.specs.Changeset.{IsChangesetText}
use Rattle.hg_model.specs.Manifest.{IsManifestText}
use Rattle.hg_model.specs.FileText.{IsFileText, file_order, manifest_order}
use Rattle.hg_model.specs.Revision.{Revision, Changesets, Manifests, FilesAt, revision_of}
use Rattle.git_model.specs.Commit.{IsCommitText}
use Rattle.git_model.specs.Object.{Object, object_at}
use Rattle.git_model.specs.Tree.{is_blob_mode}
use Rattle.git_model.specs.Unfold.{FileRow, IsUnfolding}
use Rattle.view_model.specs.View.{Row, ManifestParents, NoManifest, Over, ChangesetView, CommitView, TreeRow, entry_of_row, file_node}

-- ---- changesets

-- the file revision of a row is known, with its parents in canonical order
pub record IsFileHeld (known : List Revision) (row : Row) : Type 0 where
  pub revision : Revision
  pub is_held : revision_of known (FilesAt row.path) (file_node row.revision) ≡ Some revision
  pub parents : ((row.revision).p, (row.revision).q) ≡ file_order (row.revision).meta revision.p revision.q
  pub text : IsFileText revision.text (row.revision).meta (row.revision).body

-- the manifest with these lines is known, with its parents in canonical order
pub record IsManifestRevision (known : List Revision) (node p q : Id) (rows : List Row) : Type 0 where
  pub revision : Revision
  pub is_held : revision_of known Manifests node ≡ Some revision
  pub parents : (p, q) ≡ manifest_order revision.p revision.q
  pub text : IsManifestText revision.text (map entry_of_row rows)

-- the null id is that of no manifest
abbrev pub IsManifestHeld : List Revision → Id → ManifestParents → List Row → Type 0
IsManifestHeld known node NoManifest rows = (node ≡ null) × (rows ≡ [])
IsManifestHeld known node (Over p q) rows = IsManifestRevision known node p q rows

-- the node is that of a known changeset, and the view is what it, its manifest and its file revisions say
pub record IsChangesetHeld (known : List Revision) (node : Id) (h : ChangesetView) : Type 0 where
  pub revision : Revision
  pub is_held : revision_of known Changesets node ≡ Some revision
  pub parents : (h.p ≡ revision.p) × (h.q ≡ revision.q)
  pub fields : IsChangesetText revision.text h.fields
  pub manifest : IsManifestHeld known (h.fields).manifest h.manifest h.rows
  pub files : Each (IsFileHeld known) h.rows

-- the views are those of these nodes, one by one
abbrev pub AreChangesetsHeld : List Revision → List Id → List ChangesetView → Type 0
AreChangesetsHeld known [] [] = ⊤
AreChangesetsHeld known (node ∷ nodes) (h ∷ hs) = IsChangesetHeld known node h × AreChangesetsHeld known nodes hs
AreChangesetsHeld known _ _ = ⊥

-- ---- commits

abbrev pub file_row_of : TreeRow → FileRow
file_row_of row = record { path = row.path; mode = row.mode; id = row.id }

-- the blob of a row is known, with this content
abbrev pub IsBlobHeld : List Object → TreeRow → Type 0
IsBlobHeld known row = (o : Object) × (object_at known row.id ≡ Some o) × (o.content ≡ row.content)

-- the blob of a row that is a file is known, with this content; a row that is none has no content
pub record IsRowHeld (known : List Object) (row : TreeRow) : Type 0 where
  pub blob : is_blob_mode row.mode ≡ true → IsBlobHeld known row
  pub none : is_blob_mode row.mode ≡ false → row.content ≡ []

-- the id is that of a known commit, and the view is what it, its tree and its blobs say
pub record IsCommitHeld (known : List Object) (id : Id) (c : CommitView) : Type 0 where
  pub object : Object
  pub is_held : object_at known id ≡ Some object
  pub kind : object.kind ≡ commit
  pub text : IsCommitText object.content c.value
  pub rows : IsUnfolding known (c.value).tree_id (map file_row_of c.rows)
  pub blobs : Each (IsRowHeld known) c.rows

-- the views are those of these ids, one by one
abbrev pub AreCommitsHeld : List Object → List Id → List CommitView → Type 0
AreCommitsHeld known [] [] = ⊤
AreCommitsHeld known (id ∷ ids) (c ∷ cs) = IsCommitHeld known id c × AreCommitsHeld known ids cs
AreCommitsHeld known _ _ = ⊥
