-- Drafts of members that a rule gives, with what the stores lack of them.
use Rattle.std.specs.Prelude.{◌≡◌, ◌≤◌, false, List, ◌++◌, length, map, IsTrue, ⊤}
use Rattle.text_model.specs.Lists.{Each, In, SomeOf, rises}
use Rattle.text_model.specs.Text.{IsBytes, is_below}
use Rattle.text_model.specs.Id.{IsId, blob}
use Rattle.text_model.specs.Path.{is_fit_path}
use Rattle.hg_model.specs.Changeset.{IsChangeset}
use Rattle.hg_model.specs.Revision.{Revision, Manifests, FilesAt, is_known_parent}
use Rattle.git_model.specs.Object.{Object, knows_object}
use Rattle.git_model.specs.Shape.{trees_of}
use Rattle.hg_store.specs.Known.{knows_same}
use Rattle.view_model.specs.View.{ChangesetView, CommitView, IsChangesetView, IsCommitView, ChangesetFits, CommitFits, Row, TreeRow, IsRevision, files_among, ManifestParents, NoManifest, Over, AreManifestParents, manifest_node, paths_of, text_limit}
use Rattle.view_model.specs.Held.{file_row_of}
use Rattle.pair_known.specs.declared.hg_draft.HgDraft.{HgDraft}
use Rattle.pair_known.specs.declared.git_draft.GitDraft.{GitDraft}
use Rattle.pair_known.specs.Drafts.{IsHgDraft, AreFreshOf}

abbrev pub blob_of_row : TreeRow → Object
blob_of_row row = record { id = row.id; kind = blob; content = row.content }

-- The draft has the fields and the rows of the commit, and a blob for each id of a file that isn't known. Of the trees of the rows it has
-- those that aren't stored, and perhaps others.
-- Where two files have one blob id and two contents, it has the first alone; so it is asked, when they are added, what each file has.
pub record IsMadeCommit (known : List Object) (d : GitDraft) (c : CommitView) : Type 0 where
  pub value : c.value ≡ d.commit
  pub files : d.files ≡ map file_row_of c.rows
  pub trees_are : Each (λ o. In o (trees_of d.files)) d.trees
  pub trees_held : Each (λ o. In o (d.trees ++ known)) (trees_of d.files)
  pub blobs : Each (λ o. SomeOf (files_among c.rows) (λ row. o ≡ blob_of_row row)) d.fresh
  pub are_new : Each (λ o. knows_object known o.id ≡ false) d.fresh
  pub all : Each (λ row. IsTrue (knows_object (d.fresh ++ known) row.id)) (files_among c.rows)
  pub short : Each (λ row. length row.content ≤ text_limit) c.rows
  pub view : IsCommitView c

-- its objects and the rows of its tree are within their limits too
pub record IsRuledCommit (known : List Object) (d : GitDraft) (c : CommitView) : Type 0 where
  pub made : IsMadeCommit known d c
  pub fits : CommitFits c

-- the parents of a file revision are known
abbrev pub HasFileParents : List Revision → Row → Type 0
HasFileParents known row = IsTrue (is_known_parent known (FilesAt row.path) (row.revision).p) × IsTrue (is_known_parent known (FilesAt row.path) (row.revision).q)

-- the parents of a manifest are known
abbrev pub HasManifestParents : List Revision → ManifestParents → Type 0
HasManifestParents known NoManifest = ⊤
HasManifestParents known (Over p q) = IsTrue (is_known_parent known Manifests p) × IsTrue (is_known_parent known Manifests q)

-- A view but for what is asked of both parents together: the node of a link is a hash, which may be null or that of another parent.
pub record IsLooseView (h : ChangesetView) : Type 0 where
  pub parents : IsId h.p × IsId h.q
  pub fields : IsChangeset h.fields
  pub manifest : AreManifestParents h.manifest h.rows
  pub rows : Each (λ row. IsTrue (is_fit_path row.path) × IsBytes row.path × IsRevision row.revision) h.rows
  pub in_order : IsTrue (rises is_below (paths_of h.rows))
  pub agrees : (h.fields).manifest ≡ manifest_node h.manifest h.rows

-- the draft stands for the changeset; the file revisions that it brings are those of rows, and aren't known
pub record IsMadeChangeset (known : List Revision) (d : HgDraft) (h : ChangesetView) : Type 0 where
  pub draft : IsHgDraft known d h
  pub of_rows : AreFreshOf d.fresh h.rows
  pub are_new : Each (λ r. knows_same known r ≡ false) d.fresh
  pub view : IsLooseView h

-- its texts are within their limits too, and the parents of its revisions are known
pub record IsRuledChangeset (known : List Revision) (d : HgDraft) (h : ChangesetView) : Type 0 where
  pub made : IsMadeChangeset known d h
  pub file_parents : Each (HasFileParents known) h.rows
  pub manifest_parents : HasManifestParents known h.manifest
  pub fits : ChangesetFits h
  pub view : IsChangesetView h
