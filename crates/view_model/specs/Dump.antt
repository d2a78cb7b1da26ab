-- The bundle of a list of changesets and the stream of a list of commits, without what earlier ones have.
-- The order of entries and objects and the deltas are this project's own.
use Rattle.std.specs.Prelude.{List, [], ◌∷◌, ◌++◌, length, map, filter, Option, Some, None, unwrap_or, bytes_eq}
use Rattle.std.specs.List.{flat_map, filter_map}
use Rattle.text_model.specs.Lists.{first_of_each, only_new, in_order}
use Rattle.text_model.specs.Text.{Bytes, is_below}
use Rattle.text_model.specs.Id.{Id}
use Rattle.hg_model.specs.Changeset.{changeset_text}
use Rattle.hg_model.specs.FileText.{file_text}
use Rattle.hg_model.specs.Delta.{whole_delta}
use Rattle.hg_model.specs.Revision.{Group, Changesets, Manifests, FilesAt, Revision, same_group, same_revision}
use Rattle.hg_model.specs.Bundle.{BundleEntry, FileGroup, Bundle, bundle_text}
use Rattle.hg_model.specs.Reading.{first_base}
use Rattle.git_model.specs.Object.{Object, same_object}
use Rattle.git_model.specs.Stream.{stream_text}
use Rattle.view_model.specs.View.{ChangesetView, CommitView, Row, ManifestParents, NoManifest, Over, changeset_node, file_node, rows_text, commit_objects}

-- ---- the revisions to which a changeset refers: its own, its manifest's and its files', with the changeset as their link

abbrev pub own_revision : ChangesetView → Revision
own_revision h = record { group = Changesets; node = changeset_node h; p = h.p; q = h.q; link = changeset_node h; text = changeset_text h.fields }

-- the null manifest is no revision
abbrev pub manifest_revision : ChangesetView → ManifestParents → List Revision
manifest_revision h NoManifest = []
manifest_revision h (Over p q) = record { group = Manifests; node = (h.fields).manifest; p = p; q = q; link = changeset_node h; text = rows_text h.rows } ∷ []

abbrev pub file_revision : Id → Row → Revision
file_revision link row = record {
  group = FilesAt row.path;
  node = file_node row.revision;
  p = (row.revision).p;
  q = (row.revision).q;
  link = link;
  text = file_text (row.revision).meta (row.revision).body;
}

unfoldable pub revisions_of : ChangesetView → List Revision
revisions_of h = own_revision h ∷ manifest_revision h h.manifest ++ map (file_revision (changeset_node h)) h.rows

abbrev pub revisions_in : List ChangesetView → List Revision
revisions_in changesets = flat_map revisions_of changesets

-- the revisions to which the new changesets refer and the old ones don't, each once, in the order of its first reference
unfoldable pub brought_by : List ChangesetView → List ChangesetView → List Revision
brought_by old new = only_new same_revision (revisions_in old) (revisions_in new)

-- ---- the bundle

-- each entry replaces the whole text before it
unfoldable pub written_from : Bytes → List Revision → List BundleEntry
written_from base [] = []
written_from base (r ∷ rs) = record { node = r.node; p = r.p; q = r.q; link = r.link; delta = whole_delta (length base) r.text } ∷ written_from r.text rs

-- the first entry of a group has the known text of its first parent as its base
unfoldable pub written_group : List Revision → Group → List Revision → List BundleEntry
written_group known group [] = []
written_group known group (r ∷ rs) = written_from (unwrap_or (first_base known group r.p) []) (r ∷ rs)

abbrev pub of_group : Group → List Revision → List Revision
of_group group rs = filter (λ r. same_group group r.group) rs

abbrev pub path_of_group : Group → Option Bytes
path_of_group (FilesAt path) = Some path
path_of_group _ = None

-- the paths of file revisions, rising
unfoldable pub paths_in : List Revision → List Bytes
paths_in rs = in_order is_below (first_of_each bytes_eq (filter_map (λ r. path_of_group r.group) rs))

abbrev pub written_file : List Revision → List Revision → Bytes → FileGroup
written_file known rs path = record { path = path; entries = written_group known (FilesAt path) (of_group (FilesAt path) rs) }

-- the bundle of revisions over those that are known: changesets, manifests, and the files by rising paths
unfoldable pub written_bundle : List Revision → List Revision → Bundle
written_bundle known rs = record {
  changesets = written_group known Changesets (of_group Changesets rs);
  manifests = written_group known Manifests (of_group Manifests rs);
  files = map (written_file known rs) (paths_in rs);
}

-- the bundle of the new changesets behind the old ones
abbrev pub hg_increment : List Revision → List ChangesetView → List ChangesetView → Bytes
hg_increment known old new = bundle_text (written_bundle known (brought_by old new))

-- ---- the stream

abbrev pub objects_in : List CommitView → List Object
objects_in commits = flat_map commit_objects commits

-- the objects of the new commits that the old ones don't have, per commit its blobs and trees and then itself
unfoldable pub git_increment : List CommitView → List CommitView → Bytes
git_increment old new = stream_text (only_new same_object (objects_in old) (objects_in new))
