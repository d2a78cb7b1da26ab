-- What is held stays held where more is known.
use Rattle.std.proofs.Common.{◌≡◌, Bool, true, false, List, [], ◌∷◌, ◌++◌, Some, if◌then◌else◌}
use Rattle.text_model.specs.Id.{Id}
use Rattle.text_model.proofs.EachLemmas.{Each-weaker}
use Rattle.text_model.proofs.Elements.{find-more}
use Rattle.hg_model.specs.Revision.{Group, Changesets, Manifests, FilesAt, Revision, is_of, revision_of, knows, known_after, known_after_all}
use Rattle.view_model.specs.View.{ChangesetView, Row, ManifestParents, NoManifest, Over, file_node}
use Rattle.view_model.specs.Held.{IsFileHeld, IsManifestHeld, IsChangesetHeld}

-- all that is found in the first is found in the second
abbrev pub IsMore : List Revision → List Revision → Type 0
IsMore known other = (group : Group) (node : Id) (r : Revision) → revision_of known group node ≡ Some r → revision_of other group node ≡ Some r

pub more-after : (known : List Revision) (r : Revision) → IsMore known (known_after known r)
more-after known r group node s h = by (knows known r.group r.node)
  where
    by : (t : Bool) → revision_of (if t then known else known ++ r ∷ []) group node ≡ Some s
    by true = h
    by false = find-more (is_of group node) known (r ∷ []) s h

pub more-all : (known rs : List Revision) → IsMore known (known_after_all known rs)
more-all known [] group node s h = h
more-all known (r ∷ rs) group node s h = more-all (known_after known r) rs group node s (more-after known r group node s h)

module _ (known other : List Revision) (more : IsMore known other) where
  file-more : (row : Row) → IsFileHeld known row → IsFileHeld other row
  file-more row h = record { revision = h.revision; is_held = more (FilesAt row.path) (file_node row.revision) h.revision h.is_held; parents = h.parents; text = h.text }

  manifest-more : (node : Id) (m : ManifestParents) (rows : List Row) → IsManifestHeld known node m rows → IsManifestHeld other node m rows
  manifest-more node NoManifest rows h = h
  manifest-more node (Over p q) rows h = record { revision = h.revision; is_held = more Manifests node h.revision h.is_held; parents = h.parents; text = h.text }

  pub view-more : (node : Id) (h : ChangesetView) → IsChangesetHeld known node h → IsChangesetHeld other node h
  view-more node h x = record {
    revision = x.revision;
    is_held = more Changesets node x.revision x.is_held;
    parents = x.parents;
    fields = x.fields;
    manifest = manifest-more (h.fields).manifest h.manifest h.rows x.manifest;
    files = Each-weaker (IsFileHeld known) (IsFileHeld other) file-more h.rows x.files;
  }
