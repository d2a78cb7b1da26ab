-- When a written bundle can be read, and what is read then.
use Rattle.std.specs.Prelude.{◌≡◌, ℕ, ◌≤◌, ◌⊎◌, true, List, [], ◌∷◌, ◌++◌, length, take, drop, map, Some, Ok, ⊤}
use Rattle.std.specs.List.{flat_map}
use Rattle.text_model.specs.Lists.{Each}
use Rattle.text_model.specs.Text.{Bytes}
use Rattle.text_model.specs.Fault.{input_limit}
use Rattle.text_model.specs.Id.{Id}
use Rattle.hg_model.specs.Revision.{Changesets, Manifests, FilesAt, Revision, revision_of, knows, same_parents, is_known_parent}
use Rattle.hg_model.specs.Changeset.{changeset_text}
use Rattle.hg_model.specs.Reading.{Arrival, bundle_reading}
use Rattle.hg_bundle.specs.Arrivals.{arrival_of, revisions_of}
use Rattle.hg_bundle.specs.Brought.{AreListed}
use Rattle.hg_store.specs.Known.{AreAdded}
use Rattle.view_model.specs.Held.{AreChangesetsHeld}
use Rattle.view_model.specs.View.{ChangesetView, commit_limit}
use Rattle.view_model.specs.Dump as dump
use Rattle.view_model.specs.Dump.{of_group, paths_in, brought_by, hg_increment, revisions_in}

-- ---- what is known to the reader

-- the revision is one of those known, up to its link and the order of a manifest's or a file's parents
pub record IsOneOf (known : List Revision) (r : Revision) : Type 0 where
  pub revision : Revision
  pub is_held : revision_of known r.group r.node ≡ Some revision
  pub text : r.text ≡ revision.text
  pub parents : same_parents r.group r.p r.q revision.p revision.q ≡ true

-- the reader knows the revisions to which the old changesets refer, and none that the written store doesn't hold
pub record KnowsOld (known base : List Revision) (old : List ChangesetView) : Type 0 where
  pub has_old : Each (λ r. knows base r.group r.node ≡ true) (revisions_in old)
  pub of_store : Each (IsOneOf known) base

-- ---- what is written

-- both parents are null or among these revisions
abbrev pub HasParents : List Revision → Revision → Type 0
HasParents before r = (is_known_parent before r.group r.p ≡ true) × (is_known_parent before r.group r.q ≡ true)

-- A changeset, and each manifest and each file revision at the first changeset that refers to it, has parents to which earlier changesets refer.
abbrev pub AreParentsEarlier : List Revision → List ChangesetView → Type 0
AreParentsEarlier before [] = ⊤
AreParentsEarlier before (h ∷ hs) =
    Each (λ r. (knows before r.group r.node ≡ true) ⊎ HasParents before r) (dump.revisions_of h) × AreParentsEarlier (before ++ dump.revisions_of h) hs

-- the revisions in the order of their bundle: changesets, manifests, and the files by rising paths
unfoldable pub in_bundle_order : List Revision → List Revision
in_bundle_order rs = of_group Changesets rs ++ (of_group Manifests rs ++ flat_map (λ path. of_group (FilesAt path) rs) (paths_in rs))

-- the texts of the new changesets are within their limit, and their bundle is within that of an input
pub record IsShortIncrement (known : List Revision) (old new : List ChangesetView) : Type 0 where
  pub changesets : Each (λ h. length (changeset_text h.fields) ≤ commit_limit) new
  pub bundle : length (hg_increment known old new) ≤ input_limit

-- The changesets from a place on are written from a store. The reader knows to what those before refer.
pub record IsIncrement (known base : List Revision) (nodes : List Id) (hs : List ChangesetView) (from : ℕ) : Type 0 where
  pub added : AreAdded known
  pub held : AreChangesetsHeld known nodes hs
  pub knows_old : KnowsOld known base (take from hs)
  pub parents : AreParentsEarlier (revisions_in (take from hs)) (drop from hs)
  pub short : IsShortIncrement known (take from hs) (drop from hs)

-- the revisions that are written, in the order of their bundle
abbrev pub written_revisions : List ChangesetView → ℕ → List Revision
written_revisions hs from = in_bundle_order (brought_by (take from hs) (drop from hs))

-- the bytes are read, and bring these revisions; each is listed, and is fresh unless it is known by then
abbrev pub Brings : List Revision → Bytes → List Revision → Type 0
Brings base bytes revisions =
    (arrivals : List Arrival) × (bundle_reading base bytes ≡ Ok arrivals) × (revisions_of arrivals ≡ revisions) × AreListed base revisions (map arrival_of arrivals)
