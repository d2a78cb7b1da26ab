-- A changeset with its manifest, borrowed from a store, and why there is none.
use Rattle.std.specs.Prelude.{◌≡◌, ◌⊎◌, ℕ, Bool, not, false, List, Option, Some, None, position}
use Rattle.text_model.specs.Text.{Bytes}
use Rattle.text_model.specs.Id.{Id}
use Rattle.hg_model.specs.Changeset.{Changeset, IsChangesetText}
use Rattle.hg_model.specs.Manifest.{ManifestEntry, IsManifestText}
use Rattle.hg_model.specs.Revision.{Revision, Changesets, FilesAt, revision_of, knows}
use Rattle.hg_changeset.specs.Values.{changeset_value}
use Rattle.hg_store.specs.Known.{manifest_text_of}
use Rattle.hg_store.specs.declared.view.View.{View}
use Rattle.hg_store.specs.declared.fault.ViewFault.{ViewFault}
use Rattle.hg_store.specs.declared.fault.ViewFault.TheVariants.{ChangesetUnknown, ManifestUnknown, FileUnknown}

-- the node is that of a known changeset with these parents and these fields
pub record IsChangesetOf (known : List Revision) (node : Id) (p q : Id) (x : Changeset) : Type 0 where
  pub revision : Revision
  pub is_held : revision_of known Changesets node ≡ Some revision
  pub first : p ≡ revision.p
  pub second : q ≡ revision.q
  pub fields : IsChangesetText revision.text x

-- the node is that of a known manifest with these entries, or the null id of none
pub record IsManifestOf (known : List Revision) (node : Id) (entries : List ManifestEntry) : Type 0 where
  pub text : Bytes
  pub is_held : manifest_text_of known node ≡ Some text
  pub spells : IsManifestText text entries

-- the entry names a file revision that isn't known
abbrev pub is_unknown : List Revision → ManifestEntry → Bool
is_unknown known e = not (knows known (FilesAt e.path) e.node)

-- the line of the first such entry, counted from 0
abbrev pub first_unknown : List Revision → List ManifestEntry → Option ℕ
first_unknown known entries = position (is_unknown known) entries

-- the view of a node: its changeset, and the manifest that this names, whose file revisions are all known
pub record IsView (known : List Revision) (node : Id) (v : View) : Type 0 where
  pub changeset : IsChangesetOf known node v.p1 v.p2 (changeset_value (v.changeset).now)
  pub manifest_node : v.manifest_node ≡ ((v.changeset).now).manifest
  pub manifest : IsManifestOf known v.manifest_node (v.manifest).now
  pub files : first_unknown known (v.manifest).now ≡ None

-- a manifest of a known changeset that isn't known
pub record LacksManifest (known : List Revision) (node : Id) : Type 0 where
  pub p : Id
  pub q : Id
  pub fields : Changeset
  pub changeset : IsChangesetOf known node p q fields
  pub unknown : manifest_text_of known fields.manifest ≡ None

-- the manifest that a known changeset names, by its node
pub record IsManifestOfChangeset (known : List Revision) (node : Id) (manifest : Id) (entries : List ManifestEntry) : Type 0 where
  pub p : Id
  pub q : Id
  pub fields : Changeset
  pub changeset : IsChangesetOf known node p q fields
  pub named : manifest ≡ fields.manifest
  pub is_manifest : IsManifestOf known manifest entries

-- the changeset or its manifest isn't known
abbrev pub HasNoManifest : List Revision → Id → Type 0
HasNoManifest known node = (knows known Changesets node ≡ false) ⊎ LacksManifest known node

-- a manifest of a known changeset whose file revisions aren't all known
pub record LacksFile (known : List Revision) (node : Id) (line : ℕ) : Type 0 where
  pub p : Id
  pub q : Id
  pub fields : Changeset
  pub changeset : IsChangesetOf known node p q fields
  pub entries : List ManifestEntry
  pub manifest : IsManifestOf known fields.manifest entries
  pub first : first_unknown known entries ≡ Some line

-- why a node has no view
abbrev pub IsViewFault : List Revision → Id → ViewFault → Type 0
IsViewFault known node ChangesetUnknown = knows known Changesets node ≡ false
IsViewFault known node ManifestUnknown = LacksManifest known node
IsViewFault known node (FileUnknown line) = LacksFile known node line

-- two views with the same parents, fields, manifest and entries
pub record IsSameView (v w : View) : Type 0 where
  pub parents : (v.p1 ≡ w.p1) × (v.p2 ≡ w.p2)
  pub fields : changeset_value (v.changeset).now ≡ changeset_value (w.changeset).now
  pub manifest_node : v.manifest_node ≡ w.manifest_node
  pub entries : (v.manifest).now ≡ (w.manifest).now
