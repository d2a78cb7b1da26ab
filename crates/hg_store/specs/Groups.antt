-- What this crate's groups, revisions and values are in the words of the model.
use Rattle.std.specs.Prelude.{◌≡◌, ◌≢◌, ◌<◌, ◌==◌, ℕ, Bool, true, false, List, map, length, Option, Some, option_map, position, slice_index_or, AllPairs, ◌++◌, bytes_eq, [], ⊤}
use Rattle.std.specs.Global.{Vec}
use Rattle.text_model.specs.Lists.{Each}
use Rattle.text_model.specs.Text.{Bytes}
use Rattle.text_model.specs.Id.{Id}
use Rattle.hg_model.specs.Changeset.{IsChangesetText}
use Rattle.hg_model.specs.Manifest.{ManifestEntry, IsManifestText}
use Rattle.hg_model.specs.Revision as model
use Rattle.hg_model.specs.Revision.{Revision}
use Rattle.hg_changeset.specs.Values.{changeset_value}
use Rattle.hg_manifest.specs.Beside.{IsNewer}
use Rattle.hg_store.specs.declared.group.Group.{Group}
use Rattle.hg_store.specs.declared.group.Group.TheVariants as group
use Rattle.hg_store.specs.declared.group.KeyGroup.{KeyGroup}
use Rattle.hg_store.specs.declared.group.KeyGroup.TheVariants as key
use Rattle.hg_store.specs.declared.held.Key.{Key}
use Rattle.hg_store.specs.declared.held.Held.{Held}
use Rattle.hg_store.specs.declared.held.Parsed.{Parsed}
use Rattle.hg_store.specs.declared.held.Parsed.TheVariants as parsed
use Rattle.hg_store.specs.declared.addition.Addition.{Addition}
use Rattle.hg_store.specs.Known.{AreAdded, HasBlob}
use Rattle.hg_store.specs.Views.{IsManifestOf}

-- the group that a value of the enum stands for
abbrev pub group_value : Group → model.Group
group_value group.Changesets = model.Changesets
group_value group.Manifests = model.Manifests
group_value (group.FilesAt path) = model.FilesAt path.now

-- the revision that is to be added
abbrev pub revision_value : Addition → Revision
revision_value a = record { group = group_value a.group; node = a.node; p = a.p; q = a.q; link = a.link; text = a.text }

-- paths as lists of bytes
abbrev pub paths_in : List (Vec ℕ) → List Bytes
paths_in keys = map (λ k. k.items) keys

-- the group with the number of its path
abbrev pub key_group : List (Vec ℕ) → model.Group → Option KeyGroup
key_group paths model.Changesets = Some key.Changesets
key_group paths model.Manifests = Some key.Manifests
key_group paths (model.FilesAt path) = option_map key.FilesAt (position (λ k. bytes_eq path k.items) paths)

-- the group whose path has the number
abbrev pub group_in : List Bytes → KeyGroup → model.Group
group_in paths key.Changesets = model.Changesets
group_in paths key.Manifests = model.Manifests
group_in paths (key.FilesAt number) = model.FilesAt (slice_index_or paths number [])

abbrev pub HasNumber : List Bytes → KeyGroup → Type 0
HasNumber paths key.Changesets = ⊤
HasNumber paths key.Manifests = ⊤
HasNumber paths (key.FilesAt number) = number < length paths

-- the same group, told by numbers
abbrev pub same_key_group : KeyGroup → KeyGroup → Bool
same_key_group key.Changesets key.Changesets = true
same_key_group key.Manifests key.Manifests = true
same_key_group (key.FilesAt number) (key.FilesAt other) = number == other
same_key_group _ _ = false

-- the number is that of the group's path
pub record IsNumberOf (paths : List Bytes) (group : model.Group) (key : KeyGroup) : Type 0 where
  pub within : HasNumber paths key
  pub is : group_in paths key ≡ group

-- Paths came behind those that stood there, and each still stands once.
pub record AreGrown (old new : List Bytes) : Type 0 where
  pub more : List Bytes
  pub whole : new ≡ old ++ more
  pub apart : AllPairs (λ x y. x ≢ y) old → AllPairs (λ x y. x ≢ y) new

-- a revision of a group with a node
abbrev pub held_revision : model.Group → Id → Held → Revision
held_revision group node h = record { group = group; node = node; p = h.p; q = h.q; link = h.link; text = h.text }

abbrev pub revision_in : List Bytes → Key × Held → Revision
revision_in paths e = held_revision (group_in paths e.0.group) e.0.node e.1

abbrev pub revisions_in : List Bytes → List (Key × Held) → List Revision
revisions_in paths entries = map (revision_in paths) entries

-- what was parsed is what the text says
abbrev pub HasValue : model.Group → Bytes → Parsed → Type 0
HasValue model.Changesets text (parsed.Changeset x) = IsChangesetText text (changeset_value x)
HasValue model.Manifests text (parsed.Manifest entries newer) = IsManifestText text entries
HasValue (model.FilesAt path) text (parsed.File blob) = HasBlob text blob
HasValue _ _ _ = ⊥

-- what was parsed of a manifest tells which of its lines another one may lack
abbrev pub IsNewerThan : List ManifestEntry → Parsed → Type 0
IsNewerThan others (parsed.Changeset x) = ⊤
IsNewerThan others (parsed.Manifest entries newer) = IsNewer others newer entries
IsNewerThan others (parsed.File blob) = ⊤

-- the other one is that of this node, the first parent's
abbrev pub IsNewerIn : List Revision → Id → Parsed → Type 0
IsNewerIn known p (parsed.Changeset x) = ⊤
IsNewerIn known p (parsed.Manifest entries newer) = (others : List ManifestEntry) × IsManifestOf known p others × IsNewer others newer entries
IsNewerIn known p (parsed.File blob) = ⊤

-- Each path stands once, each number is that of a path, what was parsed is what the texts say, and each revision was added to those before it.
pub record IsStore (paths : List Bytes) (entries : List (Key × Held)) : Type 0 where
  pub apart : AllPairs (λ x y. x ≢ y) paths
  pub numbers : Each (λ e. HasNumber paths e.0.group) entries
  pub values : Each (λ e. HasValue (group_in paths e.0.group) e.1.text e.1.parsed) entries
  pub newer : Each (λ e. IsNewerIn (revisions_in paths entries) e.1.p e.1.parsed) entries
  pub added : AreAdded (revisions_in paths entries)
