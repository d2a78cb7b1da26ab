-- Lines of manifests, and manifests that were walked before.
use Rattle.std.specs.Prelude.{◌≡◌, true, List}
use Rattle.text_model.specs.Lists.{Each}
use Rattle.text_model.specs.Id.{Id, has_id}
use Rattle.hg_model.specs.Manifest.{ManifestEntry}
use Rattle.hg_model.specs.Revision.{Revision, FilesAt, knows}
use Rattle.hg_store.specs.Views.{IsManifestOf}

-- the file revision that a line names is known
abbrev pub IsLineKnown : List Revision → ManifestEntry → Type 0
IsLineKnown known e = knows known (FilesAt e.path) e.node ≡ true

-- the file revisions that a manifest names are known
abbrev pub AreLinesKnown : List Revision → List ManifestEntry → Type 0
AreLinesKnown known entries = Each (IsLineKnown known) entries

-- what is said of the lines of each manifest with one of these nodes
abbrev pub AreWalked : List Revision → List Id → (List ManifestEntry → Type 0) → Type 0
AreWalked known walked IsSo = (node : Id) (entries : List ManifestEntry) → has_id walked node ≡ true → IsManifestOf known node entries → IsSo entries

-- the file revisions that manifests with these nodes name are known
abbrev pub AreManifestsKnown : List Revision → List Id → Type 0
AreManifestsKnown known walked = AreWalked known walked (AreLinesKnown known)
