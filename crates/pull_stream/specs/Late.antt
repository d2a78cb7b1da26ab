-- Parents of the file revisions and of the manifest of a changeset that no store has.
use Rattle.std.specs.Prelude.{List}
use Rattle.text_model.specs.Lists.{Each}
use Rattle.text_model.specs.Fault.{FaultName}
use Rattle.text_model.specs.Fault as fault
use Rattle.hg_model.specs.Revision.{Revision}
use Rattle.view_model.specs.View.{ChangesetView}
use Rattle.pair_known.specs.Ruled.{HasFileParents, HasManifestParents}
use Rattle.history_model.specs.Pull.{Unless, Nothing}

-- each parent of a file revision is known
abbrev pub AreFilesInTime : List Revision → ChangesetView → Type 0
AreFilesInTime known h = Each (HasFileParents known) h.rows

-- why a changeset comes too early
abbrev pub IsLate : List Revision → ChangesetView → FaultName → Type 0
IsLate known h =
    Unless (¬ (AreFilesInTime known h)) fault.FileParentLate
    (Unless (¬ (HasManifestParents known h.manifest)) fault.ManifestParentLate Nothing)
