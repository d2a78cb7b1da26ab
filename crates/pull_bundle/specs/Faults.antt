-- Why a changeset gets no block, part by part.
use Rattle.std.specs.Prelude.{List, IsTrue, ⊤}
use Rattle.text_model.specs.Fault.{FaultName}
use Rattle.text_model.specs.Fault as fault
use Rattle.hg_model.specs.Revision.{Revision}
use Rattle.view_model.specs.View.{ChangesetView}
use Rattle.pair_model.specs.Block.{Block}
use Rattle.partner_model.specs.Given.{has_late_file, has_late_manifest}
use Rattle.history_model.specs.Pull.{Unless, Nothing, LacksManifest, LacksFile}
use Rattle.pull_outcome.specs.Names.{IsChangesetName}
use Rattle.pull_outcome.specs.declared.refused.PullFault.{PullFault}
use Rattle.pull_outcome.specs.declared.refused.PullFault.TheVariants as pull
use Rattle.pull_outcome.specs.declared.take_fault.TakeFault.{TakeFault}
use Rattle.pull_outcome.specs.declared.take_fault.TakeFault.TheVariants.{Refused, Memory}

-- the fault is one of a changeset
abbrev pub IsOfChangeset : TakeFault → Type 0
IsOfChangeset (Refused why) = IsChangesetName why
IsOfChangeset Memory = ⊤

-- no read has failed
abbrev pub IsNoRead : PullFault → Type 0
IsNoRead (pull.Refused why) = ⊤
IsNoRead pull.Read = ⊥
IsNoRead pull.Memory = ⊤

-- what a known changeset lacks
abbrev pub ViewLacks : List Revision → Revision → FaultName → Type 0
ViewLacks known r = Unless (LacksManifest known r) fault.ManifestUnknown (Unless (LacksFile known r) fault.FileUnknown Nothing)

-- why a changeset comes too early, over the blocks before it
abbrev pub IsLate : List Block → ChangesetView → FaultName → Type 0
IsLate blocks h =
    Unless (IsTrue (has_late_file blocks h.rows)) fault.FileParentLate
    (Unless (IsTrue (has_late_manifest blocks h.manifest)) fault.ManifestParentLate Nothing)
