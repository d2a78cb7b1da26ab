-- Which names of refusals a command may answer, whatever its input and its slot tell.
use Rattle.std.specs.Prelude.{◌≡◌, ◌⊎◌, ⊤}
use Rattle.text_model.specs.Fault.{FaultName}
use Rattle.text_model.specs.Fault as name
use Rattle.bridge_text.specs.Refusals.{fault_name}
use Rattle.bridge_text.specs.declared.fault.Fault.{Fault}
use Rattle.bridge_text.specs.declared.fault.Fault.TheVariants as code
use Rattle.hg_bundle.specs.Faults.{IsFramingName, IsBundleName}
use Rattle.git_batch.specs.StreamFaults.{IsStreamName}
use Rattle.pull_outcome.specs.Names.{IsChangesetName, IsCommitName}
use Rattle.ref_map.specs.declared.row.Side.TheVariants.{Hg, Git}
use Rattle.name_engine.specs.Names.{IsNameOf}
use Rattle.make_engine.specs.Names.{IsMakeName}
use Rattle.command_model.specs.Command.{Command, ListHg, CheckHg, ListGit, CheckGit, PullHg, PullGit, SetNamesHg, SetNamesGit, Make}

-- the name of a fault of which this is said
abbrev pub NameOf : (Fault → Type 0) → FaultName → Type 0
NameOf Says name = (fault : Fault) × (fault_name fault ≡ name) × Says fault

-- what the framing of a stream is refused for
abbrev pub IsLineName : FaultName → Type 0
IsLineName name.Line = ⊤
IsLineName name.Missing = ⊤
IsLineName name.KindUnknown = ⊤
IsLineName name.Limit = ⊤
IsLineName name.Truncated = ⊤
IsLineName name.InputLimit = ⊤
IsLineName other = ⊥

-- what a pull of a bundle is refused for: what the bundle is, one of its changesets, or a limit of the state
abbrev pub IsPullHgName : Fault → Type 0
IsPullHgName fault = (IsBundleName fault ⊎ IsChangesetName fault) ⊎ (fault ≡ code.StateLimit)

-- what a pull of a stream is refused for: what the stream is, one of its commits, the target of one of its tags, or a limit of the state
abbrev pub IsPullGitName : Fault → Type 0
IsPullGitName fault = (IsStreamName (fault_name fault) ⊎ IsCommitName fault) ⊎ (fault ≡ code.ObjectUnknown) ⊎ (fault ≡ code.StateLimit)

-- the command may answer this name; a command that writes what is saved, and an audit, refuse nothing
abbrev pub MayRefuse : Command → FaultName → Type 0
MayRefuse ListHg = NameOf IsFramingName
MayRefuse CheckHg = NameOf IsBundleName
MayRefuse ListGit = IsLineName
MayRefuse CheckGit = IsStreamName
MayRefuse PullHg = NameOf IsPullHgName
MayRefuse PullGit = NameOf IsPullGitName
MayRefuse SetNamesHg = NameOf (IsNameOf Hg)
MayRefuse SetNamesGit = NameOf (IsNameOf Git)
MayRefuse (Make n seed) = NameOf (λ fault. IsMakeName fault ⊎ IsPullHgName fault ⊎ IsPullGitName fault)
MayRefuse other = λ name. ⊥
