-- Which faults a pull may be refused for, whatever its input tells of its bytes.
use Rattle.std.specs.Prelude.{◌⊎◌, ⊤}
use Rattle.bridge_text.specs.declared.fault.Fault.{Fault}
use Rattle.bridge_text.specs.declared.fault.Fault.TheVariants as name
use Rattle.bridge_text.specs.Refusals.{fault_name}
use Rattle.hg_bundle.specs.Faults.{IsBundleName}
use Rattle.git_batch.specs.StreamFaults.{IsStreamName}
use Rattle.pull_outcome.specs.declared.refused.PullFault.{PullFault}
use Rattle.pull_outcome.specs.declared.refused.PullFault.TheVariants.{Refused, Read, Memory}

-- what a changeset of a bundle is refused for, what belongs to none, and a link that stands in no block
abbrev pub IsChangesetName : Fault → Type 0
IsChangesetName name.ManifestUnknown = ⊤
IsChangesetName name.FileUnknown = ⊤
IsChangesetName name.PathClash = ⊤
IsChangesetName name.ParentIsLink = ⊤
IsChangesetName name.NestLimit = ⊤
IsChangesetName name.PairLimit = ⊤
IsChangesetName name.FileParentLate = ⊤
IsChangesetName name.ManifestParentLate = ⊤
IsChangesetName name.Collision = ⊤
IsChangesetName name.Orphan = ⊤
IsChangesetName name.DanglingLink = ⊤
IsChangesetName other = ⊥

-- what a commit of a stream is refused for
abbrev pub IsCommitName : Fault → Type 0
IsCommitName name.ParentUnknown = ⊤
IsCommitName name.ObjectUnknown = ⊤
IsCommitName name.PathUnfit = ⊤
IsCommitName name.NestLimit = ⊤
IsCommitName name.PairLimit = ⊤
IsCommitName name.FileParentLate = ⊤
IsCommitName name.ManifestParentLate = ⊤
IsCommitName name.Collision = ⊤
IsCommitName other = ⊥

-- a fault of a pull of a bundle: one of reading it, or one of its changesets
abbrev pub IsOfPullHg : PullFault → Type 0
IsOfPullHg (Refused why) = IsBundleName why.fault ⊎ IsChangesetName why.fault
IsOfPullHg Read = ⊤
IsOfPullHg Memory = ⊤

-- a fault of a pull of a stream: one of reading it, or one of its commits
abbrev pub IsOfPullGit : PullFault → Type 0
IsOfPullGit (Refused why) = IsStreamName (fault_name why.fault) ⊎ IsCommitName why.fault
IsOfPullGit Read = ⊤
IsOfPullGit Memory = ⊤
