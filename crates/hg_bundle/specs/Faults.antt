-- Which refusal a fault of reading a bundle is.
use Rattle.std.specs.Prelude.{◌≡◌, ℕ, Option, Some, Result, MatchResult, ⊤}
use Rattle.text_model.specs.Id.{Id, null}
use Rattle.text_model.specs.Fault.{Refusal, input_limit}
use Rattle.bridge_text.specs.Refusals.{refusal_value}
use Rattle.bridge_text.specs.declared.fault.Fault.{Fault}
use Rattle.bridge_text.specs.declared.fault.Fault.TheVariants as name
use Rattle.bridge_io.specs.Causes.{Rose}
use Rattle.hg_chunk.specs.declared.fault.ChunkFault.{ChunkFault}
use Rattle.hg_chunk.specs.declared.fault.ChunkFault.TheVariants as chunk
use Rattle.hg_store.specs.declared.fault.AddFault.{AddFault}
use Rattle.hg_store.specs.declared.fault.AddFault.TheVariants as add
use Rattle.hg_bundle.specs.declared.fault.BundleFault.{BundleFault}
use Rattle.hg_bundle.specs.declared.fault.BundleFault.TheVariants.{Refused, Read, Memory}

-- The fault is what the bytes are refused for. What the source and the memory do isn't told by the bytes.
abbrev pub IsFault : Option Refusal → BundleFault → Type 0
IsFault why (Refused refusal) = why ≡ Some (refusal_value refusal)
IsFault why Read = ⊤
IsFault why Memory = ⊤

-- the same of a fault that no source makes
abbrev pub IsJudgement : Option Refusal → BundleFault → Type 0
IsJudgement why (Refused refusal) = why ≡ Some (refusal_value refusal)
IsJudgement why Read = ⊥
IsJudgement why Memory = ⊤

-- ---- which faults come, whatever the source tells of its bytes

-- what the framing of a bundle is refused for
abbrev pub IsFramingName : Fault → Type 0
IsFramingName name.Truncated = ⊤
IsFramingName name.Length = ⊤
IsFramingName name.Limit = ⊤
IsFramingName name.Trailing = ⊤
IsFramingName name.Magic = ⊤
IsFramingName name.OtherBundle = ⊤
IsFramingName name.InputLimit = ⊤
IsFramingName name.HeaderShort = ⊤
IsFramingName other = ⊥

-- what a bundle is refused for: its framing, a path, or a revision that it brings
abbrev pub IsBundleName : Fault → Type 0
IsBundleName name.ParentOrder = ⊤
IsBundleName name.ParentUnknown = ⊤
IsBundleName name.LinkUnknown = ⊤
IsBundleName name.HunkShape = ⊤
IsBundleName name.HunkRange = ⊤
IsBundleName name.NodeWrong = ⊤
IsBundleName name.ChangesetShape = ⊤
IsBundleName name.ManifestShape = ⊤
IsBundleName name.PathUnfit = ⊤
IsBundleName name.FileShape = ⊤
IsBundleName name.Collision = ⊤
IsBundleName fault = IsFramingName fault

-- a fault of a listing
abbrev pub IsListFault : BundleFault → Type 0
IsListFault (Refused refusal) = IsFramingName refusal.fault
IsListFault Read = ⊤
IsListFault Memory = ⊤

-- a fault of reading into a store
abbrev pub IsReadFault : BundleFault → Type 0
IsReadFault (Refused refusal) = IsBundleName refusal.fault
IsReadFault Read = ⊤
IsReadFault Memory = ⊤

-- ---- what the faults of chunks and of additions become

-- refused for a fault of a revision, at an offset
abbrev pub refused_for : Fault → Id → ℕ → BundleFault
refused_for fault id place = Refused (record { fault = fault; id = id; place = place })

-- the fault of a bundle that a fault of a chunk is
abbrev pub bundle_fault : ChunkFault → BundleFault
bundle_fault chunk.Read = Read
bundle_fault (chunk.Truncated at) = refused_for name.Truncated null at
bundle_fault (chunk.Length at) = refused_for name.Length null at
bundle_fault (chunk.Limit at) = refused_for name.Limit null at
bundle_fault (chunk.Trailing at) = refused_for name.Trailing null at
bundle_fault chunk.Magic = refused_for name.Magic null 0
bundle_fault chunk.OtherBundle = refused_for name.OtherBundle null 0
bundle_fault chunk.InputLimit = refused_for name.InputLimit null input_limit
bundle_fault chunk.Memory = Memory

-- the fault of an entry with this node, at this offset, that can't be added
abbrev pub addition_fault_at : AddFault → Id → ℕ → BundleFault
addition_fault_at add.ParentOrder id at = refused_for name.ParentOrder id at
addition_fault_at add.ParentUnknown id at = refused_for name.ParentUnknown id at
addition_fault_at add.LinkUnknown id at = refused_for name.LinkUnknown id at
addition_fault_at add.NodeWrong id at = refused_for name.NodeWrong id at
addition_fault_at add.ChangesetShape id at = refused_for name.ChangesetShape id at
addition_fault_at add.ManifestShape id at = refused_for name.ManifestShape id at
addition_fault_at add.PathUnfit id at = refused_for name.PathUnfit id at
addition_fault_at add.FileShape id at = refused_for name.FileShape id at
addition_fault_at add.Collision id at = refused_for name.Collision id at
addition_fault_at add.Memory id at = Memory

-- `Read` raises the count of the source's faults, and every other fault leaves it
abbrev pub FaultCause : ℕ → ℕ → BundleFault → Type 0
FaultCause before now (Refused refusal) = now ≡ before
FaultCause before now Read = Rose before now
FaultCause before now Memory = now ≡ before

-- an answer leaves the count, and a fault has its cause
abbrev pub AnswerCause : {T : Type 0} → ℕ → ℕ → Result T BundleFault → Type 0
AnswerCause before now result = MatchResult result (λ _. now ≡ before) (FaultCause before now)
