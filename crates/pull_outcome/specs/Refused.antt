-- Why a pull fails, in the words of the model.
use Rattle.std.specs.Prelude.{◌≡◌, ℕ, Result, MatchResult, ⊤}
use Rattle.text_model.specs.Fault.{Refusal}
use Rattle.bridge_io.specs.Causes.{Rose}
use Rattle.hg_bundle.specs.declared.fault.BundleFault.{BundleFault}
use Rattle.hg_bundle.specs.declared.fault.BundleFault.TheVariants as bundle
use Rattle.git_batch.specs.declared.stream_fault.StreamFault.{StreamFault}
use Rattle.git_batch.specs.declared.stream_fault.StreamFault.TheVariants as stream
use Rattle.pull_outcome.specs.declared.refused.PullFault.{PullFault}
use Rattle.pull_outcome.specs.declared.refused.PullFault.TheVariants.{Refused, Read, Memory}
use Rattle.bridge_text.specs.Refusals.{refusal_value}

abbrev pub bundle_refused : BundleFault → PullFault
bundle_refused (bundle.Refused why) = Refused why
bundle_refused bundle.Read = Read
bundle_refused bundle.Memory = Memory

abbrev pub stream_refused : StreamFault → PullFault
stream_refused (stream.Refused why) = Refused why
stream_refused stream.Read = Read
stream_refused stream.Memory = Memory

-- a refusal is one of those that are due; of a fault of the outside and of memory nothing is told here
abbrev pub IsRefusedBy : (Refusal → Type 0) → PullFault → Type 0
IsRefusedBy Due (Refused why) = Due (refusal_value why)
IsRefusedBy Due Read = ⊤
IsRefusedBy Due Memory = ⊤

-- a failed read raises the count of the input's faults, and nothing else changes it
abbrev pub FaultCause : ℕ → ℕ → PullFault → Type 0
FaultCause before now Read = Rose before now
FaultCause before now fault = now ≡ before

abbrev pub AnswerCause : {T : Type 0} → ℕ → ℕ → Result T PullFault → Type 0
AnswerCause before now result = MatchResult result (λ _. now ≡ before) (FaultCause before now)
