-- Which refusal a fault of reading a stream is, and what it says of the source.
use Rattle.std.specs.Prelude.{◌≡◌, ℕ, Option, Some, Result, MatchResult, ⊤}
use Rattle.text_model.specs.Id.{Id, null}
use Rattle.text_model.specs.Fault.{FaultName, Refusal, input_limit}
use Rattle.text_model.specs.Fault as fault
use Rattle.bridge_io.specs.Causes.{Rose}
use Rattle.bridge_text.specs.declared.fault.Fault.TheVariants as refused
use Rattle.bridge_text.specs.Refusals.{fault_name, refusal_value}
use Rattle.git_batch.specs.declared.fault.BatchFault.{BatchFault}
use Rattle.git_batch.specs.declared.fault.BatchFault.TheVariants as batch
use Rattle.git_store.specs.declared.fault.GitAddFault.{GitAddFault}
use Rattle.git_store.specs.declared.fault.GitAddFault.TheVariants as add
use Rattle.git_batch.specs.declared.stream_fault.StreamFault.{StreamFault}
use Rattle.git_batch.specs.declared.stream_fault.StreamFault.TheVariants.{Refused, Read, Memory}

-- the names for which a stream is refused
abbrev pub IsStreamName : FaultName → Type 0
IsStreamName fault.Truncated = ⊤
IsStreamName fault.InputLimit = ⊤
IsStreamName fault.Limit = ⊤
IsStreamName fault.Line = ⊤
IsStreamName fault.Missing = ⊤
IsStreamName fault.KindUnknown = ⊤
IsStreamName fault.IdWrong = ⊤
IsStreamName fault.ObjectShape = ⊤
IsStreamName fault.ModeOut = ⊤
IsStreamName fault.NameUnfit = ⊤
IsStreamName fault.ParentTwice = ⊤
IsStreamName fault.ParentLimit = ⊤
IsStreamName fault.Collision = ⊤
IsStreamName other = ⊥

-- a refusal has one of these names
abbrev pub IsOfStream : StreamFault → Type 0
IsOfStream (Refused why) = IsStreamName (fault_name why.fault)
IsOfStream Read = ⊤
IsOfStream Memory = ⊤

-- The fault is what the bytes are refused for. What the source and the memory do isn't told by the bytes.
abbrev pub IsFault : Option Refusal → StreamFault → Type 0
IsFault why (Refused it) = why ≡ Some (refusal_value it)
IsFault why Read = ⊤
IsFault why Memory = ⊤

-- the same of a fault that no source makes
abbrev pub IsJudgement : Option Refusal → StreamFault → Type 0
IsJudgement why (Refused it) = why ≡ Some (refusal_value it)
IsJudgement why Read = ⊥
IsJudgement why Memory = ⊤

-- the fault of a stream that a fault of its reader is
abbrev pub stream_fault : BatchFault → StreamFault
stream_fault batch.Read = Read
stream_fault (batch.Line at) = Refused (record { fault = refused.Line; id = null; place = at })
stream_fault (batch.Missing at) = Refused (record { fault = refused.Missing; id = null; place = at })
stream_fault (batch.KindUnknown id at) = Refused (record { fault = refused.KindUnknown; id = id; place = at })
stream_fault (batch.Limit at) = Refused (record { fault = refused.Limit; id = null; place = at })
stream_fault (batch.Truncated at) = Refused (record { fault = refused.Truncated; id = null; place = at })
stream_fault batch.InputLimit = Refused (record { fault = refused.InputLimit; id = null; place = input_limit })
stream_fault (batch.IdWrong id at) = Refused (record { fault = refused.IdWrong; id = id; place = at })
stream_fault batch.Memory = Memory

-- the fault of an object with this id, whose line stands at this offset, that can't be added
abbrev pub addition_fault_at : GitAddFault → Id → ℕ → StreamFault
addition_fault_at add.ObjectShape id at = Refused (record { fault = refused.ObjectShape; id = id; place = at })
addition_fault_at add.ModeOut id at = Refused (record { fault = refused.ModeOut; id = id; place = at })
addition_fault_at add.NameUnfit id at = Refused (record { fault = refused.NameUnfit; id = id; place = at })
addition_fault_at add.ParentTwice id at = Refused (record { fault = refused.ParentTwice; id = id; place = at })
addition_fault_at add.ParentLimit id at = Refused (record { fault = refused.ParentLimit; id = id; place = at })
addition_fault_at add.Collision id at = Refused (record { fault = refused.Collision; id = id; place = at })
addition_fault_at add.Memory id at = Memory

-- `Read` raises the count of the source's faults, and every other fault leaves it
abbrev pub FaultCause : ℕ → ℕ → StreamFault → Type 0
FaultCause before now (Refused why) = now ≡ before
FaultCause before now Read = Rose before now
FaultCause before now Memory = now ≡ before

-- an answer leaves the count, and a fault has its cause
abbrev pub AnswerCause : {T : Type 0} → ℕ → ℕ → Result T StreamFault → Type 0
AnswerCause before now result = MatchResult result (λ _. now ≡ before) (FaultCause before now)
