-- Why steps of a pull fail, in the words of the model.
use Rattle.std.specs.Prelude.{ℕ, ⊤}
use Rattle.text_model.specs.Id.{Id}
use Rattle.text_model.specs.Fault.{Refusal}
use Rattle.bridge_text.specs.Refusals.{refusal_value}
use Rattle.pull_outcome.specs.Names.{IsCommitName}
use Rattle.pull_outcome.specs.declared.refused.PullFault.{PullFault}
use Rattle.pull_outcome.specs.declared.refused.PullFault.TheVariants as pull
use Rattle.pull_outcome.specs.declared.take_fault.TakeFault.{TakeFault}
use Rattle.pull_outcome.specs.declared.take_fault.TakeFault.TheVariants.{Refused, Memory}

-- the fault is one of a commit
abbrev pub IsOfCommit : TakeFault → Type 0
IsOfCommit (Refused why) = IsCommitName why
IsOfCommit Memory = ⊤

-- the refusal is one that is due, and no input was read; of memory nothing is told
abbrev pub IsJudgement : (Refusal → Type 0) → PullFault → Type 0
IsJudgement Due (pull.Refused why) = Due (refusal_value why)
IsJudgement Due pull.Read = ⊥
IsJudgement Due pull.Memory = ⊤

-- the fault of the commit with this id, which came at this place
abbrev pub placed_fault : Id → ℕ → TakeFault → PullFault
placed_fault id at (Refused why) = pull.Refused (record { fault = why; id = id; place = at })
placed_fault id at Memory = pull.Memory
