-- Why nothing is counted, in the words of the model.
use Rattle.std.specs.Prelude.{⊤}
use Rattle.text_model.specs.Fault as model
use Rattle.text_model.specs.Id.{null}
use Rattle.bridge_text.specs.declared.fault.Fault.{Fault}
use Rattle.bridge_text.specs.declared.fault.Fault.TheVariants as code
use Rattle.bridge_text.specs.Refusals.{refusal_value}
use Rattle.make_history.specs.declared.fault.MakeFault.{MakeFault}
use Rattle.make_history.specs.declared.fault.MakeFault.TheVariants as make
use Rattle.pull_outcome.specs.declared.refused.PullFault.{PullFault}
use Rattle.pull_outcome.specs.declared.refused.PullFault.TheVariants as pull
use Rattle.make_engine.specs.declared.fault.CountsFault.{CountsFault}
use Rattle.make_engine.specs.declared.fault.CountsFault.TheVariants.{Refused, Memory}

-- refused for no id, at the place 0
abbrev pub refused_for : Fault → CountsFault
refused_for fault = Refused (record { fault = fault; id = null; place = 0 })

-- why a history can't be made
abbrev pub make_fault : MakeFault → CountsFault
make_fault make.CountLimit = refused_for code.CountLimit
make_fault make.Collision = refused_for code.Collision
make_fault make.Memory = Memory

-- why a pull of bytes in memory fails: no read of them does
abbrev pub pull_fault : PullFault → CountsFault
pull_fault (pull.Refused why) = Refused why
pull_fault pull.Read = Memory
pull_fault pull.Memory = Memory

-- a refusal is one of those that are due; of memory nothing is told here
abbrev pub IsRefusedFor : (model.Refusal → Type 0) → CountsFault → Type 0
IsRefusedFor Due (Refused why) = Due (refusal_value why)
IsRefusedFor Due Memory = ⊤
