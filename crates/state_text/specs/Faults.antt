-- Why bytes are the text of no state.
use Rattle.std.specs.Prelude.{⊤}
use Rattle.text_model.specs.Text.{Bytes}
use Rattle.state_model.specs.Saved.{IsVersionFault, IsShapeFault}
use Rattle.state_part.specs.declared.head.HeadFault.{HeadFault}
use Rattle.state_part.specs.declared.head.HeadFault.TheVariants.{OtherVersion, Shape}
use Rattle.state_text.specs.declared.fault.StateFault.{StateFault}
use Rattle.state_text.specs.declared.fault.StateFault.TheVariants.{StateVersion, StateShape, Memory}

-- want of memory alone is free
abbrev pub IsStateFault : Bytes → StateFault → Type 0
IsStateFault bytes StateVersion = IsVersionFault bytes
IsStateFault bytes (StateShape k) = (¬ (IsVersionFault bytes)) × IsShapeFault bytes k
IsStateFault bytes Memory = ⊤

-- the fault of a first line
abbrev pub head_refused : HeadFault → StateFault
head_refused OtherVersion = StateVersion
head_refused Shape = StateShape 0
