-- How a run of the program ends, and what it prints then. Statuses and lines are this project's own rule.
use Rattle.std.specs.Prelude.{ℕ, [], ◌∷◌, codes, decimal}
use Rattle.text_model.specs.Text.{Bytes, line, spaced}
use Rattle.text_model.specs.Id.{Id, hex}
use Rattle.text_model.specs.Fault.{Refusal, fault_word}

-- why what the slot holds is no state: it is too long, another version, or no text of one, with the first section that doesn't fit
pub data BadState : Type 0 where
  TooLong : BadState
  OtherVersion : BadState
  BadShape : (section : ℕ) → BadState

-- how a run ends
pub data Report : Type 0 where
  Done : Report
  IsRefused : (why : Refusal) → Report
  Usage : Report
  ReadFault : Report
  WriteFault : Report
  SlotFault : Report
  StateBad : (why : BadState) → Report
  Memory : Report
  Mismatch : (kept right : Id) → Report

-- `refused`, the name, the id and the place; the null id stands for none and is printed as its digits
abbrev pub refused_line : Refusal → Bytes
refused_line why = line (spaced (codes "refused" ∷ fault_word why.name ∷ hex why.id ∷ decimal why.place ∷ []))

-- `state`, a name and a number: that of the first section that doesn't fit, else 0
abbrev pub state_line : BadState → Bytes
state_line TooLong = codes "state TooLong 0\n"
state_line OtherVersion = codes "state StateVersion 0\n"
state_line (BadShape section) = line (spaced (codes "state" ∷ codes "StateShape" ∷ decimal section ∷ []))

-- `mismatch`, the id of the commit that isn't right and that of the right one; the null id stands for none and is printed as its digits
abbrev pub mismatch_line : Id → Id → Bytes
mismatch_line kept right = line (spaced (codes "mismatch" ∷ hex kept ∷ hex right ∷ []))

-- the line on the errors; none where the work was done
abbrev pub report_line : Report → Bytes
report_line Done = []
report_line (IsRefused why) = refused_line why
report_line Usage = codes "usage\n"
report_line ReadFault = codes "read fault\n"
report_line WriteFault = codes "write fault\n"
report_line SlotFault = codes "slot fault\n"
report_line (StateBad why) = state_line why
report_line Memory = codes "no memory\n"
report_line (Mismatch kept right) = mismatch_line kept right
