-- Which faults a text of names may be refused for, whatever its source tells of its bytes.
use Rattle.std.specs.Prelude.{◌≡◌, ⊤}
use Rattle.bridge_text.specs.declared.fault.Fault.{Fault}
use Rattle.bridge_text.specs.declared.fault.Fault.TheVariants as name
use Rattle.ref_map.specs.declared.row.Side.{Side}
use Rattle.ref_map.specs.declared.row.Side.TheVariants.{Hg}
use Rattle.name_engine.specs.declared.fault.SetFault.{SetFault}
use Rattle.name_engine.specs.declared.fault.SetFault.TheVariants.{Refused, Read, Memory}

-- what a text of this side is refused for: its length, or one of its lines; only Mercurial's side has a line that names a kept tag as such
abbrev pub IsNameOf : Side → Fault → Type 0
IsNameOf side name.InputLimit = ⊤
IsNameOf side name.NameLimit = ⊤
IsNameOf side name.NameShape = ⊤
IsNameOf side name.RefUnfit = ⊤
IsNameOf side name.TargetUnknown = ⊤
IsNameOf side name.TagUnknown = side ≡ Hg
IsNameOf side name.NameTwice = ⊤
IsNameOf side other = ⊥

-- a fault of setting the names of a text of this side
abbrev pub IsOfNames : Side → SetFault → Type 0
IsOfNames side (Refused why) = IsNameOf side why.fault
IsOfNames side Read = ⊤
IsOfNames side Memory = ⊤

-- a fault of reading an input whole
abbrev pub IsOfInput : SetFault → Type 0
IsOfInput (Refused why) = why.fault ≡ name.InputLimit
IsOfInput Read = ⊤
IsOfInput Memory = ⊤
