-- What the lines of a text give, by the side that has it, and why a line is refused after these rows.
use Rattle.std.specs.Prelude.{◌≡◌, Bool, nat_le, if◌then◌else◌, List, [], ◌∷◌, ◌++◌, length, Option, Some, None, Result, Ok, Err, ⊤, bytes_eq}
use Rattle.std.specs.List.{list_any}
use Rattle.text_model.specs.Text.{Bytes}
use Rattle.text_model.specs.Fault.{FaultName, NameTwice, NameLimit}
use Rattle.state_model.specs.Kept.{NameRow}
use Rattle.state_model.specs.Limits.{name_limit}
use Rattle.state_model.specs.Names.{Targets}
use Rattle.name_model.specs.Line.{NameLine, name_line_of, ref_line_of}
use Rattle.name_model.specs.Reading.{Reader, in_first_form, of_ref_line, of_name_line}
use Rattle.ref_map.specs.declared.row.Side.{Side}
use Rattle.ref_map.specs.declared.row.Side.TheVariants.{Hg, Git}
use Rattle.ref_map.specs.declared.fault.LineFault.{LineFault}
use Rattle.ref_map.specs.Faults.{line_name}

-- the line, if it has a form of its side
abbrev pub form : Side → Targets → Bytes → Option NameLine
form Hg t text = in_first_form t (name_line_of text)
form Git t text = ref_line_of text

abbrev pub reader : Side → Targets → Reader
reader Hg t = of_name_line t
reader Git t = of_ref_line t

-- one of the rows has the name
abbrev pub has_name : List NameRow → Bytes → Bool
has_name rows name = list_any (λ row. bytes_eq row.name name) rows

abbrev pub fault_after : List NameRow → Result NameRow FaultName → Option FaultName
fault_after rows (Err why) = Some why
fault_after rows (Ok row) = if has_name rows row.name then Some NameTwice else None

-- why a line that reads so is refused after these rows
abbrev pub row_fault : List NameRow → Result NameRow FaultName → Option FaultName
row_fault rows read = if nat_le name_limit (length rows) then Some NameLimit else fault_after rows read

-- the fault is why the line is refused, unless memory ran out
abbrev pub Refuses : Option FaultName → Option FaultName → Type 0
Refuses why None = ⊤
Refuses why (Some name) = why ≡ Some name

abbrev pub IsRowFault : Option FaultName → LineFault → Type 0
IsRowFault why f = Refuses why (line_name f)

-- the line was taken, and its ref is the last one now
abbrev pub IsTaken : List NameRow → List NameRow → Result NameRow FaultName → Type 0
IsTaken old new read = (row_fault old read ≡ None) × ((row : NameRow) × (read ≡ Ok row) × (new ≡ old ++ row ∷ []))
