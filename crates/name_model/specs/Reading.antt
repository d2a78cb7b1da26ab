-- The texts of names, what they set, and why one is refused. Names come in any order and are kept in that of their refs.
use Rattle.std.specs.Prelude.{ℕ, ◌+◌, Bool, true, false, nat_le, if◌then◌else◌, List, [], ◌∷◌, ◌++◌, length, Option, Some, None, Result, Ok, Err, bytes_eq}
use Rattle.std.specs.List.{list_any, flat_map, filter_map}
use Rattle.text_model.specs.Lists.{in_order}
use Rattle.text_model.specs.Text.{Bytes, whole_lines}
use Rattle.text_model.specs.Fault.{FaultName, NameShape, NameTwice, NameLimit, Refusal, refusal_at}
use Rattle.state_model.specs.Kept.{NameRow}
use Rattle.state_model.specs.Limits.{name_limit}
use Rattle.state_model.specs.Names.{Targets, is_name_below}
use Rattle.name_model.specs.Line.{NameLine, Bookmark, PlainTag, Annotated, InPhase, OtherRef, line_text, name_line_of, ref_line_of}
use Rattle.name_model.specs.Targets.{given, line_of_ref}

-- ---- what one line gives, or why not

-- the line is that of any other ref
abbrev pub is_other : NameLine → Bool
is_other (Bookmark node name) = false
is_other (PlainTag node name) = false
is_other (Annotated id name) = false
is_other (InPhase phase node) = false
is_other (OtherRef id name) = true

-- a line of another ref is one only where no other form fits that ref
abbrev pub is_first_form : Targets → NameLine → Bool
is_first_form t (OtherRef id name) = is_other (line_of_ref t (record { id = id; name = name }))
is_first_form t l = true

abbrev pub in_first_form : Targets → Option NameLine → Option NameLine
in_first_form t None = None
in_first_form t (Some l) = if is_first_form t l then Some l else None

abbrev pub given_by : Targets → Option NameLine → Result NameRow FaultName
given_by t None = Err NameShape
given_by t (Some l) = given t l

-- by a line of Git's side
abbrev pub of_ref_line : Targets → Bytes → Result NameRow FaultName
of_ref_line t text = given_by t (ref_line_of text)

-- by a line of Mercurial's side
abbrev pub of_name_line : Targets → Bytes → Result NameRow FaultName
of_name_line t text = given_by t (in_first_form t (name_line_of text))

-- ---- a whole text, by what each of its lines gives

abbrev pub is_row_of : Bytes → Result NameRow FaultName → Bool
is_row_of name (Ok row) = bytes_eq row.name name
is_row_of name (Err why) = false

abbrev pub row_in : Result NameRow FaultName → Option NameRow
row_in (Ok row) = Some row
row_in (Err why) = None

-- what each line of a text gives, or why not
abbrev pub Reader : Type 0
Reader = Bytes → Result NameRow FaultName

-- one of the lines gives a ref of this name
abbrev pub gives_name : Reader → List Bytes → Bytes → Bool
gives_name read lines name = list_any (λ l. is_row_of name (read l)) lines

abbrev pub fault_of : Reader → List Bytes → Result NameRow FaultName → Option FaultName
fault_of read before (Err why) = Some why
fault_of read before (Ok row) = if gives_name read before row.name then Some NameTwice else None

-- why a line is refused that comes after these
abbrev pub line_fault : Reader → List Bytes → Bytes → Option FaultName
line_fault read before l = if nat_le name_limit (length before) then Some NameLimit else fault_of read before (read l)

abbrev pub refusal_or : ℕ → Option FaultName → Option Refusal → Option Refusal
refusal_or number (Some why) later = Some (refusal_at why number)
refusal_or number None later = later

-- the first line that is refused, of those that come after these, with its number from 1
unfoldable pub first_refused : Reader → List Bytes → List Bytes → Option Refusal
first_refused read before [] = None
first_refused read before (l ∷ lines) = refusal_or (length before + 1) (line_fault read before l) (first_refused read (before ++ l ∷ []) lines)

-- the refs that lines give, in their order
abbrev pub rows_of : Reader → List Bytes → List NameRow
rows_of read lines = filter_map (λ l. row_in (read l)) lines

abbrev pub set_by : Reader → List Bytes → Option Refusal → Result (List NameRow) Refusal
set_by read lines (Some why) = Err why
set_by read lines None = Ok (in_order is_name_below (rows_of read lines))

-- what the text sets in place of all names
abbrev pub set_of : Reader → Bytes → Result (List NameRow) Refusal
set_of read text = set_by read (whole_lines text) (first_refused read [] (whole_lines text))

-- what a text of refs sets, as `ID SP NAME LF` for each
abbrev pub refs_reading : Targets → Bytes → Result (List NameRow) Refusal
refs_reading t text = set_of (of_ref_line t) text

-- what a text of names as Mercurial's side has them sets
abbrev pub names_reading : Targets → Bytes → Result (List NameRow) Refusal
names_reading t text = set_of (of_name_line t) text

-- what is printed of names for Mercurial's side; `refs_text` is the other side's
abbrev pub names_text : Targets → List NameRow → Bytes
names_text t names = flat_map (λ row. line_text (line_of_ref t row)) names
