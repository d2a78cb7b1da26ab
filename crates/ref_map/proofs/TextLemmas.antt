-- A text of names, line by line.
use Rattle.std.proofs.Common.{◌≡◌, ◌+◌, ◌==◌, eqb-true, ℕ, Bool, true, ◌||◌, List, [], ◌∷◌, ◌++◌, length, length-append, append_assoc, append-nil, Option, Some, None, Result, Ok, Err, refl, sym, ap, ◌∙◌, arith}
use Rattle.std.specs.Prelude.{nat_le, if◌then◌else◌, bytes_eq}
use Rattle.std.specs.List.{cons_option}
use Rattle.std.proofs.lemmas.List.Elements.{filter_map-append}
use Rattle.text_model.specs.Text.{Bytes, whole_lines}
use Rattle.text_model.specs.Fault.{FaultName, NameTwice, NameLimit, Refusal, refusal_at}
use Rattle.text_model.specs.Fault as why
use Rattle.text_model.proofs.LineLemmas.{whole_lines-none}
use Rattle.state_model.specs.Kept.{NameRow}
use Rattle.state_model.specs.Limits.{name_limit}
use Rattle.name_model.specs.Reading.{Reader, is_row_of, row_in, gives_name, fault_of, line_fault, refusal_or, first_refused, rows_of, set_by, set_of}
use Rattle.ref_map.specs.Faults.{IsNameFault, fault_at}
use Rattle.ref_map.specs.Rows.{has_name, fault_after, row_fault, IsRowFault, IsTaken}
use Rattle.ref_map.specs.declared.fault.LineFault.{LineFault}
use Rattle.ref_map.specs.declared.fault.LineFault.TheVariants as line

-- a line gives a name where a row has it
gives : (read : Reader) (lines : List Bytes) (name : Bytes) → gives_name read lines name ≡ has_name (rows_of read lines) name
gives read [] name = refl
gives read (l ∷ lines) name = by (read l) (gives read lines name)
  where
    by : (r : Result NameRow FaultName) → gives_name read lines name ≡ has_name (rows_of read lines) name
        → (is_row_of name r || gives_name read lines name) ≡ has_name (cons_option (row_in r) (rows_of read lines)) name
    by (Ok row) later = ap (λ (t : Bool). bytes_eq row.name name || t) later
    by (Err why) later = later

same_fault : (read : Reader) (lines : List Bytes) (r : Result NameRow FaultName) → fault_of read lines r ≡ fault_after (rows_of read lines) r
same_fault read lines (Err why) = refl
same_fault read lines (Ok row) = ap (λ (t : Bool). if t then Some NameTwice else None) (gives read lines row.name)

-- the lines before the rest gave these rows, and none of them is refused
pub record SoFar (read : Reader) (text : Bytes) (rows : List NameRow) (rest : Bytes) : Type 0 where
  pub before : List Bytes
  pub lines : whole_lines text ≡ before ++ whole_lines rest
  pub are : rows ≡ rows_of read before
  pub many : length rows ≡ length before
  pub left : first_refused read [] (whole_lines text) ≡ first_refused read before (whole_lines rest)

pub at_start : (read : Reader) (text : Bytes) (rows : List NameRow) → rows ≡ [] → SoFar read text rows text
at_start read text rows none = record { before = []; lines = refl; are = none; many = ap (λ (l : List NameRow). length l) none; left = refl }

module _ (read : Reader) (text : Bytes) (rows : List NameRow) (rest l after : Bytes) (s : SoFar read text rows rest) (first : whole_lines rest ≡ l ∷ whole_lines after) where
  fault_is : line_fault read s.before l ≡ row_fault rows (read l)
  fault_is =
      ap (λ (o : Option FaultName). if nat_le name_limit (length s.before) then Some NameLimit else o) (same_fault read s.before (read l))
      ∙ (λ i. if nat_le name_limit (sym s.many i) then Some NameLimit else fault_after (sym s.are i) (read l))

  next : first_refused read [] (whole_lines text) ≡ refusal_or (length s.before + 1) (row_fault rows (read l)) (first_refused read (s.before ++ l ∷ []) (whole_lines after))
  unfolding first_refused
  next = s.left ∙ ap (first_refused read s.before) first ∙ ap (λ (o : Option FaultName). refusal_or (length s.before + 1) o (first_refused read (s.before ++ l ∷ []) (whole_lines after))) fault_is

  pub taken : (new : List NameRow) → IsTaken rows new (read l) → SoFar read text new after
  taken new t =
      let row = t.1.0 in
      let one : rows_of read (l ∷ []) ≡ row ∷ [] = ap (λ (r : Result NameRow FaultName). cons_option (row_in r) []) t.1.1 in
      record {
        before = s.before ++ l ∷ [];
        lines = s.lines ∙ ap (λ (x : List Bytes). s.before ++ x) first ∙ sym (append_assoc s.before (l ∷ []) (whole_lines after));
        are = t.1.2 ∙ (λ i. s.are i ++ sym one i) ∙ sym (filter_map-append (λ (x : Bytes). row_in (read x)) s.before (l ∷ []));
        many = ap (λ (x : List NameRow). length x) t.1.2 ∙ length-append rows (row ∷ []) ∙ ap (λ (n : ℕ). n + 1) s.many ∙ sym (length-append s.before (l ∷ []));
        left = next ∙ ap (λ (o : Option FaultName). refusal_or (length s.before + 1) o (first_refused read (s.before ++ l ∷ []) (whole_lines after))) t.0;
      }

  pub refused : (why : FaultName) → row_fault rows (read l) ≡ Some why → set_of read text ≡ Err (refusal_at why (length rows + 1))
  refused why e =
      ap (set_by read (whole_lines text))
      (next ∙ ap (λ (o : Option FaultName). refusal_or (length s.before + 1) o (first_refused read (s.before ++ l ∷ []) (whole_lines after))) e)
      ∙ ap (λ (n : ℕ). Err (refusal_at why (n + 1))) (sym s.many)

  pub fault_of_line : (f : LineFault) → IsRowFault (row_fault rows (read l)) f → IsNameFault (set_of read text) (fault_at f (length rows + 1))
  fault_of_line line.NameLimit e = refused why.NameLimit e
  fault_of_line line.NameShape e = refused why.NameShape e
  fault_of_line line.RefUnfit e = refused why.RefUnfit e
  fault_of_line line.TargetUnknown e = refused why.TargetUnknown e
  fault_of_line line.TagUnknown e = refused why.TagUnknown e
  fault_of_line line.NameTwice e = refused why.NameTwice e
  fault_of_line line.Memory e = tt

-- at the end
pub none_refused : (read : Reader) (text : Bytes) (rows : List NameRow) → SoFar read text rows [] → first_refused read [] (whole_lines text) ≡ None
unfolding first_refused
none_refused read text rows s = s.left ∙ ap (first_refused read s.before) whole_lines-none

pub all_rows : (read : Reader) (text : Bytes) (rows : List NameRow) → SoFar read text rows [] → rows ≡ rows_of read (whole_lines text)
all_rows read text rows s = s.are ∙ ap (rows_of read) (sym (s.lines ∙ ap (λ (x : List Bytes). s.before ++ x) whole_lines-none ∙ append-nil s.before))

-- an empty rest
pub nothing : (rest : Bytes) → (length rest == 0) ≡ true → rest ≡ []
nothing [] e = refl
nothing (b ∷ rest) e = absurd (omega (arith, eqb-true (length (b ∷ rest)) 0 e))
