-- Texts that are printed line by line, and what a text that is taken gives.
use Rattle.std.proofs.Common.{◌≡◌, ℕ, ◌+◌, ◌-◌, ◌≤◌, ◌<◌, Bool, true, false, ◌||◌, List, [], ◌∷◌, ◌++◌, map, length, length-append, Option, Some, None, Result, Ok, Err, refl, sym, ap, subst, ◌∙◌, arith, append_assoc}
use Rattle.std.specs.Prelude.{nat_le, if◌then◌else◌, bytes_eq}
use Rattle.std.specs.List.{list_any, flat_map, cons_option}
use Rattle.std.proofs.lemmas.Bool.Decides.{nat_tests}
use Rattle.text_model.specs.Lists.{Each, in_order}
use Rattle.text_model.specs.Text.{Bytes, lf, line, whole_lines}
use Rattle.text_model.specs.Cuts.{Lacks}
use Rattle.text_model.specs.Fault.{FaultName, NameTwice, NameLimit}
use Rattle.text_model.proofs.LineLemmas.{whole_lines-line, whole_lines-none}
use Rattle.text_model.proofs.EachLemmas.{Each-weaker}
use Rattle.text_model.proofs.Options.{some_none, or_parts, or_neither}
use Rattle.state_model.specs.Kept.{NameRow}
use Rattle.state_model.specs.Limits.{name_limit}
use Rattle.state_model.specs.Names.{is_name_below}
use Rattle.name_model.specs.Reading.{Reader, is_row_of, row_in, gives_name, fault_of, line_fault, refusal_or, first_refused, rows_of, set_by, set_of}
use Rattle.name_model.proofs.OrderLemmas.{Up, Apart, ordered-stays}

any-append : (test : Bytes → Bool) (xs ys : List Bytes) → list_any test (xs ++ ys) ≡ (list_any test xs || list_any test ys)
any-append test [] ys = refl
any-append test (x ∷ xs) ys = ap (λ (t : Bool). test x || t) (any-append test xs ys) ∙ by (test x)
  where
    by : (t : Bool) → (t || (list_any test xs || list_any test ys)) ≡ ((t || list_any test xs) || list_any test ys)
    by true = refl
    by false = refl

-- ---- texts that are printed

over : (n : ℕ) → n < name_limit → nat_le name_limit n ≡ false
over n lt = grind (arith, lt, nat_tests)

not_over : (n : ℕ) → nat_le name_limit n ≡ false → n < name_limit
not_over n e = grind (arith, e, nat_tests)

module _ (read : Reader) (body : NameRow → Bytes) where
  -- the row is what its line reads as
  pub record Returns (row : NameRow) : Type 0 where
    pub one_line : Lacks lf (body row)
    pub reads : read (line (body row)) ≡ Ok row

  lines_are : (rows : List NameRow) → Each Returns rows → whole_lines (flat_map (λ row. line (body row)) rows) ≡ map (λ row. line (body row)) rows
  lines_are [] h = whole_lines-none
  lines_are (row ∷ rows) h =
      ap whole_lines (append_assoc (body row) (lf ∷ []) (flat_map (λ r. line (body r)) rows))
      ∙ whole_lines-line (body row) (flat_map (λ r. line (body r)) rows) h.0.one_line
      ∙ ap (λ (ls : List Bytes). line (body row) ∷ ls) (lines_are rows h.1)

  rows_are : (rows : List NameRow) → Each Returns rows → rows_of read (map (λ row. line (body row)) rows) ≡ rows
  rows_are [] h = refl
  rows_are (row ∷ rows) h = (λ i. cons_option (row_in (h.0.reads i)) (rows_are rows h.1 i))

  -- none of the lines before gives the name of a row
  Fresh : List Bytes → List NameRow → Type 0
  Fresh before rows = Each (λ row. gives_name read before row.name ≡ false) rows

  fresh_on : (before : List Bytes) (row : NameRow) (rows : List NameRow) → Returns row → Each (λ y. bytes_eq row.name y.name ≡ false) rows → Fresh before rows
      → Fresh (before ++ line (body row) ∷ []) rows
  unfolding Fresh
  fresh_on before row [] r apart fresh = tt
  fresh_on before row (y ∷ rows) r apart fresh = (
    any-append (λ l. is_row_of y.name (read l)) before (line (body row) ∷ [])
        ∙ or_neither (gives_name read before y.name) (is_row_of y.name (read (line (body row))) || false) fresh.0
        (ap (λ (x : Result NameRow FaultName). is_row_of y.name x || false) r.reads ∙ ap (λ (t : Bool). t || false) apart.0),
    fresh_on before row rows r apart.1 fresh.1,
  )

  none_refused : (before : List Bytes) (rows : List NameRow) → Each Returns rows → Apart rows → Fresh before rows → length before + length rows ≤ name_limit
      → first_refused read before (map (λ row. line (body row)) rows) ≡ None
  unfolding first_refused Fresh
  none_refused before [] h apart fresh few = refl
  none_refused before (row ∷ rows) h apart fresh few =
      let small : nat_le name_limit (length before) ≡ false = over (length before) (omega (arith, few)) in
      let fault : line_fault read before (line (body row)) ≡ None =
      ap (λ (t : Bool). if t then Some NameLimit else fault_of read before (read (line (body row)))) small
      ∙ ap (fault_of read before) h.0.reads
      ∙ ap (λ (t : Bool). if t then Some NameTwice else None) fresh.0 in
      let longer : length (before ++ line (body row) ∷ []) ≡ length before + 1 = length-append before (line (body row) ∷ []) in
      ap (λ (o : Option FaultName). refusal_or (length before + 1) o (first_refused read (before ++ line (body row) ∷ []) (map (λ r. line (body r)) rows))) fault
      ∙ none_refused (before ++ line (body row) ∷ []) rows h.1 apart.1 (fresh_on before row rows h.0 apart.0 fresh.1) (omega (arith, few, longer))

  all_fresh : (rows : List NameRow) → Fresh [] rows
  unfolding Fresh
  all_fresh [] = tt
  all_fresh (row ∷ rows) = (refl, all_fresh rows)

  -- rows in order come back from their text
  pub printed : (rows : List NameRow) → Each Returns rows → Up rows → Apart rows → length rows ≤ name_limit → set_of read (flat_map (λ row. line (body row)) rows) ≡ Ok rows
  printed rows h up apart few =
      ap (λ (ls : List Bytes). set_by read ls (first_refused read [] ls)) (lines_are rows h)
      ∙ ap (set_by read (map (λ row. line (body row)) rows)) (none_refused [] rows h apart (all_fresh rows) (omega (arith, few)))
      ∙ ap (λ (xs : List NameRow). Ok (in_order is_name_below xs)) (rows_are rows h)
      ∙ ap Ok (ordered-stays rows up)

-- ---- texts that are taken

module _ (read : Reader) where
  -- what the rows of lines are that come after others and are not refused
  pub record Taken (before lines : List Bytes) : Type 0 where
    pub new : Each (λ row. gives_name read before row.name ≡ false) (rows_of read lines)
    pub apart : Apart (rows_of read lines)
    pub few : length (rows_of read lines) ≤ name_limit - length before

  older : (before : List Bytes) (l : Bytes) (rows : List NameRow) → Each (λ row. gives_name read (before ++ l ∷ []) row.name ≡ false) rows
      → Each (λ row. (gives_name read before row.name ≡ false) × (is_row_of row.name (read l) ≡ false)) rows
  older before l rows h =
      Each-weaker (λ row. gives_name read (before ++ l ∷ []) row.name ≡ false) (λ row. (gives_name read before row.name ≡ false) × (is_row_of row.name (read l) ≡ false))
      (λ row e.
      let parts = or_parts (gives_name read before row.name) (is_row_of row.name (read l) || false) (sym (any-append (λ x. is_row_of row.name (read x)) before (l ∷ [])) ∙ e) in
      (parts.0, (or_parts (is_row_of row.name (read l)) false parts.1).0))
      rows h

  firsts : (before : List Bytes) (l : Bytes) (rows : List NameRow) → Each (λ row. (gives_name read before row.name ≡ false) × (is_row_of row.name (read l) ≡ false)) rows
      → Each (λ row. gives_name read before row.name ≡ false) rows
  firsts before l rows h = Each-weaker (λ row. (gives_name read before row.name ≡ false) × (is_row_of row.name (read l) ≡ false)) (λ row. gives_name read before row.name ≡ false) (λ row e. e.0) rows h

  others : (before : List Bytes) (l : Bytes) (x : NameRow) (rows : List NameRow) → read l ≡ Ok x → Each (λ row. (gives_name read before row.name ≡ false) × (is_row_of row.name (read l) ≡ false)) rows
      → Each (λ row. bytes_eq x.name row.name ≡ false) rows
  others before l x rows is h =
      Each-weaker (λ row. (gives_name read before row.name ≡ false) × (is_row_of row.name (read l) ≡ false)) (λ row. bytes_eq x.name row.name ≡ false)
      (λ row e. sym (ap (is_row_of row.name) is) ∙ e.1) rows h

  -- a line that is not refused gives a row
  pub record Accepted (before : List Bytes) (l : Bytes) : Type 0 where
    pub room : length before < name_limit
    pub row : NameRow
    pub reads : read l ≡ Ok row
    pub new : gives_name read before row.name ≡ false

  accepted : (before : List Bytes) (l : Bytes) → line_fault read before l ≡ None → Accepted before l
  accepted before l e = by (nat_le name_limit (length before)) refl
    where
      row_by : (t : Bool) (row : NameRow) → read l ≡ Ok row → length before < name_limit → gives_name read before row.name ≡ t → (if t then Some NameTwice else None) ≡ None → Accepted before l
      row_by true row is room twice h = absurd (some_none h)
      row_by false row is room twice h = record { room = room; row = row; reads = is; new = twice }

      read_by : (r : Result NameRow FaultName) → read l ≡ r → length before < name_limit → fault_of read before r ≡ None → Accepted before l
      read_by (Err why) is room h = absurd (some_none h)
      read_by (Ok row) is room h = row_by (gives_name read before row.name) row is room refl h

      by : (t : Bool) → nat_le name_limit (length before) ≡ t → Accepted before l
      by true t = absurd (some_none (sym (ap (λ (b : Bool). if b then Some NameLimit else fault_of read before (read l)) t) ∙ e))
      by false t = read_by (read l) refl (not_over (length before) t) (sym (ap (λ (b : Bool). if b then Some NameLimit else fault_of read before (read l)) t) ∙ e)

  taken_with : (before : List Bytes) (l : Bytes) (lines : List Bytes) (row : NameRow) → read l ≡ Ok row → gives_name read before row.name ≡ false → length before < name_limit
      → Taken (before ++ l ∷ []) lines → Taken before (l ∷ lines)
  taken_with before l lines row is new room later =
      let both = older before l (rows_of read lines) later.new in
      let one : rows_of read (l ∷ lines) ≡ row ∷ rows_of read lines = ap (λ (r : Result NameRow FaultName). cons_option (row_in r) (rows_of read lines)) is in
      record {
        new = subst (λ (rows : List NameRow). Each (λ r. gives_name read before r.name ≡ false) rows) (sym one) (new, firsts before l (rows_of read lines) both);
        apart = subst Apart (sym one) (others before l row (rows_of read lines) is both, later.apart);
        few = omega (arith, room, later.few, length-append before (l ∷ []), ap (λ (rows : List NameRow). length rows) one);
      }

  -- the line is not refused, and neither is what follows
  parted : (before : List Bytes) (l : Bytes) (lines : List Bytes) → refusal_or (length before + 1) (line_fault read before l) (first_refused read (before ++ l ∷ []) lines) ≡ None
      → (line_fault read before l ≡ None) × (first_refused read (before ++ l ∷ []) lines ≡ None)
  parted before l lines e = by (line_fault read before l) refl
    where
      by : (o : Option FaultName) → line_fault read before l ≡ o → (line_fault read before l ≡ None) × (first_refused read (before ++ l ∷ []) lines ≡ None)
      by (Some why) h = absurd (some_none (sym (ap (λ (o : Option FaultName). refusal_or (length before + 1) o (first_refused read (before ++ l ∷ []) lines)) h) ∙ e))
      by None h = (h, sym (ap (λ (o : Option FaultName). refusal_or (length before + 1) o (first_refused read (before ++ l ∷ []) lines)) h) ∙ e)

  pub taken : (before lines : List Bytes) → first_refused read before lines ≡ None → Taken before lines
  unfolding first_refused
  taken before [] e = record { new = tt; apart = tt; few = omega arith }
  taken before (l ∷ lines) e =
      let parts = parted before l lines e in
      let a = accepted before l parts.0 in
      taken_with before l lines a.row a.reads a.new a.room (taken (before ++ l ∷ []) lines parts.1)

  -- what holds of each row that a line gives holds of all
  pub each_row : (P : NameRow → Type 0) → ((l : Bytes) (row : NameRow) → read l ≡ Ok row → P row) → (lines : List Bytes) → Each P (rows_of read lines)
  each_row P gives [] = tt
  each_row P gives (l ∷ lines) = by (read l) refl (each_row P gives lines)
    where
      by : (r : Result NameRow FaultName) → read l ≡ r → Each P (rows_of read lines) → Each P (cons_option (row_in r) (rows_of read lines))
      by (Ok row) is later = (gives l row is, later)
      by (Err why) is later = later
