-- Which faults a text of names may be refused for.
use Rattle.std.proofs.Common.{◌≡◌, ◌+◌, Bool, true, false, List, [], ◌∷◌, ◌++◌, length, Option, None, Some, Result, Ok, Err, refl, sym, ap, subst, ◌∙◌}
use Rattle.std.specs.Prelude.{nat_le, if◌then◌else◌, option_map, option_and_then, IfErr}
use Rattle.text_model.specs.Text.{Bytes, lf, whole_lines}
use Rattle.text_model.specs.Cuts.{cut_of}
use Rattle.text_model.specs.Id.{Id}
use Rattle.text_model.specs.Fault.{FaultName, Refusal, NameTwice, NameLimit, NameShape, RefUnfit, TargetUnknown, TagUnknown}
use Rattle.text_model.proofs.Options.{some_is, none_some}
use Rattle.state_model.specs.Kept.{NameRow}
use Rattle.state_model.specs.Limits.{name_limit}
use Rattle.state_model.specs.Ref.{is_fit_ref}
use Rattle.state_model.specs.Names.{Targets, is_target}
use Rattle.name_model.specs.Line.{OtherRef, id_and_rest}
use Rattle.name_model.specs.Targets.{known_or, row_of}
use Rattle.name_model.specs.Reading.{Reader, gives_name, fault_of, line_fault, refusal_or, first_refused, set_by, set_of, given_by, of_ref_line}
use Rattle.ref_map.specs.declared.row.Side.{Side}
use Rattle.ref_map.specs.declared.row.Side.TheVariants.{Hg, Git}
use Rattle.ref_map.specs.declared.fault.NameFault.{NameFault}
use Rattle.ref_map.specs.declared.fault.NameFault.TheVariants as name
use Rattle.ref_map.specs.Faults.{IsNameFault}
use Rattle.ref_map.specs.Rows.{reader}
use Rattle.name_engine.specs.Faults.{name_fault}
use Rattle.name_engine.specs.Names.{IsNameOf, IsOfNames, IsOfInput}
use Rattle.name_engine.specs.declared.fault.SetFault.{SetFault}
use Rattle.name_engine.specs.declared.fault.SetFault.TheVariants.{Refused, Read, Memory}

-- ---- a line of Git's side asks for no kept tag

-- any name but that of a tag that isn't known
abbrev IsOther : FaultName → Type 0
IsOther why = why ≡ TagUnknown → ⊥

err-is : {X : Type 0} {x y : FaultName} → ◌≡◌ {A = Result X FaultName} (Err x) (Err y) → x ≡ y
err-is e = cc

ok-err : {X E : Type 0} {x : X} {y : E} → ◌≡◌ {A = Result X E} (Ok x) (Err y) → ⊥
ok-err e = cc

given-other : (fit known : Bool) (id : Id) (name : Bytes) (why : FaultName) → (if fit then row_of name (known_or TargetUnknown known id) else Err RefUnfit) ≡ Err why → IsOther why
given-other false known id name why e is = let other : RefUnfit ≡ TagUnknown = err-is e ∙ is in cc
given-other true true id name why e is = absurd (ok-err e)
given-other true false id name why e is = let other : TargetUnknown ≡ TagUnknown = err-is e ∙ is in cc

form-other : (t : Targets) (found : Option (Id × Bytes)) (why : FaultName) → given_by t (option_map (λ q. OtherRef q.0 q.1) found) ≡ Err why → IsOther why
form-other t None why e is = let other : NameShape ≡ TagUnknown = err-is e ∙ is in cc
form-other t (Some (id, name)) why e is = given-other (is_fit_ref name) (is_target t id) id name why e is

cut-other : (t : Targets) (cut : Option (Bytes × Bytes)) (why : FaultName) → given_by t (option_and_then (λ p. option_map (λ q. OtherRef q.0 q.1) (id_and_rest p.0)) cut) ≡ Err why → IsOther why
cut-other t None why e is = let other : NameShape ≡ TagUnknown = err-is e ∙ is in cc
cut-other t (Some p) why e is = form-other t (id_and_rest p.0) why e is

line-other : (t : Targets) (text : Bytes) (why : FaultName) → of_ref_line t text ≡ Err why → IsOther why
line-other t text why e = cut-other t (cut_of lf text) why e

-- ---- nor does a whole text

module _ (read : Reader) (others : (text : Bytes) (why : FaultName) → read text ≡ Err why → IsOther why) where
  twice-other : (b : Bool) (why : FaultName) → (if b then Some NameTwice else None) ≡ Some why → IsOther why
  twice-other true why e is = let other : NameTwice ≡ TagUnknown = some_is e ∙ is in cc
  twice-other false why e is = absurd (none_some e)

  read-other : (before : List Bytes) (l : Bytes) (r : Result NameRow FaultName) (why : FaultName) → read l ≡ r → fault_of read before r ≡ Some why → IsOther why
  read-other before l (Err name) why same e = subst IsOther (some_is e) (others l name same)
  read-other before l (Ok row) why same e = twice-other (gives_name read before row.name) why e

  fault-other : (before : List Bytes) (l : Bytes) (many : Bool) (why : FaultName) → (if many then Some NameLimit else fault_of read before (read l)) ≡ Some why → IsOther why
  fault-other before l true why e is = let other : NameLimit ≡ TagUnknown = some_is e ∙ is in cc
  fault-other before l false why e is = read-other before l (read l) why refl e is

  -- the first that is refused: this line, or one behind it
  next-other : (before : List Bytes) (l : Bytes) (later : Option Refusal) (why : Refusal) → ((r : Refusal) → later ≡ Some r → IsOther r.name)
      → refusal_or (length before + 1) (line_fault read before l) later ≡ Some why → IsOther why.name
  next-other before l later why behind e = by (line_fault read before l) refl
    where
      by : (o : Option FaultName) → line_fault read before l ≡ o → IsOther why.name
      by (Some first) h =
          let is = sym (ap (λ (o : Option FaultName). refusal_or (length before + 1) o later) h) ∙ e in
          subst IsOther (ap (λ (r : Refusal). r.name) (some_is is)) (fault-other before l (nat_le name_limit (length before)) first h)
      by None h = behind why (sym (ap (λ (o : Option FaultName). refusal_or (length before + 1) o later) h) ∙ e)

  first-other : (before lines : List Bytes) (why : Refusal) → first_refused read before lines ≡ Some why → IsOther why.name
  unfolding first_refused
  first-other before [] why e = absurd (none_some e)
  first-other before (l ∷ lines) why e =
      next-other before l (first_refused read (before ++ l ∷ []) lines) why (λ r h. first-other (before ++ l ∷ []) lines r h) e

  text-other : (text : Bytes) (why : Refusal) → set_of read text ≡ Err why → IsOther why.name
  text-other text why e = by (first_refused read [] (whole_lines text)) refl
    where
      by : (o : Option Refusal) → first_refused read [] (whole_lines text) ≡ o → IsOther why.name
      by None h = absurd (ok-err (sym (ap (set_by read (whole_lines text)) h) ∙ e))
      by (Some first) h =
          let is : first ≡ why = refusal-is (sym (ap (set_by read (whole_lines text)) h) ∙ e) in
          subst (λ (r : Refusal). IsOther r.name) is (first-other [] (whole_lines text) first h)
        where
          refusal-is : {x y : Refusal} → ◌≡◌ {A = Result (List NameRow) Refusal} (Err x) (Err y) → x ≡ y
          refusal-is e = cc

-- ---- which faults come

-- that of a line
line-named : (side : Side) (t : Targets) (text : Bytes) (f : NameFault) → IsNameFault (set_of (reader side t) text) f → IsOfNames side (name_fault f)
line-named side t text (name.NameLimit line) h = tt
line-named side t text (name.NameShape line) h = tt
line-named side t text (name.RefUnfit line) h = tt
line-named side t text (name.TargetUnknown line) h = tt
line-named Hg t text (name.TagUnknown line) h = refl
line-named Git t text (name.TagUnknown line) h = absurd (text-other (of_ref_line t) (line-other t) text _ h refl)
line-named side t text (name.NameTwice line) h = tt
line-named side t text name.Memory h = tt

pub lines-named : {T : Type 0} (side : Side) (t : Targets) (text : Bytes) (result : Result T NameFault) → IfErr result (IsNameFault (set_of (reader side t) text))
    → IfErr result (λ f. IsOfNames side (name_fault f))
lines-named side t text (Ok rows) h = tt
lines-named side t text (Err f) h = line-named side t text f h

-- that of the whole input
pub input-named : (side : Side) (fault : SetFault) → IsOfInput fault → IsOfNames side fault
input-named side (Refused why) h = subst (IsNameOf side) (sym h) tt
input-named side Read h = tt
input-named side Memory h = tt
