-- What a text sets can be kept.
use Rattle.std.proofs.Common.{◌≡◌, Bool, true, false, ◌||◌, List, [], Option, Some, None, Result, Ok, Err, refl, sym, ap, subst, ◌∙◌, arith}
use Rattle.std.specs.Prelude.{if◌then◌else◌, is_some}
use Rattle.text_model.specs.Lists.{in_order}
use Rattle.text_model.specs.Text.{Bytes, whole_lines}
use Rattle.text_model.specs.Id.{Id, has_id}
use Rattle.text_model.specs.Fault.{FaultName, RefUnfit, TargetUnknown, TagUnknown, Refusal}
use Rattle.text_model.proofs.TestLemmas.{or_true}
use Rattle.state_model.specs.Kept.{NameRow}
use Rattle.state_model.specs.Ref.{is_fit_ref}
use Rattle.state_model.specs.Names.{Targets, changeset_of, is_target, is_name_below, AreNames}
use Rattle.name_model.specs.Line.{NameLine, Bookmark, PlainTag, Annotated, InPhase, OtherRef, ref_name, name_line_of, ref_line_of}
use Rattle.name_model.specs.Targets.{commit_of, found_or, known_or, target, row_of, given}
use Rattle.name_model.specs.Reading.{Reader, in_first_form, given_by, of_ref_line, of_name_line, first_refused, rows_of, set_by, set_of, refs_reading, names_reading}
use Rattle.name_model.proofs.OrderLemmas.{each-ordered, length-ordered, up-ordered, up-rises}
use Rattle.name_model.proofs.TextLemmas.{taken, each_row}
use Rattle.name_law.proofs.Results.{ok_is, err_ok}
use Rattle.name_law.proofs.Pairs.{leads_back}

-- ---- what a line gives

-- the ref is fit, and what it names is known
abbrev CanStand : Targets → NameRow → Type 0
CanStand t row = (is_fit_ref row.name ≡ true) × (is_target t row.id ≡ true)

found : (t : Targets) (node id : Id) → found_or TargetUnknown (commit_of t node) ≡ Ok id → is_target t id ≡ true
found t node id e = by (commit_of t node) refl
  where
    by : (o : Option Id) → commit_of t node ≡ o → is_target t id ≡ true
    by None h = absurd (err_ok (sym (ap (found_or TargetUnknown) h) ∙ e))
    by (Some x) h =
        let same : x ≡ id = ok_is x id (sym (ap (found_or TargetUnknown) h) ∙ e) in
        ap (λ (b : Bool). b || has_id t.tags id) (leads_back t.pairs node id (h ∙ ap Some same))

known : (why : FaultName) (b : Bool) (id x : Id) → known_or why b id ≡ Ok x → (b ≡ true) × (id ≡ x)
known why true id x e = (refl, ok_is id x e)
known why false id x e = absurd (err_ok e)

target-is : (t : Targets) (l : NameLine) (id : Id) → target t l ≡ Ok id → is_target t id ≡ true
target-is t (Bookmark node name) id e = found t node id e
target-is t (PlainTag node name) id e = found t node id e
target-is t (Annotated tag name) id e =
    let k = known TagUnknown (has_id t.tags tag) tag id e in
    subst (λ (x : Id). is_target t x ≡ true) k.1 (ap (λ (b : Bool). is_some (changeset_of t tag) || b) k.0 ∙ or_true (is_some (changeset_of t tag)))
target-is t (InPhase phase node) id e = found t node id e
target-is t (OtherRef other name) id e =
    let k = known TargetUnknown (is_target t other) other id e in
    subst (λ (x : Id). is_target t x ≡ true) k.1 k.0

given-stands : (t : Targets) (l : NameLine) (row : NameRow) → given t l ≡ Ok row → CanStand t row
given-stands t l row e = by (is_fit_ref (ref_name l)) refl
  where
    by_target : (r : Result Id FaultName) → target t l ≡ r → is_fit_ref (ref_name l) ≡ true → row_of (ref_name l) r ≡ Ok row → CanStand t row
    by_target (Err why) is f k = absurd (err_ok k)
    by_target (Ok id) is f k =
        let made : NameRow = record { id = id; name = ref_name l } in
        subst (CanStand t) (ok_is made row k) (f, target-is t l id is)

    by : (b : Bool) → is_fit_ref (ref_name l) ≡ b → CanStand t row
    by true f = by_target (target t l) refl f (sym (ap (λ (b : Bool). if b then row_of (ref_name l) (target t l) else Err RefUnfit) f) ∙ e)
    by false f = absurd (err_ok (sym (ap (λ (b : Bool). if b then row_of (ref_name l) (target t l) else Err RefUnfit) f) ∙ e))

line-stands : (t : Targets) (o : Option NameLine) (row : NameRow) → given_by t o ≡ Ok row → CanStand t row
line-stands t None row e = absurd (err_ok e)
line-stands t (Some l) row e = given-stands t l row e

-- ---- what a whole text sets

module _ (t : Targets) (read : Reader) (stands : (l : Bytes) (row : NameRow) → read l ≡ Ok row → CanStand t row) where
  ordered-kept : (lines : List Bytes) → first_refused read [] lines ≡ None → AreNames t (in_order is_name_below (rows_of read lines))
  ordered-kept lines e =
      let rows = rows_of read lines in
      let k = taken read [] lines e in
      record {
        few = omega (arith, length-ordered rows, k.few);
        fit = each-ordered (λ row. is_fit_ref row.name ≡ true) rows (each_row read (λ row. is_fit_ref row.name ≡ true) (λ l row is. (stands l row is).0) lines);
        targets = each-ordered (λ row. is_target t row.id ≡ true) rows (each_row read (λ row. is_target t row.id ≡ true) (λ l row is. (stands l row is).1) lines);
        rising = up-rises (in_order is_name_below rows) (up-ordered rows k.apart);
      }

  set-kept : (text : Bytes) (names : List NameRow) → set_of read text ≡ Ok names → AreNames t names
  set-kept text names e = by (first_refused read [] (whole_lines text)) refl
    where
      by : (o : Option Refusal) → first_refused read [] (whole_lines text) ≡ o → AreNames t names
      by (Some why) h = absurd (err_ok (sym (ap (set_by read (whole_lines text)) h) ∙ e))
      by None h =
          let rows = in_order is_name_below (rows_of read (whole_lines text)) in
          subst (AreNames t) (ok_is rows names (sym (ap (set_by read (whole_lines text)) h) ∙ e)) (ordered-kept (whole_lines text) h)

pub refs-kept : (t : Targets) (text : Bytes) (names : List NameRow) → refs_reading t text ≡ Ok names → AreNames t names
refs-kept t text names e = set-kept t (of_ref_line t) (λ l row is. line-stands t (ref_line_of l) row is) text names e

pub names-kept : (t : Targets) (text : Bytes) (names : List NameRow) → names_reading t text ≡ Ok names → AreNames t names
names-kept t text names e = set-kept t (of_name_line t) (λ l row is. line-stands t (in_first_form t (name_line_of l)) row is) text names e
