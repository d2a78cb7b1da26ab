-- A stream of objects that are fit is read where none of them is refused behind those before it.
use Rattle.std.proofs.Common.{◌≡◌, ◌≤◌, true, List, [], ◌∷◌, length, map, Option, None, refl, sym, ap, subst, ◌∙◌}
use Rattle.std.specs.Prelude.{bytes_eq, IsTrue, is_ok}
use Rattle.text_model.proofs.TestLemmas.{bytes_eq-self}
use Rattle.text_model.specs.Lists.{Each}
use Rattle.text_model.specs.Fault.{Refusal, input_limit}
use Rattle.text_model.specs.Id.{object_id}
use Rattle.git_model.specs.Object.{Object, object_fault, objects_after}
use Rattle.git_model.specs.Stream.{Placed, stream_text, stream_framing, stream_reading, placed_fault, objects_fault, reading_by, IsFit}
use Rattle.git_model.proofs.StreamAgain.{stream_again}
use Rattle.dump_law.proofs.StreamRead.{AreAdded}

placed-none : (known : List Object) (p : Placed) → (p.object).id ≡ object_id (p.object).kind (p.object).content → object_fault known p.object ≡ None → placed_fault known p ≡ None
placed-none known p id none =
    let same : bytes_eq (p.object).id (object_id (p.object).kind (p.object).content) ≡ true = ap (bytes_eq (p.object).id) (sym id) ∙ bytes_eq-self (p.object).id in
    rw (same, none) refl

faults-none : (known : List Object) (placed : List Placed) → AreAdded known (map (λ p. p.object) placed) → objects_fault known placed None ≡ None
unfolding objects_fault
faults-none known [] h = refl
faults-none known (p ∷ placed) h = rw (placed-none known p h.0 h.1, objects_fault) (faults-none (objects_after known p.object) placed h.2)

pub stream-read : (known objects : List Object) → Each IsFit objects → AreAdded known objects → length (stream_text objects) ≤ input_limit → IsTrue (is_ok (stream_reading known (stream_text objects)))
unfolding stream_reading
stream-read known objects fit added short =
    let again = stream_again objects fit short in
    let placed : List Placed = (stream_framing (stream_text objects)).objects in
    let none : objects_fault known placed (stream_framing (stream_text objects)).bad ≡ None =
    ap (objects_fault known placed) again.all ∙ faults-none known placed (subst (AreAdded known) (sym again.each) added) in
    ap (λ (u : Option Refusal). is_ok (reading_by placed u)) none
