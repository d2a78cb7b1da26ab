-- Objects by their places.
use Rattle.std.proofs.Common.{◌≡◌, ℕ, zero, suc, Bool, true, false, true≢false, not, List, [], ◌∷◌, Option, Some, None, refl, sym, ap, ◌∙◌, bytes_eq, inl, inr}
use Rattle.std.specs.Prelude.{if◌then◌else◌, is_some, slice_get, option_map}
use Rattle.std.specs.Map.{lookup, lookup_key}
use Rattle.std.specs.List.{list_any}
use Rattle.std.proofs.lemmas.Slice.Eq.{bytes_eq-Decides}
use Rattle.text_model.specs.Lists.{In}
use Rattle.text_model.specs.Id.{Id}
use Rattle.text_model.proofs.Elements.{in_map, none_in}
use Rattle.text_model.proofs.Options.{some_is, none_some, not_true}
use Rattle.text_model.proofs.TestLemmas.{both}
use Rattle.git_model.specs.Tree.{has_distinct}
use Rattle.git_model.specs.Object.{Object, object_at, knows_object}
use Rattle.git_store.specs.declared.held.Held.{Held}
use Rattle.git_store.specs.Held.{object_in, objects_in}
use Rattle.git_store.specs.Known.{AreKnown}
use Rattle.git_store.specs.Places.{IsPlaceOf}
use Rattle.git_store.proofs.DistinctLemmas.{bytes_eq-comm}
use Rattle.git_store.proofs.FindLemmas.{get-map}
use Rattle.git_store.proofs.HeldLemmas.{found-in}
use Rattle.git_store.proofs.KnownLemmas.{ids_of}
use Rattle.git_store.proofs.OnceLemmas.{one_place}

-- ---- the place of an id in a map

key-is : (id : Id) (es : List (Id × Held)) (key : Id) → lookup_key (bytes_eq id) es ≡ Some key → id ≡ key
key-is id [] key h = absurd (none_some h)
key-is id (e ∷ es) key h = by (bytes_eq id e.0) refl h (key-is id es key)
  where
    by : (t : Bool) → bytes_eq id e.0 ≡ t → (if t then Some e.0 else lookup_key (bytes_eq id) es) ≡ Some key → (lookup_key (bytes_eq id) es ≡ Some key → id ≡ key) → id ≡ key
    by true t is later = (bytes_eq-Decides id e.0).0 t ∙ some_is is
    by false t is later = later is

pub place-in : (id : Id) (es : List (Id × Held)) (i : ℕ) (key : Id) (held : Held) → slice_get es i ≡ Some (key, held)
    → lookup_key (bytes_eq id) es ≡ Some key → lookup (bytes_eq id) es ≡ Some held → IsPlaceOf (objects_in es) id i
place-in id es i key held at found_key found = record {
  object = object_in (id, held);
  stands = get-map object_in es i ∙ ap (option_map object_in) at ∙ ap (λ (k : Id). Some (object_in (k, held))) (sym (key-is id es key found_key));
  found = sym (found-in id es) ∙ ap (option_map (λ (h : Held). object_in (id, h))) found;
}

pub nowhere-in : (id : Id) (es : List (Id × Held)) → lookup (bytes_eq id) es ≡ None → knows_object (objects_in es) id ≡ false
nowhere-in id es none = ap is_some (sym (found-in id es) ∙ ap (option_map (λ (h : Held). object_in (id, h))) none)

-- ---- objects of which no two have one id

-- each is found under its own id
pub found-one : (known : List Object) → has_distinct (ids_of known) ≡ true → (o : Object) → In o known → object_at known o.id ≡ Some o
found-one [] distinct o i = absurd i
found-one (x ∷ known) distinct o i = by (bytes_eq o.id x.id) refl i (found-one known parts.1 o)
  where
    parts : (not (list_any (bytes_eq x.id) (ids_of known)) ≡ true) × (has_distinct (ids_of known) ≡ true)
    parts = both (not (list_any (bytes_eq x.id) (ids_of known))) (has_distinct (ids_of known)) distinct

    by : (t : Bool) → bytes_eq o.id x.id ≡ t → In o (x ∷ known) → (In o known → object_at known o.id ≡ Some o) → object_at (x ∷ known) o.id ≡ Some o
    by true e (inl is) later = rw e (ap (λ (y : Object). Some y) (sym is))
    by true e (inr j) later =
        let none = none_in (bytes_eq x.id) (ids_of known) o.id (not_true (list_any (bytes_eq x.id) (ids_of known)) parts.0) (in_map (λ (y : Object). y.id) o known j) in
        absurd (true≢false (sym e ∙ bytes_eq-comm o.id x.id ∙ none))
    by false e (inl is) later = absurd (true≢false (sym ((bytes_eq-Decides o.id x.id).1 (ap (λ (y : Object). y.id) is)) ∙ e))
    by false e (inr j) later = rw e (later j)

pub at-in : {X : Type 0} (xs : List X) (i : ℕ) (x : X) → slice_get xs i ≡ Some x → In x xs
at-in [] i x at = absurd (none_some at)
at-in (y ∷ xs) zero x at = inl (sym (some_is at))
at-in (y ∷ xs) (suc i) x at = inr (at-in xs i x at)

-- the object at a place is found under its id
pub found-once : (known : List Object) → AreKnown known → (i : ℕ) (o : Object) → slice_get known i ≡ Some o → object_at known o.id ≡ Some o
found-once known are i o at = found-one known are.are.distinct o (at-in known i o at)

-- two places of objects with one id are one place
pub apart : (known : List Object) → AreKnown known → (i j : ℕ) (a b : Object) → slice_get known i ≡ Some a → slice_get known j ≡ Some b → a.id ≡ b.id → i ≡ j
apart known are i j a b at there same =
    one_place (ids_of known) i j a.id b.id are.are.distinct
    (get-map (λ (o : Object). o.id) known i ∙ ap (option_map (λ (o : Object). o.id)) at)
    (get-map (λ (o : Object). o.id) known j ∙ ap (option_map (λ (o : Object). o.id)) there) same
