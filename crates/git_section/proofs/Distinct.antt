-- Objects each of which is the first of its id have distinct ids.
use Rattle.std.proofs.Common.{◌≡◌, Bool, true, false, not, ◌&&◌, ◌||◌, List, [], ◌∷◌, refl}
use Rattle.std.specs.Prelude.{bytes_eq, filter, if◌then◌else◌}
use Rattle.std.specs.List.{list_any}
use Rattle.text_model.specs.Lists.{first_of_each, only_new}
use Rattle.text_model.specs.Id.{Id}
use Rattle.text_model.proofs.TestLemmas.{both}
use Rattle.text_model.proofs.Options.{not_true, or_parts}
use Rattle.git_model.specs.Tree.{has_distinct}
use Rattle.git_model.specs.Object.{Object, same_object}
use Rattle.git_section.specs.Sections.{ids_of}

fewer : (p : Object → Bool) (id : Id) (os : List Object) → list_any (bytes_eq id) (ids_of os) ≡ false → list_any (bytes_eq id) (ids_of (filter p os)) ≡ false
fewer p id [] h = h
fewer p id (o ∷ os) h = by (p o) (or_parts (bytes_eq id o.id) (list_any (bytes_eq id) (ids_of os)) h) (fewer p id os)
  where
    by : (t : Bool) → (bytes_eq id o.id ≡ false) × (list_any (bytes_eq id) (ids_of os) ≡ false)
        → (list_any (bytes_eq id) (ids_of os) ≡ false → list_any (bytes_eq id) (ids_of (filter p os)) ≡ false)
        → list_any (bytes_eq id) (ids_of (if t then o ∷ filter p os else filter p os)) ≡ false
    by true h rest = (λ i. h.0 i || rest h.1 i)
    by false h rest = rest h.1

pub distinct_filter : (p : Object → Bool) (os : List Object) → has_distinct (ids_of os) ≡ true → has_distinct (ids_of (filter p os)) ≡ true
distinct_filter p [] h = h
distinct_filter p (o ∷ os) h = by (p o) (both (not (list_any (bytes_eq o.id) (ids_of os))) (has_distinct (ids_of os)) h) (distinct_filter p os)
  where
    by : (t : Bool) → (not (list_any (bytes_eq o.id) (ids_of os)) ≡ true) × (has_distinct (ids_of os) ≡ true) → (has_distinct (ids_of os) ≡ true → has_distinct (ids_of (filter p os)) ≡ true)
        → has_distinct (ids_of (if t then o ∷ filter p os else filter p os)) ≡ true
    by true h rest = (λ i. not (fewer p o.id os (not_true (list_any (bytes_eq o.id) (ids_of os)) h.0) i) && rest h.1 i)
    by false h rest = rest h.1

none_same : (o : Object) (os : List Object) → list_any (bytes_eq o.id) (ids_of (filter (λ y. not (same_object o y)) os)) ≡ false
none_same o [] = refl
none_same o (x ∷ os) = by (same_object o x) refl (none_same o os)
  where
    by : (t : Bool) → same_object o x ≡ t → list_any (bytes_eq o.id) (ids_of (filter (λ y. not (same_object o y)) os)) ≡ false
        → list_any (bytes_eq o.id) (ids_of (if not t then x ∷ filter (λ y. not (same_object o y)) os else filter (λ y. not (same_object o y)) os)) ≡ false
    by true e rest = rest
    by false e rest = (λ i. e i || rest i)

pub distinct_first : (os : List Object) → has_distinct (ids_of (first_of_each same_object os)) ≡ true
distinct_first [] = refl
distinct_first (o ∷ os) =
    (λ i. not (none_same o (first_of_each same_object os) i) && distinct_filter (λ y. not (same_object o y)) (first_of_each same_object os) (distinct_first os) i)

pub distinct_new : (os : List Object) → has_distinct (ids_of (only_new same_object [] os)) ≡ true
distinct_new os = distinct_filter (λ o. not (list_any (same_object o) [])) (first_of_each same_object os) (distinct_first os)
