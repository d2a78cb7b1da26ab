-- Objects that come one after the other, each with an id of its own.
use Rattle.std.proofs.Common.{◌≡◌, ◌+◌, ◌≤◌, Bool, true, false, true≢false, not, List, [], ◌∷◌, ◌++◌, length, refl, sym, ap, ◌∙◌, inl, arith, append_assoc}
use Rattle.std.specs.Prelude.{bytes_eq, if◌then◌else◌, is_some, Some}
use Rattle.std.specs.List.{list_any}
use Rattle.std.proofs.lemmas.List.{length-append, append-nil}
use Rattle.text_model.proofs.TestLemmas.{both}
use Rattle.text_model.proofs.Options.{not_true}
use Rattle.text_model.proofs.Elements.{in_map, in_right, none_in}
use Rattle.git_model.specs.Tree.{has_distinct}
use Rattle.git_model.specs.Object.{Object, object_at, knows_object, objects_after_all}
use Rattle.git_store.proofs.DistinctLemmas.{bytes_eq-comm}
use Rattle.git_section.specs.Sections.{ids_of}

-- ---- fewer are known where one comes twice

after_len : (known os : List Object) → length (objects_after_all known os) ≤ length known + length os
after_len known [] = omega arith
after_len known (o ∷ os) = by (knows_object known o.id) (after_len known os) (after_len (known ++ o ∷ []) os)
  where
    by : (t : Bool) → length (objects_after_all known os) ≤ length known + length os → length (objects_after_all (known ++ o ∷ []) os) ≤ length (known ++ o ∷ []) + length os
        → length (objects_after_all (if t then known else known ++ o ∷ []) os) ≤ length known + length (o ∷ os)
    by true old new = omega (arith, old)
    by false old new = omega (arith, new, length-append known (o ∷ []))

pub after_all : (known os : List Object) → length known + length os ≤ length (objects_after_all known os) → objects_after_all known os ≡ known ++ os
after_all known [] h = sym (append-nil known)
after_all known (o ∷ os) h = by (knows_object known o.id) h (after_len known os) (after_all (known ++ o ∷ []) os)
  where
    by : (t : Bool) → length known + length (o ∷ os) ≤ length (objects_after_all (if t then known else known ++ o ∷ []) os)
        → length (objects_after_all known os) ≤ length known + length os
        → (length (known ++ o ∷ []) + length os ≤ length (objects_after_all (known ++ o ∷ []) os) → objects_after_all (known ++ o ∷ []) os ≡ (known ++ o ∷ []) ++ os)
        → objects_after_all (if t then known else known ++ o ∷ []) os ≡ known ++ o ∷ os
    by true h old later = absurd (omega (arith, h, old))
    by false h old later = later (omega (arith, h, length-append known (o ∷ []))) ∙ append_assoc known (o ∷ []) os

-- ---- and all where each has its own id

unknown : (known : List Object) (o : Object) (os : List Object) → has_distinct (ids_of (known ++ o ∷ os)) ≡ true → knows_object known o.id ≡ false
unknown [] o os h = refl
unknown (x ∷ known) o os h = by (bytes_eq o.id x.id) other (unknown known o os parts.1)
  where
    parts : (not (list_any (bytes_eq x.id) (ids_of (known ++ o ∷ os))) ≡ true) × (has_distinct (ids_of (known ++ o ∷ os)) ≡ true)
    parts = both (not (list_any (bytes_eq x.id) (ids_of (known ++ o ∷ os)))) (has_distinct (ids_of (known ++ o ∷ os))) h

    other : bytes_eq o.id x.id ≡ false
    other = bytes_eq-comm o.id x.id
        ∙ none_in (bytes_eq x.id) (ids_of (known ++ o ∷ os)) o.id (not_true (list_any (bytes_eq x.id) (ids_of (known ++ o ∷ os))) parts.0)
        (in_map (λ (y : Object). y.id) o (known ++ o ∷ os) (in_right o known (o ∷ os) (inl refl)))

    by : (t : Bool) → t ≡ false → knows_object known o.id ≡ false → is_some (if t then Some x else object_at known o.id) ≡ false
    by true e rest = absurd (true≢false e)
    by false e rest = rest

pub distinct_after : (known os : List Object) → has_distinct (ids_of (known ++ os)) ≡ true → objects_after_all known os ≡ known ++ os
distinct_after known [] h = sym (append-nil known)
distinct_after known (o ∷ os) h =
    ap (λ (t : Bool). objects_after_all (if t then known else known ++ o ∷ []) os) (unknown known o os h)
    ∙ distinct_after (known ++ o ∷ []) os (ap (λ (l : List Object). has_distinct (ids_of l)) (append_assoc known (o ∷ []) os) ∙ h)
    ∙ append_assoc known (o ∷ []) os
