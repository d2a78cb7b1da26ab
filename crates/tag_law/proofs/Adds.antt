-- Objects that are added one after the other: none is another one of the same id.
use Rattle.std.proofs.Common.{◌≡◌, Bool, true, false, not, List, [], ◌∷◌, ◌++◌, map, Option, Some, None, refl, sym, ap, ◌∙◌, inl, inr, if◌then◌else◌}
use Rattle.std.specs.Prelude.{is_some, bytes_eq}
use Rattle.std.specs.List.{list_any}
use Rattle.text_model.specs.Lists.{Each, In}
use Rattle.text_model.specs.Fault.{FaultName}
use Rattle.text_model.specs.Fault as fault
use Rattle.text_model.proofs.Elements.{each_in, each_from, in_left, none_in, none_all, in_map, find-more}
use Rattle.text_model.proofs.Options.{some_is, some_none, or_neither, not_true}
use Rattle.text_model.proofs.TestLemmas.{both, bytes_eq-sym, bytes_eq-self}
use Rattle.git_model.specs.Tree.{has_distinct}
use Rattle.git_model.specs.Object.{Object, content_fault, object_fault, object_at, knows_object, has_id, is_other_content, objects_after, objects_after_all}
use Rattle.git_batch.specs.Arrivals.{AddsAll}
use Rattle.dump_law.proofs.Streams.{of_append}
use Rattle.pull_law.proofs.Known.{objects-after}
use Rattle.next_law.proofs.Objects.{HasContent}
use Rattle.next_law.proofs.ObjectLike.{IsKnownAs, known-more, append-more, all-more, found-as, none-other, added-known}

-- ---- one object

pub fits : (known : List Object) (o : Object) → HasContent o → list_any (is_other_content o) known ≡ false → object_fault known o ≡ None
unfolding object_fault
fits known o content none =
    ap (λ (f : Option FaultName). elim f as (λ _. Option FaultName) [ Some name ↦ Some name | None ↦ if list_any (is_other_content o) known then Some fault.Collision else None ]) content
    ∙ ap (λ (t : Bool). if t then Some fault.Collision else None) none

no-other : (known : List Object) (o : Object) → object_fault known o ≡ None → list_any (is_other_content o) known ≡ false
unfolding object_fault
no-other known o h = by (content_fault o.kind o.content) (list_any (is_other_content o) known) refl h
  where
    by : (f : Option FaultName) (t : Bool) → list_any (is_other_content o) known ≡ t
        → elim f as (λ _. Option FaultName) [ Some name ↦ Some name | None ↦ if t then Some fault.Collision else None ] ≡ None → list_any (is_other_content o) known ≡ false
    by (Some name) t e k = absurd (some_none k)
    by None true e k = absurd (some_none k)
    by None false e k = e

-- two that are known with their kinds and contents
pub known-two : (known : List Object) (a b : Object) → IsKnownAs known a → IsKnownAs known b → is_other_content a b ≡ false
known-two known a b x y =
    let os = a ∷ b ∷ [] in
    let none = none-other known os (x, (y, tt)) in
    none_in (is_other_content a) os b (none_in (λ o. list_any (is_other_content o) os) os a none (inl refl)) (inr (inl refl))

pub not-self : (o : Object) → is_other_content o o ≡ false
not-self o =
    let own = found-as (o ∷ []) o.id o (rw (bytes_eq-self o.id) refl) in
    known-two (o ∷ []) o o own own

-- it is known at the end of those that it is none other than
push-known : (known : List Object) (o : Object) → list_any (is_other_content o) known ≡ false → IsKnownAs (known ++ o ∷ []) o
push-known known o none = (added-known known (o ∷ []) (or_neither (list_any (is_other_content o) (known ++ o ∷ [])) false all refl)).0
  where
    all : list_any (is_other_content o) (known ++ o ∷ []) ≡ false
    all = none_all (is_other_content o) (known ++ o ∷ []) (λ x i. elim (of_append x known (o ∷ []) i) [
      | inl j ↦ none_in (is_other_content o) known x none j
      | inr (inl q) ↦ ap (is_other_content o) q ∙ not-self o
      | inr (inr j) ↦ absurd j
    ])

-- what is known is none other than it
pub as-known : (known : List Object) (o : Object) → list_any (is_other_content o) known ≡ false → (t : Object) → IsKnownAs known t → is_other_content t o ≡ false
as-known known o none t k =
    known-two (known ++ o ∷ []) t o (known-more known (known ++ o ∷ []) (append-more known (o ∷ [])) t k) (push-known known o none)

-- it is known behind its addition
known-after : (known : List Object) (o : Object) → list_any (is_other_content o) known ≡ false → IsKnownAs (objects_after known o) o
known-after known o none = by (object_at known o.id) refl
  where
    is : IsKnownAs (known ++ o ∷ []) o
    is = push-known known o none

    by : (f : Option Object) → object_at known o.id ≡ f → IsKnownAs (if is_some f then known else known ++ o ∷ []) o
    by None e = is
    by (Some x) e =
        let same : x ≡ is.it = some_is (sym (find-more (has_id o.id) known (o ∷ []) x e) ∙ is.found) in
        record { it = x; found = e; kind = is.kind ∙ ap (λ (o : Object). o.kind) (sym same); content = is.content ∙ ap (λ (o : Object). o.content) (sym same) }

-- ---- all objects

in-after : (known : List Object) (o x : Object) → In x known → In x (objects_after known o)
in-after known o x i = by (knows_object known o.id)
  where
    by : (t : Bool) → In x (if t then known else known ++ o ∷ [])
    by true = i
    by false = in_left x known (o ∷ []) i

of-after : (known : List Object) (o x : Object) → In x (objects_after known o) → In x (o ∷ known)
of-after known o x i = by (knows_object known o.id) i
  where
    by : (t : Bool) → In x (if t then known else known ++ o ∷ []) → In x (o ∷ known)
    by true j = inr j
    by false j = elim (of_append x known (o ∷ []) j) [ inl k ↦ inr k | inr (inl q) ↦ inl q | inr (inr k) ↦ absurd k ]

-- what is added is none other than what was known
pub adds-apart : (known os : List Object) → AddsAll known os → (o x : Object) → In o os → In x known → is_other_content o x ≡ false
adds-apart known [] adds o x i j = absurd i
adds-apart known (p ∷ os) adds o x (inl q) j = ap (λ (y : Object). is_other_content y x) q ∙ none_in (is_other_content p) known x (no-other known p adds.0) j
adds-apart known (p ∷ os) adds o x (inr i) j = adds-apart (objects_after known p) os adds.1 o x i (in-after known p x j)

-- where none is another one, all can be added
pub adds-all : (known os : List Object) → Each HasContent os → ((o x : Object) → In o os → In x known → is_other_content o x ≡ false)
    → ((o x : Object) → In o os → In x os → is_other_content o x ≡ false) → AddsAll known os
adds-all known [] contents apart own = tt
adds-all known (p ∷ os) contents apart own = (
  fits known p contents.0 (none_all (is_other_content p) known (λ x j. apart p x (inl refl) j)),
  adds-all (objects_after known p) os contents.1
      (λ o x i j. elim (of-after known p x j) [ inl q ↦ own o x (inr i) (inl q) | inr k ↦ apart o x (inr i) k ])
      (λ o x i j. own o x (inr i) (inr j)),
)

-- what was added is known
pub adds-known : (known os : List Object) → AddsAll known os → Each (IsKnownAs (objects_after_all known os)) os
adds-known known [] adds = tt
adds-known known (o ∷ os) adds =
    let next = objects_after known o in
    (known-more next (objects_after_all next os) (all-more next os) o (known-after known o (no-other known o adds.0)), adds-known next os adds.1)

pub in-all : (os : List Object) (x : Object) → In x (objects_after_all [] os) → In x os
in-all os x i = each_in (λ o. In o os) (objects_after_all [] os) x (objects-after (λ o. In o os) [] os tt (each_from (λ o. In o os) os (λ o j. j))) i

-- ---- distinct ids

-- no object is another one where no id stands twice
pub distinct-apart : (os : List Object) → has_distinct (map (λ (o : Object). o.id) os) ≡ true → (a b : Object) → In a os → In b os → is_other_content a b ≡ false
distinct-apart [] h a b i j = absurd i
distinct-apart (o ∷ os) h a b i j = by i j (distinct-apart os parts.1 a b)
  where
    parts : (not (list_any (bytes_eq o.id) (map (λ (x : Object). x.id) os)) ≡ true) × (has_distinct (map (λ (x : Object). x.id) os) ≡ true)
    parts = both (not (list_any (bytes_eq o.id) (map (λ (x : Object). x.id) os))) (has_distinct (map (λ (x : Object). x.id) os)) h

    other : (x : Object) → In x os → bytes_eq o.id x.id ≡ false
    other x k = none_in (bytes_eq o.id) (map (λ (x : Object). x.id) os) x.id (not_true (list_any (bytes_eq o.id) (map (λ (x : Object). x.id) os)) parts.0) (in_map (λ (x : Object). x.id) x os k)

    by : In a (o ∷ os) → In b (o ∷ os) → (In a os → In b os → is_other_content a b ≡ false) → is_other_content a b ≡ false
    by (inl p) (inl q) go = ap (is_other_content a) (q ∙ sym p) ∙ not-self a
    by (inl p) (inr k) go = ap (λ (x : Object). is_other_content x b) p ∙ rw (other b k) refl
    by (inr k) (inl q) go = ap (is_other_content a) q ∙ rw (bytes_eq-sym a.id o.id, other a k) refl
    by (inr k) (inr l) go = go k l
