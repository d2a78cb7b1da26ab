-- What is met for the first time behind old objects is what is new.
use Rattle.std.proofs.Common.{◌≡◌, Bool, true, false, not, ◌||◌, List, [], ◌∷◌, ◌++◌, refl, sym, ap, subst, ◌∙◌, inl, inr}
use Rattle.std.specs.Prelude.{filter, bytes_eq, if◌then◌else◌}
use Rattle.std.specs.List.{list_any}
use Rattle.std.proofs.lemmas.List.Folds.{list_any-append}
use Rattle.std.proofs.lemmas.Slice.Eq.{bytes_eq-Decides}
use Rattle.text_model.specs.Lists.{In, first_of_each, only_new}
use Rattle.text_model.specs.Id.{Id, has_id}
use Rattle.text_model.proofs.OrderLemmas.{has_id-In, In-has_id}
use Rattle.text_model.proofs.Elements.{each_in}
use Rattle.git_model.specs.Object.{Object, same_object}
use Rattle.git_store.proofs.DistinctLemmas.{bytes_eq-comm}
use Rattle.tree_shape.proofs.FileSets.{bool-same}
use Rattle.git_dump.specs.Visits.{ids_of, first_met, Met, Visited}
use Rattle.git_dump.proofs.WalkLemmas.{first-met, of-first}

-- two filters are one where its test is both of theirs
filter-both : (p q r : Object → Bool) (xs : List Object) → ((x : Object) → r x ≡ (if q x then p x else false)) → filter p (filter q xs) ≡ filter r xs
filter-both p q r [] h = refl
filter-both p q r (x ∷ xs) h = by (q x) refl (filter-both p q r xs h)
  where
    by : (t : Bool) → q x ≡ t → filter p (filter q xs) ≡ filter r xs → filter p (if t then x ∷ filter q xs else filter q xs) ≡ (if r x then x ∷ filter r xs else filter r xs)
    by true e rest =
        let same : r x ≡ p x = h x ∙ ap (λ (b : Bool). if b then p x else false) e in
        ap (λ (l : List Object). if p x then x ∷ l else l) rest ∙ ap (λ (b : Bool). if b then x ∷ filter r xs else filter r xs) (sym same)
    by false e rest =
        let none : r x ≡ false = h x ∙ ap (λ (b : Bool). if b then p x else false) e in
        rest ∙ ap (λ (b : Bool). if b then x ∷ filter r xs else filter r xs) (sym none)

filter-same : (p q : Object → Bool) (xs : List Object) → ((x : Object) → p x ≡ q x) → filter p xs ≡ filter q xs
filter-same p q [] h = refl
filter-same p q (x ∷ xs) h = (λ i. if h x i then x ∷ filter-same p q xs h i else filter-same p q xs h i)

abbrev isn't_met : List Id → Object → Bool
isn't_met met o = not (has_id met o.id)

-- an object that was met is not met again
with-known : (met : List Id) (o x : Object) → has_id met o.id ≡ true → isn't_met met x ≡ (if not (same_object o x) then isn't_met met x else false)
with-known met o x h = by (same_object o x) refl
  where
    by : (t : Bool) → same_object o x ≡ t → isn't_met met x ≡ (if not t then isn't_met met x else false)
    by false e = refl
    by true e = ap not (ap (has_id met) (sym ((bytes_eq-Decides o.id x.id).0 e)) ∙ h)

with-new : (met : List Id) (o x : Object) → isn't_met (met ++ o.id ∷ []) x ≡ (if not (same_object o x) then isn't_met met x else false)
with-new met o x = ap not (list_any-append (bytes_eq x.id) met (o.id ∷ []) ∙ ap (λ (b : Bool). has_id met x.id || (b || false)) (bytes_eq-comm x.id o.id)) ∙ by (has_id met x.id) (same_object o x)
  where
    by : (a b : Bool) → not (a || (b || false)) ≡ (if not b then not a else false)
    by true true = refl
    by true false = refl
    by false true = refl
    by false false = refl

first_met-filter : (met : List Id) (objects : List Object) → first_met met objects ≡ filter (isn't_met met) (first_of_each same_object objects)
first_met-filter met [] = refl
first_met-filter met (o ∷ objects) = by (has_id met o.id) refl (first_met-filter met objects) (first_met-filter (met ++ o.id ∷ []) objects)
  where
    by : (t : Bool) → has_id met o.id ≡ t → first_met met objects ≡ filter (isn't_met met) (first_of_each same_object objects)
        → first_met (met ++ o.id ∷ []) objects ≡ filter (isn't_met (met ++ o.id ∷ [])) (first_of_each same_object objects)
        → (if t then first_met met objects else o ∷ first_met (met ++ o.id ∷ []) objects)
        ≡ (if not t then o ∷ filter (isn't_met met) (filter (λ y. not (same_object o y)) (first_of_each same_object objects)) else filter (isn't_met met) (filter (λ y. not (same_object o y)) (first_of_each same_object objects)))
    by true e known new = known ∙ sym (filter-both (isn't_met met) (λ y. not (same_object o y)) (isn't_met met) (first_of_each same_object objects) (λ x. with-known met o x e))
    by false e known new =
        ap (λ (l : List Object). o ∷ l)
        (new ∙ sym (filter-both (isn't_met met) (λ y. not (same_object o y)) (isn't_met (met ++ o.id ∷ [])) (first_of_each same_object objects) (λ x. with-new met o x)))

-- ---- what the old objects have

any-id : (id : Id) (objects : List Object) → has_id (ids_of objects) id ≡ list_any (λ (o : Object). bytes_eq id o.id) objects
any-id id [] = refl
any-id id (o ∷ objects) = ap (λ (b : Bool). bytes_eq id o.id || b) (any-id id objects)

of-ids : (objects : List Object) (id : Id) → In id (ids_of objects) → (o : Object) × In o objects × (id ≡ o.id)
of-ids [] id h = absurd h
of-ids (o ∷ objects) id h = elim h [ inl q ↦ (o, inl refl, q) | inr j ↦ let r = of-ids objects id j in (r.0, inr r.1, r.2) ]

same-ids : (objects : List Object) (id : Id) → has_id (ids_of (first_met [] objects)) id ≡ has_id (ids_of objects) id
same-ids objects id = bool-same (has_id (ids_of (first_met [] objects)) id) (has_id (ids_of objects) id)
    (λ h. In-has_id (ids_of objects) id (of-first [] objects id (has_id-In (ids_of (first_met [] objects)) id h)))
    (λ h.
    let o = of-ids objects id (has_id-In (ids_of objects) id h) in
    subst (λ (x : Id). has_id (ids_of (first_met [] objects)) x ≡ true) (sym o.2) (each_in (λ p. has_id (ids_of (first_met [] objects)) p.id ≡ true) objects o.0 (first-met [] objects) o.1))

pub first_met-new : (old new : List Object) → first_met (ids_of (first_met [] old)) new ≡ only_new same_object old new
first_met-new old new =
    first_met-filter (ids_of (first_met [] old)) new
    ∙ filter-same (isn't_met (ids_of (first_met [] old))) (λ x. not (list_any (same_object x) old)) (first_of_each same_object new) (λ x. ap not (same-ids old x.id ∙ any-id x.id old))

-- ---- the whole

-- what is listed of new objects behind old ones that were visited before the list was begun
pub listed-new : (a b begun c : Met) (old new : List Object) → a.met ≡ [] → Visited old a b → begun.met ≡ b.met → begun.listed ≡ [] → Visited new begun c
    → c.listed ≡ ids_of (only_new same_object old new)
listed-new a b begun c old new none v same empty w =
    let met : begun.met ≡ ids_of (first_met [] old) = same ∙ v.met ∙ (λ i. none i ++ ids_of (first_met (none i) old)) in
    w.listed ∙ (λ i. empty i ++ ids_of (first_met (met i) new)) ∙ ap ids_of (first_met-new old new)

-- what is met of objects by a walk that had met nothing
pub met-new : (a b : Met) (objects : List Object) → a.met ≡ [] → Visited objects a b → b.met ≡ ids_of (only_new same_object [] objects)
met-new a b objects none v = v.met ∙ (λ i. none i ++ ids_of (first_met (none i) objects)) ∙ ap ids_of (first_met-new [] objects)
