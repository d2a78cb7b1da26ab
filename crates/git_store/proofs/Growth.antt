-- A store that grows by one object, and by more after another.
use Rattle.std.proofs.Common.{◌≡◌, ◌⊎◌, Bool, true, false, true≢false, not, ◌&&◌, List, [], ◌∷◌, ◌++◌, Option, Some, None, refl, sym, ap, subst, ◌∙◌, append_assoc, inl, inr}
use Rattle.std.specs.Prelude.{bytes_eq, if◌then◌else◌, is_some}
use Rattle.std.specs.List.{list_any}
use Rattle.std.proofs.lemmas.Slice.Eq.{bytes_eq-Decides}
use Rattle.text_model.specs.Lists.{In}
use Rattle.text_model.specs.Id.{Id, same_kind}
use Rattle.text_model.specs.Fault.{FaultName, Collision}
use Rattle.text_model.proofs.EachLemmas.{Each-append, Each-weaker}
use Rattle.text_model.proofs.Elements.{in_left, in_right, none_in}
use Rattle.text_model.proofs.Options.{none_some, some_is, not_false}
use Rattle.text_model.proofs.TestLemmas.{both}
use Rattle.git_model.specs.Object.{Object, object_at, knows_object, content_fault, object_fault, objects_after, is_other_content}
use Rattle.git_store.specs.Growth.{IsThere, HasGrown, Clash}
use Rattle.git_store.proofs.KnownLemmas.{fault_by, first, same_kind-is}

-- ---- tests over a list

pub any-in : {X : Type 0} (test : X → Bool) (xs : List X) → list_any test xs ≡ true → (x : X) × In x xs × (test x ≡ true)
any-in test [] h = absurd (true≢false (sym h))
any-in {X = X} test (x ∷ xs) h = by (test x) refl (any-in test xs)
  where
    by : (t : Bool) → test x ≡ t → (list_any test xs ≡ true → (y : X) × In y xs × (test y ≡ true)) → (y : X) × In y (x ∷ xs) × (test y ≡ true)
    by true t later = (x, inl refl, t)
    by false t later = let l = later (sym (rw t refl) ∙ h) in (l.0, inr l.1, l.2)

in-append : {X : Type 0} (x : X) (xs ys : List X) → In x (xs ++ ys) → In x xs ⊎ In x ys
in-append x [] ys h = inr h
in-append x (z ∷ xs) ys h = elim h [ inl e ↦ inl (inl e) | inr r ↦ elim (in-append x xs ys r) [ inl a ↦ inl (inr a) | inr b ↦ inr b ] ]

-- ---- look-ups

pub found-in : (known : List Object) (id : Id) (o : Object) → object_at known id ≡ Some o → In o known
found-in [] id o at = absurd (none_some at)
found-in (x ∷ known) id o at = by (bytes_eq id x.id) at (found-in known id o)
  where
    by : (t : Bool) → (if t then Some x else object_at known id) ≡ Some o → (object_at known id ≡ Some o → In o known) → In o (x ∷ known)
    by true is later = inl (sym (some_is is))
    by false is later = inr (later is)

find-front : (known more : List Object) (id : Id) (o : Object) → object_at known id ≡ Some o → object_at (known ++ more) id ≡ Some o
find-front [] more id o at = absurd (none_some at)
find-front (x ∷ known) more id o at = by (bytes_eq id x.id) at (find-front known more id o)
  where
    by : (t : Bool) → (if t then Some x else object_at known id) ≡ Some o → (object_at known id ≡ Some o → object_at (known ++ more) id ≡ Some o) → (if t then Some x else object_at (known ++ more) id) ≡ Some o
    by true is later = is
    by false is later = later is

find-last : (known : List Object) (o : Object) → knows_object known o.id ≡ false → object_at (known ++ o ∷ []) o.id ≡ Some o
find-last [] o h = ap (λ (t : Bool). if t then Some o else None) ((bytes_eq-Decides o.id o.id).1 refl)
find-last (x ∷ known) o h = by (bytes_eq o.id x.id) h (find-last known o)
  where
    by : (t : Bool) → is_some (if t then Some x else object_at known o.id) ≡ false → (knows_object known o.id ≡ false → object_at (known ++ o ∷ []) o.id ≡ Some o) → (if t then Some x else object_at (known ++ o ∷ []) o.id) ≡ Some o
    by true is later = absurd (true≢false is)
    by false is later = later is

found-id : (known : List Object) (id : Id) (o : Object) → object_at known id ≡ Some o → id ≡ o.id
found-id [] id o at = absurd (none_some at)
found-id (x ∷ known) id o at = by (bytes_eq id x.id) refl at (found-id known id o)
  where
    by : (t : Bool) → bytes_eq id x.id ≡ t → (if t then Some x else object_at known id) ≡ Some o → (object_at known id ≡ Some o → id ≡ o.id) → id ≡ o.id
    by true t is later = (bytes_eq-Decides id x.id).0 t ∙ ap (λ (y : Object). y.id) (some_is is)
    by false t is later = later is

-- ---- one object more

pub none-other : (t : Bool) → (if t then Some Collision else None) ≡ None → t ≡ false
none-other true h = absurd (none_some {x = Collision} (sym h))
none-other false h = refl

some-other : (t : Bool) → (if t then Some Collision else None) ≡ Some Collision → t ≡ true
some-other true h = refl
some-other false h = absurd (none_some {x = Collision} h)

-- an object that has no fault has the id of none with another content
pub unlike : (known : List Object) (o : Object) → object_fault known o ≡ None → list_any (is_other_content o) known ≡ false
unlike known o h = by (content_fault o.kind o.content) refl
  where
    by : (f : Option FaultName) → content_fault o.kind o.content ≡ f → list_any (is_other_content o) known ≡ false
    by (Some name) e = absurd (none_some (sym h ∙ first known o name e))
    by None e = none-other (list_any (is_other_content o) known) (sym (fault_by known o e) ∙ h)

-- an object of the same id, of which none is another content, is the object
same-one : (o h : Object) → o.id ≡ h.id → is_other_content o h ≡ false → h ≡ o
same-one o h e like_not =
    let like : (same_kind o.kind h.kind && bytes_eq o.content h.content) ≡ true =
    not_false (same_kind o.kind h.kind && bytes_eq o.content h.content) (sym (ap (λ (t : Bool). t && not (same_kind o.kind h.kind && bytes_eq o.content h.content)) ((bytes_eq-Decides o.id h.id).1 e)) ∙ like_not) in
    let parts = both (same_kind o.kind h.kind) (bytes_eq o.content h.content) like in
    sym (λ i. record { id = e i; kind = same_kind-is o.kind h.kind parts.0 i; content = (bytes_eq-Decides o.content h.content).0 parts.1 i })

pub one-more : (known : List Object) (o : Object) → object_fault known o ≡ None → HasGrown known (objects_after known o) (o ∷ [])
one-more known o h = by (object_at known o.id) refl
  where
    no_other : list_any (is_other_content o) known ≡ false
    no_other = unlike known o h

    by : (found : Option Object) → object_at known o.id ≡ found → HasGrown known (objects_after known o) (o ∷ [])
    by None at =
        let after : objects_after known o ≡ known ++ o ∷ [] = ap (λ (found : Option Object). if is_some found then known else known ++ o ∷ []) at in
        subst (λ (new : List Object). HasGrown known new (o ∷ [])) (sym after) (record {
          kept = λ id x e. find-front known (o ∷ []) id x e;
          older = λ x i. in_left x known (o ∷ []) i;
          added = (find-last known o (ap (λ (found : Option Object). is_some found) at), tt);
          only = λ x i. i;
        })
    by (Some x) at =
        let after : objects_after known o ≡ known = ap (λ (found : Option Object). if is_some found then known else known ++ o ∷ []) at in
        let same : x ≡ o = same-one o x (found-id known o.id x at) (none_in (is_other_content o) known x no_other (found-in known o.id x at)) in
        subst (λ (new : List Object). HasGrown known new (o ∷ [])) (sym after) (record {
          kept = λ id x e. e;
          older = λ x i. i;
          added = (at ∙ ap (λ (y : Object). Some y) same, tt);
          only = λ x i. in_left x known (o ∷ []) i;
        })

pub one-clash : (known : List Object) (o : Object) → content_fault o.kind o.content ≡ None → object_fault known o ≡ Some Collision → Clash known (o ∷ [])
one-clash known o fits h =
    let any = any-in (is_other_content o) known (some-other (list_any (is_other_content o) known) (sym (fault_by known o fits) ∙ h)) in
    record { object = o; other = any.0; is_new = inl refl; is_there = in_left any.0 known (o ∷ []) any.1; differs = any.2 }

-- ---- one after the other

pub grown-none : (known : List Object) → HasGrown known known []
grown-none known = record { kept = λ id o e. e; older = λ o i. i; added = tt; only = λ o i. in_left o known [] i }

pub grown-more : (a b c xs ys : List Object) → HasGrown a b xs → HasGrown b c ys → HasGrown a c (xs ++ ys)
grown-more a b c xs ys g h = record {
  kept = λ id o e. h.kept id o (g.kept id o e);
  older = λ o i. h.older o (g.older o i);
  added = Each-append (IsThere c) xs ys (Each-weaker (IsThere b) (IsThere c) (λ o e. h.kept o.id o e) xs g.added) h.added;
  only = λ o i. subst (λ (os : List Object). In o os) (append_assoc a xs ys) (from o (in-append o b ys (h.only o i)));
}
  where
    from : (o : Object) → In o b ⊎ In o ys → In o ((a ++ xs) ++ ys)
    from o (inl i) = in_left o (a ++ xs) ys (g.only o i)
    from o (inr i) = in_right o (a ++ xs) ys i

pub clash-front : (a xs ys : List Object) → Clash a xs → Clash a (xs ++ ys)
clash-front a xs ys c = record {
  object = c.object;
  other = c.other;
  is_new = in_left c.object xs ys c.is_new;
  is_there = subst (λ (os : List Object). In c.other os) (append_assoc a xs ys) (in_left c.other (a ++ xs) ys c.is_there);
  differs = c.differs;
}

pub clash-rest : (a b xs ys : List Object) → HasGrown a b xs → Clash b ys → Clash a (xs ++ ys)
clash-rest a b xs ys g c = record {
  object = c.object;
  other = c.other;
  is_new = in_right c.object xs ys c.is_new;
  is_there = subst (λ (os : List Object). In c.other os) (append_assoc a xs ys) (from (in-append c.other b ys c.is_there));
  differs = c.differs;
}
  where
    from : In c.other b ⊎ In c.other ys → In c.other ((a ++ xs) ++ ys)
    from (inl i) = in_left c.other (a ++ xs) ys (g.only c.other i)
    from (inr i) = in_right c.other (a ++ xs) ys i

-- a content that fits has no fault but a collision
pub none-fault : (known : List Object) (o : Object) → content_fault o.kind o.content ≡ None → (name : FaultName) → object_fault known o ≡ Some name → (Collision ≡ name → ⊥) → ⊥
none-fault known o fits name h other = by (list_any (is_other_content o) known) (sym (fault_by known o fits) ∙ h)
  where
    by : (t : Bool) → (if t then Some Collision else None) ≡ Some name → ⊥
    by true is = other (some_is is)
    by false is = none_some is
