-- Objects that were visited one after the other.
use Rattle.std.proofs.Common.{◌≡◌, ℕ, Bool, true, false, List, [], ◌∷◌, ◌++◌, Option, Some, None, refl, sym, ap, subst, ◌∙◌, append-nil, append_assoc}
use Rattle.std.specs.Prelude.{if◌then◌else◌, slice_get, option_map}
use Rattle.std.proofs.lemmas.List.{map-append}
use Rattle.std.proofs.lemmas.List.Concat.{flat_map-append}
use Rattle.text_model.specs.Text.{Bytes}
use Rattle.text_model.specs.Id.{Id, IsId, ObjectKind, has_id}
use Rattle.git_model.specs.Object.{Object, object_at}
use Rattle.git_model.specs.Stream.{object_text, stream_text}
use Rattle.text_model.proofs.Options.{none_some, some_is}
use Rattle.text_model.proofs.Elements.{each_at}
use Rattle.git_store.specs.Known.{IsSound, AreKnown}
use Rattle.git_view.proofs.Found.{found, found-id}
use Rattle.git_dump.specs.Walks.{objects_at, object_list}
use Rattle.git_dump.specs.Visits.{ids_of, first_met, Met, Visited}

pub first_met-append : (met : List Id) (xs ys : List Object) → first_met met (xs ++ ys) ≡ first_met met xs ++ first_met (met ++ ids_of (first_met met xs)) ys
first_met-append met [] ys = ap (λ (m : List Id). first_met m ys) (sym (append-nil met))
first_met-append met (x ∷ xs) ys = by (has_id met x.id) (first_met-append met xs ys) (first_met-append (met ++ x.id ∷ []) xs ys)
  where
    by : (t : Bool) → first_met met (xs ++ ys) ≡ first_met met xs ++ first_met (met ++ ids_of (first_met met xs)) ys
        → first_met (met ++ x.id ∷ []) (xs ++ ys) ≡ first_met (met ++ x.id ∷ []) xs ++ first_met ((met ++ x.id ∷ []) ++ ids_of (first_met (met ++ x.id ∷ []) xs)) ys
        → (if t then first_met met (xs ++ ys) else x ∷ first_met (met ++ x.id ∷ []) (xs ++ ys))
        ≡ (if t then first_met met xs else x ∷ first_met (met ++ x.id ∷ []) xs) ++ first_met (met ++ ids_of (if t then first_met met xs else x ∷ first_met (met ++ x.id ∷ []) xs)) ys
    by true known new = known
    by false known new =
        ap (λ (l : List Object). x ∷ l) new
        ∙ ap (λ (m : List Id). x ∷ (first_met (met ++ x.id ∷ []) xs ++ first_met m ys)) (append_assoc met (x.id ∷ []) (ids_of (first_met (met ++ x.id ∷ []) xs)))

pub stream_text-append : (xs ys : List Object) → stream_text (xs ++ ys) ≡ stream_text xs ++ stream_text ys
unfolding stream_text
stream_text-append xs ys = flat_map-append object_text xs ys

-- ---- what is listed

abbrev pub HasListed : List Id → List Id → List Object → Type 0
HasListed before after objects = after ≡ before ++ ids_of objects

listed-append : (first later whole : List Object) (a b c : List Id) → whole ≡ first ++ later → HasListed a b first → HasListed b c later → HasListed a c whole
listed-append first later whole a b c is p q =
    q ∙ ap (λ (l : List Id). l ++ ids_of later) p ∙ append_assoc a (ids_of first) (ids_of later)
    ∙ ap (λ (l : List Id). a ++ l) (sym (map-append (λ (o : Object). o.id) first later)) ∙ ap (λ (l : List Object). a ++ ids_of l) (sym is)

pub visited-none : (a : Met) → Visited [] a a
visited-none a = record { met = sym (append-nil a.met); listed = sym (append-nil a.listed) }

pub visited-append : (xs ys : List Object) (a b c : Met) → Visited xs a b → Visited ys b c → Visited (xs ++ ys) a c
visited-append xs ys a b c v w =
    let first : List Object = first_met a.met xs in
    let later : List Object = first_met (a.met ++ ids_of first) ys in
    let same : first_met b.met ys ≡ later = ap (λ (m : List Id). first_met m ys) v.met in
    let whole : first_met a.met (xs ++ ys) ≡ first ++ later = first_met-append a.met xs ys in
    record {
      met = listed-append first later (first_met a.met (xs ++ ys)) a.met b.met c.met whole v.met (w.met ∙ ap (λ (l : List Object). b.met ++ ids_of l) same);
      listed = listed-append first later (first_met a.met (xs ++ ys)) a.listed b.listed c.listed whole v.listed (w.listed ∙ ap (λ (l : List Object). b.listed ++ ids_of l) same);
    }

-- ---- one object

abbrev kind_and_content : Object → ObjectKind × Bytes
kind_and_content o = (o.kind, o.content)

-- the object with the kind and the content that are found
pub there-is : (known : List Object) (id : Id) (kind : ObjectKind) (content : Bytes) → Some (kind, content) ≡ option_map {U = ObjectKind × Bytes} kind_and_content (object_at known id)
    → objects_at known id ≡ record { id = id; kind = kind; content = content } ∷ []
there-is known id kind content h = by (object_at known id) refl h
  where
    by : (found : Option Object) → object_at known id ≡ found → Some (kind, content) ≡ option_map {U = ObjectKind × Bytes} kind_and_content found → objects_at known id ≡ record { id = id; kind = kind; content = content } ∷ []
    by None e i = absurd (none_some {x = (kind, content)} (sym i))
    by (Some o) e i =
        let same : (kind, content) ≡ (o.kind, o.content) = some_is {x = (kind, content)} {y = (o.kind, o.content)} i in
        ap object_list e ∙ (λ k. record { id = sym (found-id known id o e) k; kind = (sym same k).0; content = (sym same k).1 } ∷ [])

-- the id of an object that is known
pub id-there : (known : List Object) → AreKnown known → (id : Id) (kind : ObjectKind) (content : Bytes) → Some (kind, content) ≡ option_map {U = ObjectKind × Bytes} kind_and_content (object_at known id) → IsId id
id-there known are id kind content h = by (object_at known id) refl h
  where
    by : (o : Option Object) → object_at known id ≡ o → Some (kind, content) ≡ option_map {U = ObjectKind × Bytes} kind_and_content o → IsId id
    by None e i = absurd (none_some {x = (kind, content)} (sym i))
    by (Some o) e i = let of = found known id o are e in subst IsId (sym of.id_is) of.sound.id

pub id-of-place : (known : List Object) → AreKnown known → (place : ℕ) (o : Object) → slice_get known place ≡ Some o → IsId o.id
id-of-place known are place o at = (each_at IsSound known place o at are.sound).id

-- an object that was met
pub visited-old : (o : Object) (a : Met) → has_id a.met o.id ≡ true → Visited (o ∷ []) a a
visited-old o a known =
    let none : first_met a.met (o ∷ []) ≡ [] = ap (λ (t : Bool). if t then [] else o ∷ []) known in
    record {
      met = sym (append-nil a.met) ∙ ap (λ (l : List Object). a.met ++ ids_of l) (sym none);
      listed = sym (append-nil a.listed) ∙ ap (λ (l : List Object). a.listed ++ ids_of l) (sym none);
    }

-- an object that is new
pub visited-new : (o : Object) (a b : Met) → has_id a.met o.id ≡ false → b.met ≡ a.met ++ o.id ∷ [] → b.listed ≡ a.listed ++ o.id ∷ [] → Visited (o ∷ []) a b
visited-new o a b unknown met listed =
    let one : first_met a.met (o ∷ []) ≡ o ∷ [] = ap (λ (t : Bool). if t then [] else o ∷ []) unknown in
    record {
      met = met ∙ ap (λ (l : List Object). a.met ++ ids_of l) (sym one);
      listed = listed ∙ ap (λ (l : List Object). a.listed ++ ids_of l) (sym one);
    }

-- ---- one object in a stream

pub one-text : (o : Object) → object_text o ≡ stream_text (o ∷ [])
unfolding stream_text
one-text o = sym (append-nil (object_text o))

pub no-text : [] ≡ stream_text []
unfolding stream_text
no-text = refl

-- nothing is known under an id
pub not-there : (known : List Object) (id : Id) → None ≡ option_map {U = ObjectKind × Bytes} kind_and_content (object_at known id) → objects_at known id ≡ []
not-there known id h = by (object_at known id) h
  where
    by : (found : Option Object) → None ≡ option_map {U = ObjectKind × Bytes} kind_and_content found → object_list found ≡ []
    by None e = refl
    by (Some o) e = absurd (none_some e)
