-- What a walk has met that counts the objects at the front of the store.
use Rattle.std.proofs.Common.{◌≡◌, ◌+◌, ◌≤◌, ◌<◌, ◌||◌, ◌↔◌, ℕ, zero, suc, Bool, true, false, true≢false, List, [], ◌∷◌, ◌++◌, length, take, Option, Some, None, refl, sym, ap, subst, ◌∙◌, append-nil, append_assoc, inl, inr, arith}
use Rattle.std.specs.Prelude.{slice_get, if◌then◌else◌, is_some, bytes_eq}
use Rattle.std.proofs.lemmas.List.Folds.{list_any-append}
use Rattle.text_model.specs.Lists.{In}
use Rattle.text_model.specs.Id.{Id, has_id}
use Rattle.text_model.proofs.Elements.{in_map, get_unmap, take_push, map_append, take_whole}
use Rattle.text_model.proofs.Options.{none_some}
use Rattle.text_model.proofs.OrderLemmas.{has_id-In, In-has_id}
use Rattle.git_model.specs.Object.{Object, object_at, knows_object}
use Rattle.git_store.specs.Known.{AreKnown}
use Rattle.git_store.specs.Places.{IsPlaceOf}
use Rattle.git_store.proofs.Places.{at-in, apart}
use Rattle.git_view.proofs.Found.{found-id}
use Rattle.git_dump.specs.declared.walk.Walk.{Walk}
use Rattle.git_dump.specs.Walks.{object_list, objects_at, objects_between}
use Rattle.git_dump.specs.Visits.{ids_of, met_by, Visited, IsWalk, SkipsPlace, Visits, MeetsOther}
use Rattle.git_dump.proofs.Between.{long, between-push}
use Rattle.git_dump.proofs.VisitLemmas.{visited-none, visited-old, visited-new}
use Rattle.git_dump.proofs.WalkLemmas.{stays-met}

-- ---- the front of a list

-- an element of the front stands in the list
get-taken : {X : Type 0} (xs : List X) (n i : ℕ) (x : X) → slice_get (take n xs) i ≡ Some x → (i < n) × (slice_get xs i ≡ Some x)
get-taken [] zero i x at = absurd (none_some at)
get-taken [] (suc n) i x at = absurd (none_some at)
get-taken (y ∷ xs) zero i x at = absurd (none_some at)
get-taken (y ∷ xs) (suc n) zero x at = (omega arith, at)
get-taken (y ∷ xs) (suc n) (suc i) x at = let r = get-taken xs n i x at in (omega (arith, r.0), r.1)

taken-get : {X : Type 0} (xs : List X) (n i : ℕ) (x : X) → i < n → slice_get xs i ≡ Some x → slice_get (take n xs) i ≡ Some x
taken-get [] n i x below at = absurd (none_some at)
taken-get (y ∷ xs) zero i x below at = absurd (omega (arith, below))
taken-get (y ∷ xs) (suc n) zero x below at = at
taken-get (y ∷ xs) (suc n) (suc i) x below at = taken-get xs n i x (omega (arith, below)) at

place-of : (os : List Object) (id : Id) → In id (ids_of os) → (i : ℕ) × (o : Object) × (slice_get os i ≡ Some o) × (id ≡ o.id)
place-of [] id h = absurd h
place-of (o ∷ os) id h = elim h [ inl q ↦ (0, o, refl, q) | inr j ↦ let r = place-of os id j in (suc r.0, r.1, r.2, r.3) ]

ids-length : (os : List Object) → length (ids_of os) ≡ length os
ids-length [] = refl
ids-length (o ∷ os) = ap suc (ids-length os)

-- ---- which objects were met

module _ (known : List Object) where
  counted : (n i : ℕ) (o : Object) → i < n → slice_get known i ≡ Some o → has_id (ids_of (take n known)) o.id ≡ true
  counted n i o below at = In-has_id (ids_of (take n known)) o.id (in_map (λ (x : Object). x.id) o (take n known) (at-in (take n known) i o (taken-get known n i o below at)))

  not-counted : AreKnown known → (n i : ℕ) (o : Object) → n ≤ i → slice_get known i ≡ Some o → has_id (ids_of (take n known)) o.id ≡ false
  not-counted are n i o above at = by (has_id (ids_of (take n known)) o.id) refl
    where
      by : (t : Bool) → has_id (ids_of (take n known)) o.id ≡ t → t ≡ false
      by false e = refl
      by true e =
          let p = place-of (take n known) o.id (has_id-In (ids_of (take n known)) o.id e) in
          let q = get-taken known n p.0 p.1 p.2 in
          absurd (omega (arith, above, q.0, apart known are i p.0 o p.1 at q.1 p.3))

  -- behind the front only the other ids tell
  among-others : (w : Walk) → IsWalk known w → (i : ℕ) (o : Object) → w.front ≤ i → slice_get known i ≡ Some o → has_id (met_by known w).met o.id ≡ has_id w.met o.id
  among-others w is i o above at =
      list_any-append (bytes_eq o.id) (ids_of (take w.front known)) w.met ∙ ap (λ (t : Bool). t || has_id w.met o.id) (not-counted is.are w.front i o above at)

  at-front : (w : Walk) → IsWalk known w → (i : ℕ) (o : Object) → i < w.front → slice_get known i ≡ Some o → has_id (met_by known w).met o.id ≡ true
  at-front w is i o below at = stays-met (ids_of (take w.front known)) w.met o.id (counted w.front i o below at)

  -- ---- a visit

  pub visits-old : (w : Walk) → IsWalk known w → (i : ℕ) (o : Object) → i < w.front → slice_get known i ≡ Some o → Visits known (o ∷ []) w w
  visits-old w is i o below at = record { visited = visited-old o (met_by known w) (at-front w is i o below at); walk = is }

  -- the next object of the store, while nothing else was met
  pub visits-next : (w new : Walk) → IsWalk known w → w.in_order ≡ true → (o : Object) → slice_get known w.front ≡ Some o
      → new ≡ record { size = w.size; front = w.front + 1; in_order = w.in_order; met = w.met; start = w.start; listed = w.listed } → w.front < length known → Visits known (o ∷ []) w new
  visits-next w new is order o at same below =
      let none = is.none_met order in
      let empty = is.none_listed order in
      let after : Walk = record { size = w.size; front = w.front + 1; in_order = w.in_order; met = w.met; start = w.start; listed = w.listed } in
      let within : w.front ≤ length known = omega (arith, below) in
      subst (Visits known (o ∷ []) w) (sym same) (record {
        visited = visited-new o (met_by known w) (met_by known after)
            (among-others w is w.front o (omega arith) at ∙ ap (λ (ids : List Id). has_id ids o.id) none)
            (pushed (ids_of (take w.front known)) w.met (ids_of (take (w.front + 1) known)) o none (ap ids_of (take_push known w.front o at) ∙ map_append (λ (x : Object). x.id) (take w.front known) (o ∷ [])))
            (pushed (ids_of (objects_between known w.start w.front)) w.listed (ids_of (objects_between known w.start (w.front + 1))) o empty
            (ap ids_of (between-push known w.start w.front o is.begun within at) ∙ map_append (λ (x : Object). x.id) (objects_between known w.start w.front) (o ∷ [])));
        walk = record {
          are = is.are;
          size = is.size;
          small = is.small;
          within = omega (arith, below, is.size);
          begun = omega (arith, is.begun);
          none_met = is.none_met;
          none_listed = is.none_listed;
          skips = λ not_so. absurd (true≢false (sym order ∙ not_so));
        };
      })
    where
      pushed : (front others longer : List Id) (o : Object) → others ≡ [] → longer ≡ front ++ o.id ∷ [] → longer ++ others ≡ (front ++ others) ++ o.id ∷ []
      pushed front others longer o none more =
          (λ i. more i ++ none i) ∙ append-nil (front ++ o.id ∷ []) ∙ ap (λ (l : List Id). l ++ o.id ∷ []) (sym (ap (λ (l : List Id). front ++ l) none ∙ append-nil front))

  -- an object that isn't the next, or behind others
  pub visits-other : (w new : Walk) → IsWalk known w → (i : ℕ) (o : Object) → w.front ≤ i → (w.in_order ≡ true → w.front < i) → slice_get known i ≡ Some o → MeetsOther o.id w new → Visits known (o ∷ []) w new
  visits-other w new is i o above skips at m = by (has_id w.met o.id) refl
    where
      among : has_id (met_by known w).met o.id ≡ has_id w.met o.id
      among = among-others w is i o above at

      same_front : ids_of (take new.front known) ≡ ids_of (take w.front known)
      same_front = ap (λ (n : ℕ). ids_of (take n known)) m.front

      same_between : ids_of (objects_between known new.start new.front) ≡ ids_of (objects_between known w.start w.front)
      same_between = (λ k. ids_of (objects_between known (m.start k) (m.front k)))

      after : SkipsPlace known new.front new.met → IsWalk known new
      after s = record {
        are = is.are;
        size = m.size ∙ is.size;
        small = omega (arith, m.size, is.small);
        within = omega (arith, m.size, m.front, is.within);
        begun = omega (arith, m.start, m.front, is.begun);
        none_met = λ order. absurd (true≢false (sym order ∙ m.order));
        none_listed = λ order. absurd (true≢false (sym order ∙ m.order));
        skips = λ not_so. s;
      }

      -- the first of the others stays
      stays : (more : List Id) → new.met ≡ w.met ++ more → SkipsPlace known w.front w.met → SkipsPlace known new.front new.met
      stays more e s = record {
        object = s.object;
        stands_at = s.stands_at;
        stands = s.stands;
        behind = omega (arith, s.behind, m.front);
        rest = s.rest ++ more;
        first = e ∙ ap (λ (l : List Id). l ++ more) s.first;
      }

      first_of : (order : Bool) → w.in_order ≡ order → new.met ≡ w.met ++ o.id ∷ [] → SkipsPlace known new.front new.met
      first_of true e met = record {
        object = o;
        stands_at = i;
        stands = at;
        behind = omega (arith, skips e, m.front);
        rest = [];
        first = met ∙ ap (λ (l : List Id). l ++ o.id ∷ []) (is.none_met e);
      }
      first_of false e met = stays (o.id ∷ []) met (is.skips e)

      known_one : (order : Bool) → w.in_order ≡ order → has_id w.met o.id ≡ true → SkipsPlace known w.front w.met
      known_one true e t = absurd (true≢false (sym t ∙ ap (λ (ids : List Id). has_id ids o.id) (is.none_met e)))
      known_one false e t = is.skips e

      by : (t : Bool) → has_id w.met o.id ≡ t → Visits known (o ∷ []) w new
      by true t =
          let met : new.met ≡ w.met = m.met ∙ ap (λ (b : Bool). if b then w.met else w.met ++ o.id ∷ []) t in
          let listed : new.listed ≡ w.listed = m.listed ∙ ap (λ (b : Bool). if b then w.listed else w.listed ++ o.id ∷ []) t in
          let same : met_by known w ≡ met_by known new = λ k. record { met = sym same_front k ++ sym met k; listed = sym same_between k ++ sym listed k } in
          record {
            visited = subst (Visited (o ∷ []) (met_by known w)) same (visited-old o (met_by known w) (among ∙ t));
            walk = after (stays [] (met ∙ sym (append-nil w.met)) (known_one w.in_order refl t));
          }
      by false t =
          let met : new.met ≡ w.met ++ o.id ∷ [] = m.met ∙ ap (λ (b : Bool). if b then w.met else w.met ++ o.id ∷ []) t in
          let listed : new.listed ≡ w.listed ++ o.id ∷ [] = m.listed ∙ ap (λ (b : Bool). if b then w.listed else w.listed ++ o.id ∷ []) t in
          record {
            visited = visited-new o (met_by known w) (met_by known new) (among ∙ t)
                ((λ k. same_front k ++ met k) ∙ sym (append_assoc (ids_of (take w.front known)) w.met (o.id ∷ [])))
                ((λ k. same_between k ++ listed k) ∙ sym (append_assoc (ids_of (objects_between known w.start w.front)) w.listed (o.id ∷ [])));
            walk = after (first_of w.in_order refl met);
          }

  -- whether an object was met, by its place
  pub met-front : (w : Walk) → IsWalk known w → (id : Id) (i : ℕ) → IsPlaceOf known id i → i < w.front → has_id (met_by known w).met id ≡ true
  met-front w is id i p below = ap (has_id (met_by known w).met) (found-id known id p.object p.found) ∙ at-front w is i p.object below p.stands

  pub met-behind : (w : Walk) → IsWalk known w → (id : Id) (i : ℕ) → IsPlaceOf known id i → w.front ≤ i → has_id (met_by known w).met id ≡ has_id w.met id
  met-behind w is id i p above =
      let same = found-id known id p.object p.found in
      ap (has_id (met_by known w).met) same ∙ among-others w is i p.object above p.stands ∙ ap (has_id w.met) (sym same)

  pub met-none : (w : Walk) → IsWalk known w → (id : Id) (i : ℕ) → IsPlaceOf known id i → w.front ≤ i → w.in_order ≡ true → has_id (met_by known w).met id ≡ false
  met-none w is id i p above order = met-behind w is id i p above ∙ ap (λ (ids : List Id). has_id ids id) (is.none_met order)

  -- ---- the whole store

  -- where the first other object stands behind the next, the objects that were met aren't those of the store in its order
  not-whole : (w : Walk) → IsWalk known w → w.in_order ≡ false → (met_by known w).met ≡ ids_of known → ⊥
  not-whole w is e same =
      let s = is.skips e in
      let there : slice_get (ids_of known) w.front ≡ Some (s.object).id =
      ap (λ (ids : List Id). slice_get ids w.front) (sym same ∙ ap (λ (ids : List Id). ids_of (take w.front known) ++ ids) s.first)
      ∙ behind (ids_of (take w.front known)) (s.rest) (s.object).id w.front (ids-length (take w.front known) ∙ long known w.front (omega (arith, is.within, is.size))) in
      let o = get_unmap (λ (o : Object). o.id) known w.front (s.object).id there in
      omega (arith, s.behind, apart known is.are w.front s.stands_at o.0 s.object o.1 s.stands o.2)
    where
      behind : (xs rest : List Id) (x : Id) (n : ℕ) → length xs ≡ n → slice_get (xs ++ x ∷ rest) n ≡ Some x
      behind [] rest x zero h = refl
      behind [] rest x (suc n) h = absurd (omega (arith, h))
      behind (y ∷ xs) rest x zero h = absurd (omega (arith, h))
      behind (y ∷ xs) rest x (suc n) h = behind xs rest x n (omega (arith, h))

  pub whole-in-order : (w : Walk) (all : Bool) → IsWalk known w → w.in_order ≡ true → (all ≡ true → w.front ≡ w.size) → (w.front ≡ w.size → all ≡ true) → (all ≡ true) ↔ ((met_by known w).met ≡ ids_of known)
  whole-in-order w all is order at_end end = (
    λ t. (λ k. ids_of (take_whole known w.front (omega (arith, is.size, at_end t)) k) ++ is.none_met order k) ∙ append-nil (ids_of known),
    λ same.
        let size : length (ids_of (take w.front known)) ≡ length (ids_of known) =
        ap (λ (l : List Id). length l) (sym (append-nil (ids_of (take w.front known))) ∙ ap (λ (l : List Id). ids_of (take w.front known) ++ l) (sym (is.none_met order)) ∙ same) in
        end (omega (arith, ids-length (take w.front known), long known w.front (omega (arith, is.within, is.size)), size, ids-length known, is.size)),
  )

  pub whole-other : (w : Walk) → IsWalk known w → w.in_order ≡ false → (w.in_order ≡ true) ↔ ((met_by known w).met ≡ ids_of known)
  whole-other w is other = (λ t. absurd (true≢false (sym t ∙ other)), λ same. absurd (not-whole w is other same))

  -- nothing is visited where nothing is known
  pub visits-none : (w : Walk) (id : Id) → IsWalk known w → knows_object known id ≡ false → Visits known (objects_at known id) w w
  visits-none w id is unknown = by (object_at known id) unknown
    where
      by : (found : Option Object) → is_some found ≡ false → Visits known (object_list found) w w
      by None h = record { visited = visited-none (met_by known w); walk = is }
      by (Some o) h = absurd (true≢false h)
