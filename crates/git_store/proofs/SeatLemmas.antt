-- Commits that are ready, and commits that wait for a parent.
use Rattle.std.proofs.Common.{◌≡◌, ◌≤◌, ◌==◌, ℕ, Bool, true, false, true≢false, not, ◌&&◌, ◌||◌, List, [], ◌∷◌, ◌++◌, take, Option, Some, None, refl, sym, ap, subst, ◌∙◌, inl, inr, ◌⊎◌, arith, bytes_eq}
use Rattle.std.specs.Prelude.{if◌then◌else◌, slice_get, option_map}
use Rattle.std.specs.List.{list_all, list_any}
use Rattle.std.specs.Ordering.{nat_cmp}
use Rattle.std.specs.BTreeSet.{contains}
use Rattle.std.proofs.lemmas.Bool.{eq-eqb, eqb-true}
use Rattle.std.proofs.lemmas.List.Folds.{list_any-append}
use Rattle.std.proofs.lemmas.Slice.Eq.{bytes_eq-Decides}
use Rattle.text_model.specs.Id.{Id}
use Rattle.text_model.specs.Lists.{Each}
use Rattle.text_model.proofs.TestLemmas.{both}
use Rattle.text_model.proofs.EachLemmas.{Each-push, Each-weaker}
use Rattle.text_model.proofs.Options.{some_is, not_true}
use Rattle.git_model.specs.Object.{Object}
use Rattle.git_model.specs.Order.{Ancestry, has, is_waiting, is_ready, next_ready}
use Rattle.git_store.specs.declared.order.stage.Stage.{Stage}
use Rattle.git_store.specs.declared.order.waiting.Wait.{Wait}
use Rattle.git_store.specs.Ancestry.{parents_at, ancestry_at, ancestries}
use Rattle.git_store.specs.Waiting.{waits_for}
use Rattle.git_store.specs.Stage.{row_parents, AreDistinct, is_known, IsKnownUpTo, StopsAt, Holds, ReadyAt, MayWait, WaitsFor, stands_at, nowhere, IsListed, IsStage, SeatsAt, IsEmpty}
use Rattle.git_store.proofs.FindLemmas.{get-map, find-first, find-none, all-at, all-weaker, Passing, any-each}
use Rattle.git_store.proofs.PlacingLemmas.{has-more, waiting-more}

module _ (came : List Ancestry) (saved : List Id) where
  -- ---- a commit that waits for a parent isn't ready

  ready-parts : (placed : List Id) (c : Ancestry) → is_ready saved placed c ≡ true → (is_waiting saved placed c ≡ true) × (list_all (is_known saved placed) c.parents ≡ true)
  ready-parts placed c h = both (is_waiting saved placed c) (list_all (is_known saved placed) c.parents) h

  not-ready : (placed : List Id) (c : Ancestry) (n : ℕ) (p : Id) → is_ready saved placed c ≡ true → slice_get c.parents n ≡ Some p → is_known saved placed p ≡ false → ⊥
  not-ready placed c n p ready names unknown =
      true≢false (sym (all-at (is_known saved placed) c.parents n p (ready-parts placed c ready).1 names) ∙ unknown)

  waits-not_ready : (placed : List Id) (p : Id) (w : Wait) (c : Ancestry) → WaitsFor came saved placed p w → slice_get came w.place ≡ Some c → is_ready saved placed c ≡ true → ⊥
  waits-not_ready placed p w c h at ready =
      let same : (h.may).commit ≡ c = some_is (sym (h.may).at_place ∙ at) in
      not-ready placed c w.parent p ready (subst (λ (x : Ancestry). slice_get x.parents w.parent ≡ Some p) same h.names) h.unknown

  listed-not_ready : (s : Stage) (i : ℕ) (c : Ancestry) → ((p : Id) → Each (WaitsFor came saved s.placed p) (waits_for s.waiting p)) → IsListed s i → slice_get came i ≡ Some c → is_ready saved s.placed c ≡ true → ⊥
  listed-not_ready s i c lists listed at ready =
      let found : Passing (stands_at i) (WaitsFor came saved s.placed listed.0) = any-each (stands_at i) (WaitsFor came saved s.placed listed.0) (waits_for s.waiting listed.0) (lists listed.0) listed.1 in
      let there : (found.element).place ≡ i = eqb-true (found.element).place i found.passes in
      waits-not_ready s.placed listed.0 found.element c found.holds (ap (slice_get came) there ∙ at) ready

  -- a commit that is ready is held
  held : (s : Stage) → IsStage came saved nowhere s → (i : ℕ) (c : Ancestry) → slice_get came i ≡ Some c → is_ready saved s.placed c ≡ true → Holds s.ready i
  held s stage i c at ready =
      elim (stage.all i c at (ready-parts s.placed c ready).0) [
        | inl never ↦ absurd (true≢false (sym never))
        | inr there ↦ elim there [
          | inl h ↦ h
          | inr listed ↦ absurd (listed-not_ready s i c stage.lists listed at ready)
        ]
      ]

  pub none_ready : (s : Stage) → IsStage came saved nowhere s → ((i : ℕ) → contains nat_cmp s.ready i ≡ false) → next_ready came saved s.placed ≡ None
  none_ready s stage none = find-none (is_ready saved s.placed) came (λ i c at ready. true≢false (sym (held s stage i c at ready) ∙ none i))

  -- the first place that is held is that of the first commit that is ready
  pub next_is : (s : Stage) → IsStage came saved nowhere s → (k : ℕ) (a : Ancestry) → slice_get came k ≡ Some a → is_ready saved s.placed a ≡ true
      → ((i : ℕ) → Holds s.ready i → k ≤ i) → next_ready came saved s.placed ≡ Some a
  next_is s stage k a at ready first =
      find-first (is_ready saved s.placed) came k a at ready
      (λ j c lt at_j ready_j. let least : k ≤ j = first j (held s stage j c at_j ready_j) in absurd (omega arith))

  -- ---- one commit is placed

  module _ (old new : List Id) (a : Ancestry) (is : new ≡ old ++ a.id ∷ []) where
    known-more : (p : Id) → is_known saved new p ≡ (is_known saved old p || bytes_eq p a.id)
    known-more p = ap (λ (l : List Id). has saved p || has l p) is ∙ ap (λ (b : Bool). has saved p || b) (has-more old a.id p) ∙ by (has saved p)
      where
        by : (s : Bool) → (s || (has old p || bytes_eq p a.id)) ≡ ((s || has old p) || bytes_eq p a.id)
        by true = refl
        by false = refl

    still-known : (p : Id) → is_known saved old p ≡ true → is_known saved new p ≡ true
    still-known p h = known-more p ∙ rw h refl

    waits-more : (c : Ancestry) → is_waiting saved new c ≡ (is_waiting saved old c && not (bytes_eq c.id a.id))
    waits-more c = ap (λ (l : List Id). is_waiting saved l c) is ∙ waiting-more saved old a.id c

    still-waits : (c : Ancestry) → is_waiting saved old c ≡ true → bytes_eq c.id a.id ≡ false → is_waiting saved new c ≡ true
    still-waits c h other = waits-more c ∙ rw (h, other) refl

    waited : (c : Ancestry) → is_waiting saved new c ≡ true → (is_waiting saved old c ≡ true) × (bytes_eq c.id a.id ≡ false)
    waited c h =
        let parts = both (is_waiting saved old c) (not (bytes_eq c.id a.id)) (sym (waits-more c) ∙ h) in
        (parts.0, not_true (bytes_eq c.id a.id) parts.1)

    still-ready : (c : Ancestry) → is_ready saved old c ≡ true → bytes_eq c.id a.id ≡ false → is_ready saved new c ≡ true
    still-ready c h other =
        let parts = ready-parts old c h in
        rw (still-waits c parts.0 other) (all-weaker (is_known saved old) (is_known saved new) still-known c.parents parts.1)

    abbrev still-may : (w : Wait) (m : MayWait came saved old w) → bytes_eq (m.commit).id a.id ≡ false → MayWait came saved new w
    still-may w m other = record {
      commit = m.commit;
      at_place = m.at_place;
      waits = still-waits m.commit m.waits other;
      before = all-weaker (is_known saved old) (is_known saved new) still-known (take w.parent (m.commit).parents) m.before;
    }

    module _ (k : ℕ) (at : slice_get came k ≡ Some a) (ready : is_ready saved old a ≡ true) (distinct : AreDistinct came) where
      other-id : (i : ℕ) (c : Ancestry) → slice_get came i ≡ Some c → ((i ≡ k) → ⊥) → bytes_eq c.id a.id ≡ false
      other-id i c at_i ne = by (bytes_eq c.id a.id) refl
        where
          by : (b : Bool) → bytes_eq c.id a.id ≡ b → bytes_eq c.id a.id ≡ false
          by true e = absurd (ne (distinct i k c a at_i at ((bytes_eq-Decides c.id a.id).0 e)))
          by false e = e

      other-waits : (p : Id) (w : Wait) (h : WaitsFor came saved old p w) → bytes_eq ((h.may).commit).id a.id ≡ false
      other-waits p w h = other-id w.place (h.may).commit (h.may).at_place (λ e. waits-not_ready old p w a h (ap (slice_get came) e ∙ at) ready)

      -- those that waited for it may wait for their next parents
      pub freed : (ws : List Wait) → Each (WaitsFor came saved old a.id) ws → Each (MayWait came saved new) ws
      freed ws h = Each-weaker (WaitsFor came saved old a.id) (MayWait came saved new) (λ w x. still-may w x.may (other-waits a.id w x)) ws h

      -- those that wait for another go on
      still-waiting : (p : Id) → bytes_eq a.id p ≡ false → (ws : List Wait) → Each (WaitsFor came saved old p) ws → Each (WaitsFor came saved new p) ws
      still-waiting p ne ws h = Each-weaker (WaitsFor came saved old p) (WaitsFor came saved new p) (λ w x. one w x) ws h
        where
          apart : bytes_eq p a.id ≡ false
          apart = by (bytes_eq p a.id) refl
            where
              by : (b : Bool) → bytes_eq p a.id ≡ b → bytes_eq p a.id ≡ false
              by true e = absurd (true≢false (sym ((bytes_eq-Decides a.id p).1 (sym ((bytes_eq-Decides p a.id).0 e))) ∙ ne))
              by false e = e

          one : (w : Wait) → WaitsFor came saved old p w → WaitsFor came saved new p w
          one w x = record {
            may = still-may w x.may (other-waits p w x);
            names = x.names;
            unknown = known-more p ∙ rw (x.unknown, apart) refl;
          }

  -- the stage behind a commit that was placed: those that waited for it are still to be seated
  pub placed-stage : (s mid : Stage) (k : ℕ) (a : Ancestry) → AreDistinct came → IsStage came saved nowhere s → slice_get came k ≡ Some a → is_ready saved s.placed a ≡ true
      → mid.placed ≡ s.placed ++ a.id ∷ [] → ((i : ℕ) → contains nat_cmp mid.ready i ≡ (not (i == k) && contains nat_cmp s.ready i))
      → ((p : Id) → waits_for mid.waiting p ≡ (if bytes_eq a.id p then [] else waits_for s.waiting p))
      → IsStage came saved (λ i. list_any (stands_at i) (waits_for s.waiting a.id)) mid
  placed-stage s mid k a distinct stage at ready is left lists = record {
    ready = ready-still;
    lists = λ p. lists-still p (bytes_eq a.id p) refl;
    all = all-still;
  }
    where
      ready-still : (i : ℕ) → Holds mid.ready i → ReadyAt came saved mid.placed i
      ready-still i h =
          let parts = both (not (i == k)) (contains nat_cmp s.ready i) (sym (left i) ∙ h) in
          let r = stage.ready i parts.1 in
          let ne : (i ≡ k) → ⊥ = λ (e : i ≡ k). true≢false (sym parts.0 ∙ ap not (eq-eqb i k e)) in
          record {
            commit = r.commit;
            at_place = r.at_place;
            ready = still-ready s.placed mid.placed a is r.commit r.ready (other-id s.placed mid.placed a is k at ready distinct i r.commit r.at_place ne);
          }

      lists-still : (p : Id) (b : Bool) → bytes_eq a.id p ≡ b → Each (WaitsFor came saved mid.placed p) (waits_for mid.waiting p)
      lists-still p true e = subst (Each (WaitsFor came saved mid.placed p)) {x = []} {y = waits_for mid.waiting p} (sym (lists p ∙ rw e refl)) tt
      lists-still p false e =
          subst (Each (WaitsFor came saved mid.placed p)) (sym (lists p ∙ rw e refl))
          (still-waiting s.placed mid.placed a is k at ready distinct p e (waits_for s.waiting p) (stage.lists p))

      unseated : ℕ → Bool
      unseated i = list_any (stands_at i) (waits_for s.waiting a.id)

      listed-still : (i : ℕ) (p : Id) (b : Bool) → bytes_eq a.id p ≡ b → list_any (stands_at i) (waits_for s.waiting p) ≡ true
          → (list_any (stands_at i) (waits_for s.waiting a.id) ≡ true) ⊎ (Holds mid.ready i ⊎ IsListed mid i)
      listed-still i p true e h = inl (ap (λ (x : Id). list_any (stands_at i) (waits_for s.waiting x)) ((bytes_eq-Decides a.id p).0 e) ∙ h)
      listed-still i p false e h = inr (inr (p, ap (list_any (stands_at i)) (lists p ∙ rw e refl) ∙ h))

      all-still : (i : ℕ) (c : Ancestry) → slice_get came i ≡ Some c → is_waiting saved mid.placed c ≡ true
          → (list_any (stands_at i) (waits_for s.waiting a.id) ≡ true) ⊎ (Holds mid.ready i ⊎ IsListed mid i)
      all-still i c at_i waits =
          let before = waited s.placed mid.placed a is c waits in
          elim (stage.all i c at_i before.0) [
            | inl never ↦ absurd (true≢false (sym never))
            | inr there ↦ elim there [
              | inl h ↦ inr (inl (left i ∙ rw (not-first (i == k) refl, h) refl))
              | inr listed ↦ listed-still i listed.0 (bytes_eq a.id listed.0) refl listed.1
            ]
          ]
        where
          not-first : (b : Bool) → (i == k) ≡ b → (i == k) ≡ false
          not-first false e = e
          not-first true e =
              let same : c ≡ a = some_is (sym at_i ∙ ap (slice_get came) (eqb-true i k e) ∙ at) in
              let own : bytes_eq c.id a.id ≡ true = (bytes_eq-Decides c.id a.id).1 (ap (λ (x : Ancestry). x.id) same) in
              absurd (true≢false (sym own ∙ (waited s.placed mid.placed a is c waits).1))

  -- ---- a commit is seated

  -- its parents are all known
  pub seats-ready : (w : Wait) (old new : Stage) → MayWait came saved old.placed w → list_all (is_known saved old.placed) (row_parents (slice_get came w.place)) ≡ true
      → new.placed ≡ old.placed → ((i : ℕ) → contains nat_cmp new.ready i ≡ (i == w.place || contains nat_cmp old.ready i)) → new.waiting ≡ old.waiting
      → SeatsAt came saved w.place old new
  seats-ready w old new may known same holds waiting unseated later stage rest = record {
    ready = λ i h. ready-there i (i == w.place) refl h;
    lists = λ p. subst (λ (l : List Id). Each (WaitsFor came saved l p) (waits_for new.waiting p)) (sym same)
        (subst (λ x. Each (WaitsFor came saved old.placed p) (waits_for x p)) (sym waiting) (stage.lists p));
    all = λ i c at waits. all-there i c at (ap (λ (l : List Id). is_waiting saved l c) (sym same) ∙ waits);
  }
    where
      is_ready-now : is_ready saved old.placed may.commit ≡ true
      is_ready-now = rw may.waits (ap (λ (o : Option Ancestry). list_all (is_known saved old.placed) (row_parents o)) (sym may.at_place) ∙ known)

      ready-there : (i : ℕ) (b : Bool) → (i == w.place) ≡ b → Holds new.ready i → ReadyAt came saved new.placed i
      ready-there i true e h = record {
        commit = may.commit;
        at_place = ap (slice_get came) (eqb-true i w.place e) ∙ may.at_place;
        ready = ap (λ (l : List Id). is_ready saved l may.commit) same ∙ is_ready-now;
      }
      ready-there i false e h =
          subst (λ (l : List Id). ReadyAt came saved l i) (sym same) (stage.ready i (sym (holds i ∙ rw e refl) ∙ h))

      held-there : (i : ℕ) (b : Bool) → contains nat_cmp old.ready i ≡ true → Holds new.ready i
      held-there i b h = holds i ∙ ap (λ (x : Bool). i == w.place || x) h ∙ or_true (i == w.place)
        where
          or_true : (x : Bool) → (x || true) ≡ true
          or_true true = refl
          or_true false = refl

      all-there : (i : ℕ) (c : Ancestry) → slice_get came i ≡ Some c → is_waiting saved old.placed c ≡ true → (later i ≡ true) ⊎ (Holds new.ready i ⊎ IsListed new i)
      all-there i c at waits =
          elim (stage.all i c at waits) [
            | inl u ↦ elim (rest i u) [
              | inl here ↦ inr (inl (holds i ∙ rw (eq-eqb i w.place here) refl))
              | inr l ↦ inl l
            ]
            | inr there ↦ elim there [
              | inl h ↦ inr (inl (held-there i true h))
              | inr listed ↦ inr (inr (listed.0, ap (λ x. list_any (stands_at i) (waits_for x listed.0)) waiting ∙ listed.1))
            ]
          ]

  -- it waits for the first parent that isn't known
  pub seats-waiting : (w : Wait) (old new : Stage) (n : ℕ) (id : Id) → MayWait came saved old.placed w → slice_get (row_parents (slice_get came w.place)) n ≡ Some id
      → StopsAt saved old.placed (row_parents (slice_get came w.place)) n
      → new.placed ≡ old.placed → new.ready ≡ old.ready
      → ((p : Id) → waits_for new.waiting p ≡ (if bytes_eq id p then waits_for old.waiting id ++ record { place = w.place; parent = n } ∷ [] else waits_for old.waiting p))
      → SeatsAt came saved w.place old new
  seats-waiting w old new n id may names stops same ready lists unseated later stage rest = record {
    ready = λ i h. subst (λ (l : List Id). ReadyAt came saved l i) (sym same) (stage.ready i (subst (λ q. Holds q i) ready h));
    lists = λ p. lists-there p (bytes_eq id p) refl;
    all = λ i c at waits. all-there i c at (ap (λ (l : List Id). is_waiting saved l c) (sym same) ∙ waits);
  }
    where
      one : Wait
      one = record { place = w.place; parent = n }

      now : WaitsFor came saved old.placed id one
      now = record {
        may = record {
          commit = may.commit;
          at_place = may.at_place;
          waits = may.waits;
          before = subst (λ (o : Option Ancestry). IsKnownUpTo saved old.placed (row_parents o) n) may.at_place stops.before;
        };
        names = subst (λ (o : Option Ancestry). slice_get (row_parents o) n ≡ Some id) may.at_place names;
        unknown = stops.unknown id names;
      }

      lists-there : (p : Id) (b : Bool) → bytes_eq id p ≡ b → Each (WaitsFor came saved new.placed p) (waits_for new.waiting p)
      lists-there p true e =
          let own : id ≡ p = (bytes_eq-Decides id p).0 e in
          subst (λ (l : List Id). Each (WaitsFor came saved l p) (waits_for new.waiting p)) (sym same)
          (subst (Each (WaitsFor came saved old.placed p)) (sym (lists p ∙ rw e refl))
          (subst (λ (x : Id). Each (WaitsFor came saved old.placed x) (waits_for old.waiting id ++ one ∷ [])) own
          (Each-push (WaitsFor came saved old.placed id) (waits_for old.waiting id) one (stage.lists id) now)))
      lists-there p false e =
          subst (λ (l : List Id). Each (WaitsFor came saved l p) (waits_for new.waiting p)) (sym same)
          (subst (Each (WaitsFor came saved old.placed p)) (sym (lists p ∙ rw e refl)) (stage.lists p))

      own-list : waits_for new.waiting id ≡ waits_for old.waiting id ++ one ∷ []
      own-list = lists id ∙ rw ((bytes_eq-Decides id id).1 refl) refl

      listed-there : (i : ℕ) (p : Id) (b : Bool) → bytes_eq id p ≡ b → list_any (stands_at i) (waits_for old.waiting p) ≡ true → list_any (stands_at i) (waits_for new.waiting p) ≡ true
      listed-there i p true e h =
          let own : id ≡ p = (bytes_eq-Decides id p).0 e in
          let before : list_any (stands_at i) (waits_for old.waiting id) ≡ true = ap (λ (x : Id). list_any (stands_at i) (waits_for old.waiting x)) own ∙ h in
          ap (list_any (stands_at i)) (lists p ∙ rw e refl) ∙ list_any-append (stands_at i) (waits_for old.waiting id) (one ∷ []) ∙ rw before refl
      listed-there i p false e h = ap (list_any (stands_at i)) (lists p ∙ rw e refl) ∙ h

      all-there : (i : ℕ) (c : Ancestry) → slice_get came i ≡ Some c → is_waiting saved old.placed c ≡ true → (later i ≡ true) ⊎ (Holds new.ready i ⊎ IsListed new i)
      all-there i c at waits =
          elim (stage.all i c at waits) [
            | inl u ↦ elim (rest i u) [
              | inl here ↦ inr (inr (id, ap (list_any (stands_at i)) own-list ∙ list_any-append (stands_at i) (waits_for old.waiting id) (one ∷ []) ∙ last (list_any (stands_at i) (waits_for old.waiting id)) (eq-eqb w.place i (sym here))))
              | inr l ↦ inl l
            ]
            | inr there ↦ elim there [
              | inl h ↦ inr (inl (subst (λ q. Holds q i) (sym ready) h))
              | inr listed ↦ inr (inr (listed.0, listed-there i listed.0 (bytes_eq id listed.0) refl listed.1))
            ]
          ]
        where
          last : (b : Bool) → (w.place == i) ≡ true → (b || ((w.place == i) || false)) ≡ true
          last true e = refl
          last false e = rw e refl

  -- a saved commit needs no seat
  pub seats-saved : (s : Stage) (place : ℕ) (a : Ancestry) → slice_get came place ≡ Some a → has saved a.id ≡ true → SeatsAt came saved place s s
  seats-saved s place a at there unseated later stage rest = record {
    ready = stage.ready;
    lists = stage.lists;
    all = λ i c at_i waits. elim (stage.all i c at_i waits) [
      | inl u ↦ elim (rest i u) [
        | inl here ↦
            let same : c ≡ a = some_is (sym at_i ∙ ap (slice_get came) here ∙ at) in
            let saved_one : has saved c.id ≡ true = ap (λ (x : Ancestry). has saved x.id) same ∙ there in
            absurd (true≢false (sym waits ∙ rw saved_one refl))
        | inr l ↦ inl l
      ]
      | inr seated ↦ inr seated
    ];
  }

  -- fewer commits are still to be seated
  pub stage-weaker : (unseated later : ℕ → Bool) (s : Stage) → IsStage came saved unseated s → ((i : ℕ) (c : Ancestry) → slice_get came i ≡ Some c → unseated i ≡ true → later i ≡ true)
      → IsStage came saved later s
  stage-weaker unseated later s stage weaker = record {
    ready = stage.ready;
    lists = stage.lists;
    all = λ i c at waits. elim (stage.all i c at waits) [ inl u ↦ inl (weaker i c at u) | inr seated ↦ inr seated ];
  }

  -- at first all are
  pub stage-empty : (unseated : ℕ → Bool) (s : Stage) → IsEmpty s → ((i : ℕ) → unseated i ≡ true) → IsStage came saved unseated s
  stage-empty unseated s empty all = record {
    ready = λ i h. absurd (true≢false (sym h ∙ empty.ready i));
    lists = λ p. subst (Each (WaitsFor came saved s.placed p)) {x = []} {y = waits_for s.waiting p} (sym (empty.waiting p)) tt;
    all = λ i c at waits. inl (all i);
  }

-- the commit of a place that is held
pub record TakenRow (known : List Object) (ids : List Id) (saved placed : List Id) (k : ℕ) (id : Id) : Type 0 where
  pub at_place : slice_get (ancestries known ids) k ≡ Some (ancestry_at known id)
  pub ready : is_ready saved placed (ancestry_at known id) ≡ true
  pub new : has placed id ≡ false

pub taken_row : (known : List Object) (ids saved : List Id) (s : Stage) (k : ℕ) (id : Id) → IsStage (ancestries known ids) saved nowhere s → Holds s.ready k → slice_get ids k ≡ Some id → TakenRow known ids saved s.placed k id
taken_row known ids saved s k id stage held at =
    let r = stage.ready k held in
    let here : slice_get (ancestries known ids) k ≡ Some (ancestry_at known id) = get-map (ancestry_at known) ids k ∙ ap (option_map (ancestry_at known)) at in
    let same : r.commit ≡ ancestry_at known id = some_is (sym r.at_place ∙ here) in
    let ready : is_ready saved s.placed (ancestry_at known id) ≡ true = ap (is_ready saved s.placed) (sym same) ∙ r.ready in
    let waits = (both (is_waiting saved s.placed (ancestry_at known id)) (list_all (is_known saved s.placed) (parents_at known id)) ready).0 in
    record { at_place = here; ready = ready; new = not_true (has s.placed id) (both (not (has saved id)) (not (has s.placed id)) waits).1 }
