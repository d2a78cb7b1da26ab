-- Commits have one order, or they have none.
use Rattle.std.proofs.Common.{◌≡◌, ◌<◌, ◌≤◌, ℕ, zero, suc, Bool, true, false, true≢false, List, [], ◌∷◌, ◌++◌, length, take, Option, Some, None, refl, sym, ap, ◌∙◌, inl, inr, ◌⊎◌, arith, not, ◌||◌, append_assoc, append-nil, bytes_eq}
use Rattle.std.specs.Prelude.{option_map, slice_get, ⊤}
use Rattle.std.specs.List.{find, list_all, list_any}
use Rattle.std.proofs.lemmas.Bool.{cases_lt}
use Rattle.std.proofs.lemmas.List.{take_all}
use Rattle.std.proofs.lemmas.List.Folds.{list_any-append}
use Rattle.text_model.specs.Id.{Id}
use Rattle.text_model.proofs.Elements.{each_from}
use Rattle.text_model.proofs.Options.{some_is, none_some, not_true}
use Rattle.text_model.proofs.TestLemmas.{both}
use Rattle.git_model.specs.Tree.{has_distinct}
use Rattle.git_model.specs.Order.{Ancestry, has, is_waiting, is_ready, next_ready, IsPlacement, IsOrder, IsStuckAt}
use Rattle.pull_law.proofs.Searches.{found}
use Rattle.pull_law.proofs.Tables.{distinct-push}

-- ---- the beginnings of lists

get-within : (xs : List Id) (k : ℕ) → k < length xs → (x : Id) × (slice_get xs k ≡ Some x)
get-within [] k h = absurd (omega arith)
get-within (x ∷ xs) zero h = (x, refl)
get-within (x ∷ xs) (suc k) h = get-within xs k (omega arith)

take-one_more : (xs : List Id) (k : ℕ) (x : Id) → slice_get xs k ≡ Some x → take (suc k) xs ≡ take k xs ++ x ∷ []
take-one_more [] k x h = absurd (none_some h)
take-one_more (y ∷ xs) zero x h = ap (λ (z : Id). z ∷ []) (some_is h)
take-one_more (y ∷ xs) (suc k) x h = ap (λ (l : List Id). y ∷ l) (take-one_more xs k x h)

-- ---- two placements

module _ (came : List Ancestry) (saved : List Id) where
  -- the commit that stands next behind those placed
  abbrev next_id : List Id → Option Id
  next_id placed = option_map (λ c. c.id) (next_ready came saved placed)

  same-beginning : (xs ys : List Id) → IsPlacement came saved xs → IsPlacement came saved ys
      → (k : ℕ) → k ≤ length xs → k ≤ length ys → take k xs ≡ take k ys
  same-beginning xs ys h j zero le le' = refl
  same-beginning xs ys h j (suc k) le le' =
      let before = same-beginning xs ys h j k (omega arith) (omega arith) in
      let x = get-within xs k (omega arith) in
      let y = get-within ys k (omega arith) in
      let same : x.0 ≡ y.0 = some_is
      (sym x.1 ∙ h k (omega arith) ∙ ap next_id before ∙ sym (j k (omega arith)) ∙ y.1) in
      take-one_more xs k x.0 x.1 ∙ (λ i. before i ++ same i ∷ []) ∙ sym (take-one_more ys k y.0 y.1)

  -- behind a placement with no commit that is ready no other one goes on
  no_longer : (xs ys : List Id) → IsPlacement came saved xs → IsPlacement came saved ys → next_ready came saved xs ≡ None
      → length xs < length ys → ⊥
  no_longer xs ys h j none lt =
      let y = get-within ys (length xs) lt in
      let begins : take (length xs) ys ≡ xs = sym (same-beginning xs ys h j (length xs) (omega arith) (omega arith))
      ∙ take_all (length xs) xs (omega arith) in
      none_some (sym (ap (option_map (λ (c : Ancestry). c.id)) none)
      ∙ ap next_id (sym begins) ∙ sym (j (length xs) lt) ∙ y.1)

  pub one-placement : (xs ys : List Id) → IsPlacement came saved xs → IsPlacement came saved ys → next_ready came saved xs ≡ None
      → next_ready came saved ys ≡ None → xs ≡ ys
  one-placement xs ys h j none none' = by (cases_lt (length xs) (length ys)) (cases_lt (length ys) (length xs))
    where
      by : (length xs < length ys) ⊎ (length ys ≤ length xs) → (length ys < length xs) ⊎ (length xs ≤ length ys) → xs ≡ ys
      by (inl lt) other = absurd (no_longer xs ys h j none lt)
      by (inr le) (inl lt) = absurd (no_longer ys xs j h none' lt)
      by (inr le) (inr le') =
          sym (take_all (length xs) xs (omega arith)) ∙ same-beginning xs ys h j (length xs) (omega arith) le' ∙ take_all (length xs) ys le

  -- where none waits none is ready
  find-stricter : (p q : Ancestry → Bool) → ((c : Ancestry) → q c ≡ true → p c ≡ true) → (cs : List Ancestry) → find p cs ≡ None
      → find q cs ≡ None
  find-stricter p q f [] h = refl
  find-stricter p q f (c ∷ cs) h = by (p c) (q c) refl refl (find-stricter p q f cs)
    where
      by : (s t : Bool) → p c ≡ s → q c ≡ t → (find p cs ≡ None → find q cs ≡ None) → find q (c ∷ cs) ≡ None
      by true t e g later = absurd (none_some {x = c} (sym h ∙ rw e refl))
      by false true e g later = absurd (true≢false (sym (f c g) ∙ e))
      by false false e g later = rw g (later (sym (rw e refl) ∙ h))

  none-ready : (placed : List Id) → find (is_waiting saved placed) came ≡ None → next_ready came saved placed ≡ None
  none-ready placed h =
      find-stricter (is_waiting saved placed) (is_ready saved placed) (λ c e. (both (is_waiting saved placed c) (list_all _ c.parents) e).0) came h

  pub one-order : (xs ys : List Id) → IsOrder came saved xs → IsOrder came saved ys → xs ≡ ys
  one-order xs ys h j = one-placement xs ys h.places j.places (none-ready xs h.all) (none-ready ys j.all)

  pub order-or_stuck : (xs : List Id) (waiting : Id) → IsOrder came saved xs → IsStuckAt came saved waiting → ⊥
  order-or_stuck xs waiting h s =
      let same = one-placement xs s.placed h.places s.places (none-ready xs h.all) s.none_ready in
      none_some (sym h.all ∙ ap (λ (l : List Id). find (is_waiting saved l) came) same ∙ s.first)

  pub one-stuck : (a b : Id) → IsStuckAt came saved a → IsStuckAt came saved b → a ≡ b
  one-stuck a b s t =
      let same = one-placement s.placed t.placed s.places t.places s.none_ready t.none_ready in
      ap (λ (c : Ancestry). c.id) (some_is (sym s.first ∙ ap (λ (l : List Id). find (is_waiting saved l) came) same ∙ t.first))

  -- ---- the ids of a placement are new and distinct

  place-new : (placed : List Id) (c : Ancestry) → next_ready came saved placed ≡ Some c → has_distinct (saved ++ placed) ≡ true
      → has_distinct (saved ++ (placed ++ c.id ∷ [])) ≡ true
  place-new placed c at distinct =
      let ready = (found (λ (c : Ancestry). ⊤) (is_ready saved placed) came c (each_from (λ (c : Ancestry). ⊤) came (λ c i. tt)) at).1 in
      let waits = both (not (has saved c.id)) (not (has placed c.id)) (both (is_waiting saved placed c) (list_all (λ p. has saved p || has placed p) c.parents) ready).0 in
      let new : list_any (bytes_eq c.id) (saved ++ placed) ≡ false =
      list_any-append (bytes_eq c.id) saved placed ∙ (λ i. not_true (has saved c.id) waits.0 i || not_true (has placed c.id) waits.1 i) in
      ap has_distinct (sym (append_assoc saved placed (c.id ∷ []))) ∙ distinct-push (saved ++ placed) c.id distinct new

  taken-distinct : (xs : List Id) → IsPlacement came saved xs → has_distinct saved ≡ true → (k : ℕ) → k ≤ length xs
      → has_distinct (saved ++ take k xs) ≡ true
  taken-distinct xs h distinct zero le = ap has_distinct (append-nil saved) ∙ distinct
  taken-distinct xs h distinct (suc k) le =
      let before = taken-distinct xs h distinct k (omega arith) in
      let x = get-within xs k (omega arith) in
      by (next_ready came saved (take k xs)) refl before (take-one_more xs k x.0 x.1) (sym x.1 ∙ h k (omega arith))
    where
      by : {x : Id} (o : Option Ancestry) → next_ready came saved (take k xs) ≡ o → has_distinct (saved ++ take k xs) ≡ true
          → take (suc k) xs ≡ take k xs ++ x ∷ [] → Some x ≡ option_map (λ c. c.id) (next_ready came saved (take k xs))
          → has_distinct (saved ++ take (suc k) xs) ≡ true
      by None e before more is = absurd (none_some (sym (ap (option_map (λ (c : Ancestry). c.id)) e) ∙ sym is))
      by (Some c) e before more is =
          let same = some_is (is ∙ ap (option_map (λ (c : Ancestry). c.id)) e) in
          ap (λ (l : List Id). has_distinct (saved ++ l)) (more ∙ ap (λ (z : Id). take k xs ++ z ∷ []) same) ∙ place-new (take k xs) c e before

  pub order-distinct : (xs : List Id) → IsOrder came saved xs → has_distinct saved ≡ true → has_distinct (saved ++ xs) ≡ true
  order-distinct xs h distinct =
      ap (λ (l : List Id). has_distinct (saved ++ l)) (sym (take_all (length xs) xs (omega arith))) ∙ taken-distinct xs h.places distinct (length xs) (omega arith)
