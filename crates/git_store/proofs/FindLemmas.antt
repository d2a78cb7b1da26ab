-- Finding in lists, and what stands at a place.
use Rattle.std.proofs.Common.{◌≡◌, ◌<◌, ℕ, zero, suc, Bool, true, false, true≢false, List, [], ◌∷◌, map, Some, None, refl, sym, ap, ◌∙◌, inl, inr, arith}
use Rattle.std.specs.Prelude.{slice_get, option_map}
use Rattle.std.specs.List.{list_all, list_any, find}
use Rattle.text_model.specs.Lists.{In, Each}
use Rattle.text_model.proofs.TestLemmas.{both}
use Rattle.text_model.proofs.Options.{some_is, none_some}

module _ {X Y : Type 0} (f : X → Y) where
  pub find-map : (p : Y → Bool) (xs : List X) → find p (map f xs) ≡ option_map f (find (λ x. p (f x)) xs)
  find-map p [] = refl
  find-map p (x ∷ xs) = by (p (f x)) refl (find-map p xs)
    where
      by : (t : Bool) → p (f x) ≡ t → find p (map f xs) ≡ option_map f (find (λ y. p (f y)) xs) → find p (map f (x ∷ xs)) ≡ option_map f (find (λ y. p (f y)) (x ∷ xs))
      by true t rest = rw t refl
      by false t rest = rw t rest

  pub get-map : (xs : List X) (i : ℕ) → slice_get (map f xs) i ≡ option_map f (slice_get xs i)
  get-map [] i = refl
  get-map (x ∷ xs) zero = refl
  get-map (x ∷ xs) (suc i) = get-map xs i

module _ {X : Type 0} (p : X → Bool) where
  pub find-passes : (xs : List X) (x : X) → find p xs ≡ Some x → p x ≡ true
  find-passes [] x h = absurd (none_some h)
  find-passes (y ∷ xs) x h = by (p y) refl (find-passes xs x)
    where
      by : (t : Bool) → p y ≡ t → (find p xs ≡ Some x → p x ≡ true) → p x ≡ true
      by true t rest = ap p (sym (some_is (sym (rw t refl) ∙ h))) ∙ t
      by false t rest = rest (sym (rw t refl) ∙ h)

  pub find-among : (xs : List X) (x : X) → find p xs ≡ Some x → In x xs
  find-among [] x h = absurd (none_some h)
  find-among (y ∷ xs) x h = by (p y) refl (find-among xs x)
    where
      by : (t : Bool) → p y ≡ t → (find p xs ≡ Some x → In x xs) → In x (y ∷ xs)
      by true t rest = inl (sym (some_is (sym (rw t refl) ∙ h)))
      by false t rest = inr (rest (sym (rw t refl) ∙ h))

  -- the first that passes is found
  pub find-first : (xs : List X) (k : ℕ) (x : X) → slice_get xs k ≡ Some x → p x ≡ true
      → ((j : ℕ) (y : X) → j < k → slice_get xs j ≡ Some y → p y ≡ true → ⊥) → find p xs ≡ Some x
  find-first [] k x h t none = absurd (none_some h)
  find-first (y ∷ xs) zero x h t none = let is : y ≡ x = some_is h in rw (ap p is ∙ t) (ap Some is)
  find-first (y ∷ xs) (suc k) x h t none = by (p y) refl (find-first xs k x h t (λ j z lt e q. none (suc j) z (omega arith) e q))
    where
      by : (b : Bool) → p y ≡ b → find p xs ≡ Some x → find p (y ∷ xs) ≡ Some x
      by true e r = absurd (none 0 y (omega arith) refl e)
      by false e r = rw e r

  -- none is found where none passes
  pub find-none : (xs : List X) → ((i : ℕ) (x : X) → slice_get xs i ≡ Some x → p x ≡ true → ⊥) → find p xs ≡ None
  find-none [] n = refl
  find-none (x ∷ xs) n = by (p x) refl (find-none xs (λ i y e r. n (suc i) y e r))
    where
      by : (b : Bool) → p x ≡ b → find p xs ≡ None → find p (x ∷ xs) ≡ None
      by true f r = absurd (n 0 x refl f)
      by false f r = rw f r

  pub all-at : (xs : List X) (i : ℕ) (x : X) → list_all p xs ≡ true → slice_get xs i ≡ Some x → p x ≡ true
  all-at [] i x all h = absurd (none_some h)
  all-at (y ∷ xs) zero x all h = ap p (sym (some_is h)) ∙ (both (p y) (list_all p xs) all).0
  all-at (y ∷ xs) (suc i) x all h = all-at xs i x (both (p y) (list_all p xs) all).1 h

  pub all-weaker : (q : X → Bool) → ((x : X) → p x ≡ true → q x ≡ true) → (xs : List X) → list_all p xs ≡ true → list_all q xs ≡ true
  all-weaker q f [] h = refl
  all-weaker q f (x ∷ xs) h =
      let parts = both (p x) (list_all p xs) h in rw (f x parts.0) (all-weaker q f xs parts.1)

  -- an element that passes, with what holds of each
  pub record Passing (P : X → Type 0) : Type 0 where
    pub element : X
    pub holds : P element
    pub passes : p element ≡ true

  pub any-each : (P : X → Type 0) (xs : List X) → Each P xs → list_any p xs ≡ true → Passing P
  any-each P [] all h = absurd (true≢false (sym h))
  any-each P (x ∷ xs) all h = by (p x) refl (any-each P xs all.1)
    where
      by : (b : Bool) → p x ≡ b → (list_any p xs ≡ true → Passing P) → Passing P
      by true e rest = record { element = x; holds = all.0; passes = e }
      by false e rest = rest (sym (rw e refl) ∙ h)
