-- What is found in a list first, and what isn't found.
use Rattle.std.proofs.Common.{◌≡◌, Bool, true, false, List, [], ◌∷◌, map, Some, None, refl, sym, ap, subst, ◌∙◌, inl, inr}
use Rattle.std.specs.Prelude.{is_some, bytes_eq}
use Rattle.std.specs.List.{find, list_any}
use Rattle.text_model.specs.Text.{Bytes}
use Rattle.text_model.specs.Lists.{Each, IsFirstThat}
use Rattle.text_model.proofs.Options.{some_is}
use Rattle.text_model.proofs.TestLemmas.{bytes_eq-sym}

-- ---- the first element with a property

pub first-one : {X : Type 0} (P : X → Type 0) (xs : List X) (a b : X) → IsFirstThat P xs a → IsFirstThat P xs b → a ≡ b
first-one P [] a b h k = absurd h
first-one P (x ∷ xs) a b (inl h) (inl k) = h.0 ∙ sym k.0
first-one P (x ∷ xs) a b (inl h) (inr k) = absurd (k.0 h.1)
first-one P (x ∷ xs) a b (inr h) (inl k) = absurd (h.0 k.1)
first-one P (x ∷ xs) a b (inr h) (inr k) = first-one P xs a b h.1 k.1

pub none-first : {X : Type 0} (P : X → Type 0) (xs : List X) (a : X) → Each (λ x. ¬ (P x)) xs → IsFirstThat P xs a → ⊥
none-first P [] a none h = h
none-first P (x ∷ xs) a none (inl h) = none.0 h.1
none-first P (x ∷ xs) a none (inr h) = none-first P xs a none.1 h.1

-- ---- the first element that passes a test

-- it passes the test, and has what each element has
pub found : {X : Type 0} (P : X → Type 0) (test : X → Bool) (xs : List X) (x : X) → Each P xs → find test xs ≡ Some x → P x × (test x ≡ true)
found P test [] x each at = absurd cc
found {X} P test (y ∷ xs) x each at = by (test y) refl (found P test xs x each.1)
  where
    by : (t : Bool) → test y ≡ t → (find test xs ≡ Some x → P x × (test x ≡ true)) → P x × (test x ≡ true)
    by true t later = let is : y ≡ x = some_is (sym (rw t refl) ∙ at) in (subst P is each.0, ap test (sym is) ∙ t)
    by false t later = later (sym (rw t refl) ∙ at)

pub none-found : {X : Type 0} (test : X → Bool) (xs : List X) → Each (λ x. test x ≡ false) xs → find test xs ≡ None
none-found test [] none = refl
none-found test (x ∷ xs) none = rw none.0 (none-found test xs none.1)

-- where none has a value, the value is none of theirs
pub not-among : {X : Type 0} (f : X → Bytes) (n : Bytes) (xs : List X) → is_some (find (λ x. bytes_eq (f x) n) xs) ≡ false
    → list_any (bytes_eq n) (map f xs) ≡ false
not-among f n [] h = refl
not-among f n (x ∷ xs) h = by (bytes_eq (f x) n) refl (not-among f n xs)
  where
    by : (t : Bool) → bytes_eq (f x) n ≡ t → (is_some (find (λ x. bytes_eq (f x) n) xs) ≡ false → list_any (bytes_eq n) (map f xs) ≡ false)
        → list_any (bytes_eq n) (map f (x ∷ xs)) ≡ false
    by true e later = absurd cc
    by false e later = rw (bytes_eq-sym n (f x) ∙ e) (later (sym (rw e refl) ∙ h))
