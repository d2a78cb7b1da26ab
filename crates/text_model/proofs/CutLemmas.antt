-- Cutting at a byte.
use Rattle.std.proofs.Common.{◌≤◌, ◌≡◌, ◌<◌, ◌+◌, ◌-◌, ◌==◌, ℕ, suc, Bool, true, false, eqb, ltb, List, [], ◌∷◌, ◌++◌, length, take, drop, Some, None, refl, sym, subst, ◌∙◌, arith, inl, inr}
use Rattle.std.specs.List.{position_or_len}
use Rattle.std.proofs.lemmas.Bool.Decides.{eqb_tells}
use Rattle.std.proofs.lemmas.Bool.{eq-eqb, lt-ltb, ltb-true, ltb-false}
use Rattle.std.proofs.lemmas.List.{take_at, length-append}
use Rattle.text_model.proofs.Options.{none_some, some_is, some_none}
use Rattle.text_model.proofs.TestLemmas.{differs}
use Rattle.text_model.specs.Cuts.{Lacks, cut_of}

-- where the byte stands
place : ℕ → List ℕ → ℕ
place b bytes = position_or_len (λ x. x == b) bytes

at_head : (b : ℕ) (rest : List ℕ) → position_or_len (λ x. x == b) (b ∷ rest) ≡ 0
at_head b rest = rw (eq-eqb b b refl) refl

past_head : (b x : ℕ) (rest : List ℕ) → eqb x b ≡ false → position_or_len (λ x. x == b) (x ∷ rest) ≡ 1 + position_or_len (λ x. x == b) rest
past_head b x rest e = rw e refl

pub place_is : (b : ℕ) (front rest : List ℕ) → Lacks b front → position_or_len (λ x. x == b) (front ++ b ∷ rest) ≡ length front
place_is b [] rest h = at_head b rest
place_is b (x ∷ xs) rest h = omega (arith, past_head b x (xs ++ b ∷ rest) (differs x b h.0), place_is b xs rest h.1)

-- what lacks the byte is cut off before it
pub cut_of-at : (b : ℕ) (front rest : List ℕ) → Lacks b front → cut_of b (front ++ b ∷ rest) ≡ Some (front, rest)
unfolding cut_of
cut_of-at b front rest h =
    let bytes : List ℕ = front ++ b ∷ rest in
    let within : ltb (length front) (length (front ++ b ∷ rest)) ≡ true = lt-ltb _ _ (omega (arith, length-append front (b ∷ rest))) in
    rw (place_is b front rest h, within, take_at front (b ∷ rest) (length front) refl, dropped b front rest) refl
  where
    dropped : (b : ℕ) (front rest : List ℕ) → drop (suc (length front)) (front ++ b ∷ rest) ≡ rest
    dropped b [] rest = refl
    dropped b (x ∷ xs) rest = dropped b xs rest

-- a place where the byte stands, for the first time
IsFirst : ℕ → List ℕ → ℕ → Type 0
IsFirst b bytes i = (bytes ≡ take i bytes ++ b ∷ drop (suc i) bytes) × Lacks b (take i bytes)

found : (b : ℕ) (bytes : List ℕ) (i : ℕ) → position_or_len (λ x. x == b) bytes ≡ i → i < length bytes → IsFirst b bytes i
unfolding IsFirst
found b [] i p lt = absurd (omega arith)
found b (x ∷ xs) i p lt = elim (eqb_tells x b) [
  | inl e ↦
      let zeroth : i ≡ 0 = sym p ∙ rw e.0 refl in
      rw (zeroth, e.1) (refl, tt)
  | inr e ↦
      let k : position_or_len (λ x. x == b) xs ≡ i - 1 = omega (arith, past_head b x xs e.0, p) in
      let one : i ≡ suc (i - 1) = omega (arith, past_head b x xs e.0, p) in
      let rest = found b xs (i - 1) k (omega arith) in
      rw one ((λ j. x ∷ rest.0 j), (e.1, rest.1))
]

pub cut_of-takes : (b : ℕ) (bytes front rest : List ℕ) → cut_of b bytes ≡ Some (front, rest) → (bytes ≡ front ++ b ∷ rest) × Lacks b front
unfolding cut_of IsFirst
cut_of-takes b bytes front rest e = by (ltb (position_or_len (λ x. x == b) bytes) (length bytes)) refl
  where
    by : (t : Bool) → ltb (position_or_len (λ x. x == b) bytes) (length bytes) ≡ t → (bytes ≡ front ++ b ∷ rest) × Lacks b front
    by true t =
        let i = position_or_len (λ x. x == b) bytes in
        let parts = found b bytes i refl (ltb-true _ _ t) in
        let is : (take i bytes, drop (suc i) bytes) ≡ (front, rest) = some_is {x = (take i bytes, drop (suc i) bytes)} {y = (front, rest)} (sym (rw t refl) ∙ e) in
        subst (λ (x : List ℕ × List ℕ). (bytes ≡ x.0 ++ b ∷ x.1) × Lacks b x.0) is parts
    by false t = absurd (none_some {x = (front, rest)} (sym (rw t refl) ∙ e))

-- where nothing is cut off the byte is nowhere
lacks_all : (b : ℕ) (bytes : List ℕ) → length bytes ≤ position_or_len (λ x. x == b) bytes → Lacks b bytes
lacks_all b [] le = tt
lacks_all b (x ∷ xs) le = elim (eqb_tells x b) [
  | inl e ↦ absurd (omega (arith, le, zeroth e.0))
  | inr e ↦ (e.1, lacks_all b xs (omega (arith, le, past_head b x xs e.0)))
]
  where
    zeroth : eqb x b ≡ true → position_or_len (λ y. y == b) (x ∷ xs) ≡ 0
    zeroth e = rw e refl

pub cut_of-none : (b : ℕ) (bytes : List ℕ) → cut_of b bytes ≡ None → Lacks b bytes
unfolding cut_of
cut_of-none b bytes e = by (ltb (position_or_len (λ x. x == b) bytes) (length bytes)) refl
  where
    by : (t : Bool) → ltb (position_or_len (λ x. x == b) bytes) (length bytes) ≡ t → Lacks b bytes
    by true t = absurd (some_none {x = (take (position_or_len (λ x. x == b) bytes) bytes, drop (suc (position_or_len (λ x. x == b) bytes)) bytes)} (sym (rw t refl) ∙ e))
    by false t = lacks_all b bytes (ltb-false _ _ t)
