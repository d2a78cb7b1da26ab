-- Tests that compute.
use Rattle.std.proofs.Common.{◌≡◌, ◌≢◌, ◌<◌, ◌&&◌, ◌||◌, ℕ, zero, suc, Bool, true, false, eqb, bytes_eq, refl, sym, ap, ◌∙◌, arith, inl, inr}
use Rattle.std.proofs.lemmas.Bool.Decides.{nat_tests, eqb_tells}
use Rattle.std.proofs.lemmas.Slice.Eq.{bytes_eq-Decides}
use Rattle.text_model.specs.Text.{Bytes}

pub both : (a b : Bool) → (a && b) ≡ true → (a ≡ true) × (b ≡ true)
both true b h = (refl, h)
both false b h = absurd cc

pub or_true : (b : Bool) → (b || true) ≡ true
or_true true = refl
or_true false = refl

pub differs : (a b : ℕ) → a ≢ b → eqb a b ≡ false
differs a b ne = grind (arith, ne, nat_tests)

-- the test passes for each number below n
unfoldable pub below : ℕ → (ℕ → Bool) → Bool
below zero test = true
below (suc n) test = test n && below n test

pub below-at : (n : ℕ) (test : ℕ → Bool) → below n test ≡ true → (i : ℕ) → i < n → test i ≡ true
unfolding below
below-at zero test h i lt = absurd (omega (arith, lt))
below-at (suc n) test h i lt =
    elim (eqb_tells i n) [
      | inl e ↦ ap test e.1 ∙ (both (test n) (below n test) h).0
      | inr e ↦ below-at n test (both (test n) (below n test) h).1 i (omega (arith, e.1, lt))
    ]

-- two tests that pass together
pub same_bool : (a b : Bool) → (a ≡ true → b ≡ true) → (b ≡ true → a ≡ true) → a ≡ b
same_bool true b f g = sym (f refl)
same_bool false true f g = g refl
same_bool false false f g = refl

-- ---- the test of bytes

pub bytes_eq-self : (x : Bytes) → bytes_eq x x ≡ true
bytes_eq-self x = (bytes_eq-Decides x x).1 refl

pub bytes_eq-sym : (x y : Bytes) → bytes_eq x y ≡ bytes_eq y x
bytes_eq-sym x y = same_bool (bytes_eq x y) (bytes_eq y x)
    (λ h. (bytes_eq-Decides y x).1 (sym ((bytes_eq-Decides x y).0 h)))
    (λ h. (bytes_eq-Decides x y).1 (sym ((bytes_eq-Decides y x).0 h)))

pub bytes_eq-is : (x y : Bytes) → bytes_eq x y ≡ true → x ≡ y
bytes_eq-is x y h = (bytes_eq-Decides x y).0 h

pub bytes_eq-other : (x y : Bytes) → x ≢ y → bytes_eq x y ≡ false
bytes_eq-other x y h = by (bytes_eq x y) refl
  where
    by : (t : Bool) → bytes_eq x y ≡ t → bytes_eq x y ≡ false
    by true e = absurd (h ((bytes_eq-Decides x y).0 e))
    by false e = e
