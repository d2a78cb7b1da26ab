-- The objects that are known under ids.
use Rattle.std.proofs.Common.{◌≡◌, ℕ, zero, suc, Bool, true, false, true≢false, ◌||◌, List, [], ◌∷◌, length, take, Some, refl, sym, ap, ◌∙◌}
use Rattle.std.proofs.lemmas.List.{length-map, take-map}
use Rattle.text_model.specs.Lists.{Each}
use Rattle.text_model.specs.Id.{Id}
use Rattle.git_model.specs.Object.{Object, object_at}
use Rattle.state_text.specs.Stands.{AreAt}

module _ (known : List Object) where
  pub objects-count : (ids : List Id) (os : List Object) → AreAt known ids os → length ids ≡ length os
  objects-count ids os at = ap length at.0 ∙ length-map os (λ (o : Object). o.id)

  each-take : (os : List Object) (n : ℕ) → Each (λ o. object_at known o.id ≡ Some o) os → Each (λ o. object_at known o.id ≡ Some o) (take n os)
  each-take os zero h = tt
  each-take [] (suc n) h = tt
  each-take (o ∷ os) (suc n) h = (h.0, each-take os n h.1)

  -- the first of them are known under the first ids
  pub at-take : (ids : List Id) (os : List Object) (n : ℕ) → AreAt known ids os → AreAt known (take n ids) (take n os)
  at-take ids os n at = (ap (take n) at.0 ∙ take-map (λ (o : Object). o.id) n os, each-take os n at.1)

-- ---- tests

pub any-last : (a b c : Bool) → c ≡ true → ((a || b) || c) ≡ true
any-last true b c e = refl
any-last false true c e = refl
any-last false false c e = e

pub any-first : (a b c : Bool) → a ≡ true → ((a || b) || c) ≡ true
any-first a b c e = ap (λ (t : Bool). (t || b) || c) e

pub any-middle : (a b c : Bool) → a ≡ false → c ≡ false → b ≡ ((a || b) || c)
any-middle true b c e f = absurd (true≢false e)
any-middle false true c e f = refl
any-middle false false c e f = sym f
