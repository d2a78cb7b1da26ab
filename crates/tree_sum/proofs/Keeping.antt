-- The sums that are kept.
use Rattle.std.proofs.Common.{◌≡◌, ◌≤◌, ◌+◌, ◌-◌, ◌↔◌, ℕ, suc, Bool, true, false, true≢false, List, [], ◌∷◌, Option, Some, None, MatchOption, IsTrue, is_some, refl, sym, ap, subst, ◌∙◌, arith, bytes_eq}
use Rattle.std.specs.Prelude.{if◌then◌else◌}
use Rattle.std.specs.Map.{lookup}
use Rattle.text_model.specs.Lists.{Each}
use Rattle.text_model.specs.Id.{Id}
use Rattle.text_model.proofs.Options.{some_is}
use Rattle.text_model.proofs.TestLemmas.{bytes_eq-is}
use Rattle.indexmap.specs.IndexMap.{insert_entry}
use Rattle.git_model.specs.Object.{Object, AreObjects}
use Rattle.git_model.specs.Unfold.{visits, walk, walk_fault}
use Rattle.tree_sum.specs.declared.sum.Sum.{Sum}
use Rattle.tree_sum.specs.Numbers.{IsWithin}
use Rattle.tree_sum.specs.Sums.{deepest_of, sum_of, IsSum, IsAnswer, Fits, Passes}
use Rattle.tree_sum.proofs.Depths.{deeper-same, shallower-same}
use Rattle.tree_sum.proofs.Passing.{passes-walk, walk-passes}

-- ---- the sums that are kept

module _ {X : Type 0} (P : Id × X → Type 0) where
  pub kept-at : (es : List (Id × X)) (id : Id) (x : X) → Each P es → lookup (bytes_eq id) es ≡ Some x → P (id, x)
  kept-at [] id x all h = absurd cc
  kept-at (e ∷ es) id x all h = by (bytes_eq id e.0) refl (kept-at es id x all.1)
    where
      by : (t : Bool) → bytes_eq id e.0 ≡ t → (lookup (bytes_eq id) es ≡ Some x → P (id, x)) → P (id, x)
      by true t later =
          let same : e.0 ≡ id = sym (bytes_eq-is id e.0 t) in
          let value : e.1 ≡ x = some_is (sym (rw t refl) ∙ h) in
          subst P {x = e} {y = (id, x)} (λ k. (same k, value k)) all.0
      by false t later = later (sym (rw t refl) ∙ h)

  pub kept-more : (es : List (Id × X)) (id : Id) (x : X) → Each P es → P (id, x) → Each P (insert_entry bytes_eq es id x)
  kept-more [] id x all one = (one, tt)
  kept-more (e ∷ es) id x all one = by (bytes_eq id e.0) refl (kept-more es id x all.1 one)
    where
      by : (t : Bool) → bytes_eq id e.0 ≡ t → Each P (insert_entry bytes_eq es id x) → Each P (if t then (e.0, x) ∷ es else e ∷ insert_entry bytes_eq es id x)
      by true t later = (subst (λ (i : Id). P (i, x)) (bytes_eq-is id e.0 t) one, all.1)
      by false t later = (all.0, later)

module _ (known : List Object) (are : AreObjects known) (levels : ℕ) (id : Id) (low : levels ≤ 256) where
  split : 256 ≡ (256 - levels) + levels
  split = omega arith

  deep-passes : Passes known levels id → deepest_of (visits known (suc levels) [] id) ≤ levels
  unfolding sum_of
  deep-passes p = p.2.within.deepest

  -- a walk that passes with so many levels is the whole walk
  pub settled : Passes known levels id → walk known id ≡ visits known (suc levels) [] id
  settled p = deeper-same known are (256 - levels) levels 256 id split (deep-passes p)

  -- with more levels it passes as well
  pub passes-more : Passes known levels id → Passes known 256 id
  passes-more p =
      let f : Fits known levels (walk known id) = subst (Fits known levels) (sym (settled p)) p.2 in
      (p.0, p.1, record { there = f.there; within = record { counted = f.within.counted; size = f.within.size; longest = f.within.longest; deepest = omega (arith, f.within.deepest) } })

  pub sum-passes : (s : Sum) → Passes known levels id → s ≡ sum_of known (visits known (suc levels) [] id) → IsSum known id s
  sum-passes s p is = record { objects = are; passes = passes-walk known are id (passes-more p); is = is ∙ ap (sum_of known) (sym (settled p)) }

  module _ (s : Sum) (sum : IsSum known id s) where
    sum-deep : s.deepest ≡ deepest_of (walk known id)
    unfolding sum_of
    sum-deep = ap (λ (t : Sum). t.deepest) sum.is

    -- a sum that is kept says whether the walk passes with fewer levels
    pub kept-passes : s.deepest ≤ levels → Passes known levels id
    kept-passes h =
        let p = walk-passes known are id sum.passes in
        let same : walk known id ≡ visits known (suc levels) [] id = shallower-same known are (256 - levels) levels 256 id split (omega (arith, sum-deep)) in
        let within : IsWithin levels (sum_of known (walk known id)) =
        record { counted = p.2.within.counted; size = p.2.within.size; longest = p.2.within.longest; deepest = subst (λ (t : Sum). t.deepest ≤ levels) sum.is h } in
        (p.0, p.1, subst (Fits known levels) same (record { there = p.2.there; within = within }))

    pub kept-refused : (s.deepest ≤ levels → ⊥) → Passes known levels id → ⊥
    kept-refused h p = h (omega (arith, sum-deep, ap deepest_of (settled p), deep-passes p))

    pub sum-is : Passes known levels id → s ≡ sum_of known (visits known (suc levels) [] id)
    sum-is p = sum.is ∙ ap (sum_of known) (settled p)

-- a sum that is kept is within the limits
pub sum-within : (known : List Object) (id : Id) (s : Sum) → AreObjects known → IsSum known id s → IsWithin 256 s
sum-within known id s are sum = subst (IsWithin 256) (sym sum.is) (walk-passes known are id sum.passes).2.within

-- ---- what is answered

pub kept-answer : (known : List Object) (levels : ℕ) (id : Id) (s : Sum) (o : Option Sum) → AreObjects known → levels ≤ 256 → IsSum known id s → MatchOption o (s.deepest ≤ levels → ⊥) (λ r. (r ≡ s) × (r.deepest ≤ levels)) → IsAnswer known levels id o
kept-answer known levels id s None are low sum h = kept-refused known are levels id low s sum h
kept-answer known levels id s (Some r) are low sum h =
    (kept-passes known are levels id low s sum (subst (λ (x : Sum). x.deepest ≤ levels) h.0 h.1), subst (IsSum known id) (sym h.0) sum)

pub whole-answer : (known : List Object) (id : Id) (o : Option Sum) → AreObjects known → IsAnswer known 256 id o → IsTrue (is_some o) ↔ (walk_fault known id ≡ None)
whole-answer known id None are h = (λ t. absurd (true≢false (sym t)), λ none. absurd (h (walk-passes known are id none)))
whole-answer known id (Some s) are h = (λ _. h.1.passes, λ _. refl)
