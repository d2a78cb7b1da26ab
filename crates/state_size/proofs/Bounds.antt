-- The search for the least number of new blocks and tags with which a state passes a limit.
use Rattle.std.proofs.Common.{◌≡◌, ◌⊎◌, inl, inr, ℕ, suc, ◌+◌, ◌≤◌, Bool, true, false, sym, ap, ◌∙◌, arith}
use Rattle.state_model.specs.Kept.{State}
use Rattle.state_model.specs.Saved.{passes_limit}
use Rattle.pair_state.specs.declared.state_parts.StateParts.{StateParts}
use Rattle.state_size.specs.Large.{StandsInOrder, IsFirstCount, grown_by}

module _ (s : StateParts) (first_new first_tag : ℕ) where
  -- whether the state passes a limit with so many new blocks and tags
  abbrev pub IsPassed : ℕ → Bool → Type 0
  IsPassed count passed = (m : State) → StandsInOrder s m → passed ≡ passes_limit (grown_by first_new first_tag m count)

  -- with one less than the lower bound it passes none
  abbrev pub IsLow : ℕ → Type 0
  IsLow low = (m : State) → StandsInOrder s m
      → (before : ℕ) → low ≡ suc before → (before ≡ 0) ⊎ (passes_limit (grown_by first_new first_tag m before) ≡ false)

  -- the least number stands between two bounds
  pub record IsSearched (all low high : ℕ) : Type 0 where
    pub least : 1 ≤ low
    pub within : low ≤ high
    pub most : high ≤ all
    pub before : IsLow low
    pub passes : IsPassed high true

  pub low-start : IsLow 1
  low-start m stands before e = inl (omega (arith, e))

  pub low-next : (middle : ℕ) → IsPassed middle false → IsLow (middle + 1)
  low-next middle passed m stands before e =
      let same : middle ≡ before = omega (arith, e) in
      inr (ap (λ (n : ℕ). passes_limit (grown_by first_new first_tag m n)) (sym same) ∙ sym (passed m stands))

  pub is-first : (all low high : ℕ) → IsSearched all low high → high ≤ low → (m : State) → StandsInOrder s m
      → IsFirstCount first_new first_tag m low
  is-first all low high searched done m stands =
      let same : high ≡ low = omega (arith, searched.within, done) in
      record {
        passes = ap (λ (n : ℕ). passes_limit (grown_by first_new first_tag m n)) (sym same) ∙ sym (searched.passes m stands);
        least = searched.before m stands;
      }
