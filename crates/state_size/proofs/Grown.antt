-- States with some of their new blocks and tags.
use Rattle.std.proofs.Common.{◌≡◌, ℕ, ◌+◌, ◌-◌, ◌≤◌, length, take, sym, ap, ◌∙◌, arith}
use Rattle.std.proofs.lemmas.List.{take_all}
use Rattle.state_model.specs.Kept.{State, kept_of}
use Rattle.state_model.specs.Saved.{passes_limit}
use Rattle.state_size.specs.Large.{grown_by}
use Rattle.state_size.proofs.FirstLarge.{is_large}

module _ (first_new first_tag : ℕ) (m : State) (size : ℕ) (size-is : size ≡ length m.blocks) where
  pub few-is : (count : ℕ) → count ≤ size - first_new
      → is_large (take (first_new + count) m.blocks) (take first_tag m.tags) ≡ passes_limit (grown_by first_new first_tag m count)
  few-is count few =
      let none : first_tag ≡ first_tag + (count - (length m.blocks - first_new)) = omega (arith, few, size-is) in
      ap (λ (n : ℕ). is_large (take (first_new + count) m.blocks) (take n m.tags)) none

  pub many-is : (count added : ℕ) → added ≡ size - first_new → first_new ≤ size → added ≤ count
      → is_large (take size m.blocks) (take (first_tag + (count - added)) m.tags) ≡ passes_limit (grown_by first_new first_tag m count)
  many-is count added added-is within many =
      let all : take size m.blocks ≡ take (first_new + count) m.blocks = take_all size m.blocks (omega (arith, size-is)) ∙ sym (take_all (first_new + count) m.blocks (omega (arith, size-is, added-is, within, many))) in
      let behind : count - added ≡ count - (length m.blocks - first_new) = ap (λ (n : ℕ). count - n) (added-is ∙ ap (λ (n : ℕ). n - first_new) size-is) in
      λ i. is_large (all i) (take (first_tag + behind i) m.tags)

  -- with all of them it is the whole state
  pub all-is : (all : ℕ) → first_new ≤ size → first_tag ≤ length m.tags → all ≡ (size - first_new) + (length m.tags - first_tag)
      → passes_limit (kept_of m) ≡ passes_limit (grown_by first_new first_tag m all)
  all-is all within tags-within is =
      let blocks : m.blocks ≡ take (first_new + all) m.blocks = sym (take_all (first_new + all) m.blocks (omega (arith, size-is, within, is))) in
      let count = first_tag + (all - (length m.blocks - first_new)) in
      let tags : m.tags ≡ take count m.tags = sym (take_all count m.tags (omega (arith, size-is, within, tags-within, is))) in
      λ i. is_large (blocks i) (tags i)
