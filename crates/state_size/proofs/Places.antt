-- Where a state with new blocks and tags first passes a limit.
use Rattle.std.proofs.Common.{◌≡◌, ◌⊎◌, inl, inr, ℕ, zero, suc, ◌+◌, ◌-◌, ◌<◌, ◌≤◌, true, false, List, [], ◌∷◌, ◌++◌, length, take, drop, slice_get, Some, None, refl, sym, ap, subst, ◌∙◌, arith, length-drop, length-take}
use Rattle.std.proofs.Math.Seq.{take-add}
use Rattle.std.proofs.lemmas.List.{take-append-drop, take_all}
use Rattle.git_model.specs.Object.{Object}
use Rattle.pair_model.specs.Block.{Block}
use Rattle.state_model.specs.Kept.{Kept, State, kept_of}
use Rattle.state_model.specs.Saved.{passes_limit}
use Rattle.saved_model.specs.Step.{with_blocks, with_tags, first_large_block, first_large_tag}
use Rattle.state_size.specs.declared.large.Large.TheVariants as large
use Rattle.state_size.specs.Large.{kept_up_to, grown_by, IsFirstCount, IsLarge}
use Rattle.state_size.proofs.FirstLarge.{is_large, small-tags, no-large-block, large-block, no-large-tag, large-tag}

-- an element at a place within a list
pub found_at : {X : Type 0} (xs : List X) (i : ℕ) → i < length xs → (x : X) × (slice_get xs i ≡ Some x)
found_at [] i h = absurd (omega (arith, h))
found_at (x ∷ xs) zero h = (x, refl)
found_at (x ∷ xs) (suc i) h = found_at xs i (omega (arith, h))

pub get-drop : {X : Type 0} (n : ℕ) (xs : List X) (i : ℕ) → slice_get (drop n xs) i ≡ slice_get xs (n + i)
get-drop zero xs i = let e : i ≡ 0 + i = omega arith in ap (slice_get xs) e
get-drop (suc n) [] i = refl
get-drop (suc n) (x ∷ xs) i = let e : suc (n + i) ≡ suc n + i = omega arith in get-drop n xs i ∙ ap (slice_get (x ∷ xs)) e

module _ (first_new first_tag : ℕ) (m : State) (within : first_new ≤ length m.blocks) where
  abbrev kept : List Object
  kept = take first_tag m.tags

  abbrev new : List Object
  new = drop first_tag m.tags

  abbrev old : Kept
  old = kept_up_to first_new m.blocks kept

  abbrev added : List Block
  added = drop first_new m.blocks

  count-added : length added ≡ length m.blocks - first_new
  count-added = length-drop first_new m.blocks

  -- with no more than the new blocks no tag is new
  passes-blocks : (count : ℕ) → count ≤ length added → passes_limit (grown_by first_new first_tag m count) ≡ passes_limit (with_blocks old (take count added))
  passes-blocks count few =
      let none : first_tag + (count - (length m.blocks - first_new)) ≡ first_tag = omega (arith, few, count-added) in
      λ i. is_large (take-add first_new count m.blocks i) (take (none i) m.tags)

  -- with more there are all blocks
  passes-tags : (count : ℕ) → length added ≤ count → passes_limit (grown_by first_new first_tag m count) ≡ passes_limit (with_tags (with_blocks old added) (take (count - length added) new))
  passes-tags count many =
      let all : take (first_new + count) m.blocks ≡ take first_new m.blocks ++ added = take_all (first_new + count) m.blocks (omega (arith, many, count-added, within)) ∙ sym (take-append-drop first_new m.blocks) in
      let tags : take (first_tag + (count - (length m.blocks - first_new))) m.tags ≡ kept ++ take (count - length added) new =
      ap (λ (n : ℕ). take (first_tag + (count - n)) m.tags) (sym count-added) ∙ take-add first_tag (count - length added) m.tags in
      λ i. is_large (all i) (tags i)

  -- ---- the first

  -- the place of a new block
  place : (last : ℕ) → slice_get (take first_new m.blocks ++ added) (first_new + last) ≡ slice_get added last
  place last = ap (λ (l : List Block). slice_get l (first_new + last)) (take-append-drop first_new m.blocks) ∙ sym (get-drop first_new m.blocks last)

  is-block : (last : ℕ) → last < length added → IsFirstCount first_new first_tag m (suc last) → IsLarge old added new (Some (large.Block (first_new + last)))
  is-block last few first =
      let at = found_at added last few in
      let least : (last ≡ 0) ⊎ (passes_limit (with_blocks old (take last added)) ≡ false) =
      elim (first.least last refl) [ inl none ↦ inl none | inr small ↦ inr (sym (passes-blocks last (omega (arith, few))) ∙ small) ] in (
        at.0,
        large-block old added last at.0 at.1 (sym (passes-blocks (suc last) (omega (arith, few))) ∙ first.passes) least,
        place last ∙ at.1,
        omega (arith, length-take first_new m.blocks, within),
      )

  no-blocks : added ≡ [] → first_large_block old added ≡ None
  unfolding first_large_block
  no-blocks none = ap (first_large_block old) none

  empty : {X : Type 0} (xs : List X) → length xs ≡ 0 → xs ≡ []
  empty [] e = refl
  empty (x ∷ xs) e = absurd (omega (arith, e))

  small-before : (last : ℕ) → length added ≤ last → (last ≡ 0) ⊎ (passes_limit (grown_by first_new first_tag m last) ≡ false) → first_large_block old added ≡ None
  small-before last many (inl none) = no-blocks (empty added (omega (arith, many, none)))
  small-before last many (inr small) =
      no-large-block old added (small-tags (take first_new m.blocks ++ added) kept (take (last - length added) new) (sym (passes-tags last many) ∙ small))

  least-tag : (last : ℕ) → length added ≤ last → (last ≡ 0) ⊎ (passes_limit (grown_by first_new first_tag m last) ≡ false)
      → (last - length added ≡ 0) ⊎ (passes_limit (with_tags (with_blocks old added) (take (last - length added) new)) ≡ false)
  least-tag last many (inl none) = inl (omega (arith, none))
  least-tag last many (inr small) = inr (sym (passes-tags last many) ∙ small)

  is-tag : (last : ℕ) → length added ≤ last → last < length added + length new → IsFirstCount first_new first_tag m (suc last) → IsLarge old added new (Some (large.Tag (last - length added)))
  is-tag last many few first =
      let at = found_at new (last - length added) (omega (arith, many, few)) in
      let next : suc last - length added ≡ suc (last - length added) = omega (arith, many) in
      let passes : passes_limit (with_tags (with_blocks old added) (take (suc (last - length added)) new)) ≡ true =
      ap (λ (n : ℕ). passes_limit (with_tags (with_blocks old added) (take n new))) (sym next) ∙ sym (passes-tags (suc last) (omega (arith, many))) ∙ first.passes in (
        small-before last many (first.least last refl),
        at.0,
        large-tag (with_blocks old added) new (last - length added) at.0 at.1 passes (least-tag last many (first.least last refl)),
        at.1,
      )

  -- ---- none

  no-members : length added + length new ≡ 0 → IsLarge old added new None
  unfolding first_large_tag
  no-members none = (no-blocks (empty added (omega (arith, none))), ap (first_large_tag (with_blocks old added)) (empty new (omega (arith, none))))

  pub none-passes : passes_limit (kept_of m) ≡ false → IsLarge old added new None
  none-passes small =
      let tags : passes_limit (with_tags (with_blocks old added) new) ≡ false =
      (λ i. is_large (take-append-drop first_new m.blocks i) (take-append-drop first_tag m.tags i)) ∙ small in
      (no-large-block old added (small-tags (take first_new m.blocks ++ added) kept new tags), no-large-tag (with_blocks old added) new tags)

  -- ---- the same for so many new blocks

  before-count : (count : ℕ) → 1 ≤ count → count ≡ suc (count - 1)
  before-count count some = omega (arith, some)

  module _ (n : ℕ) (n-is : n ≡ length m.blocks - first_new) where
    many : n ≡ length added
    many = n-is ∙ sym count-added

    pub none-at-all : n + length new ≡ 0 → IsLarge old added new None
    none-at-all none = no-members (omega (arith, none, many))

    pub block-is : (count : ℕ) → 1 ≤ count → count - 1 < n → IsFirstCount first_new first_tag m count → IsLarge old added new (Some (large.Block (first_new + (count - 1))))
    block-is count some few first = is-block (count - 1) (omega (arith, few, many)) (subst (IsFirstCount first_new first_tag m) (before-count count some) first)

    pub tag-is : (count : ℕ) → 1 ≤ count → n ≤ count - 1 → count ≤ n + length new → IsFirstCount first_new first_tag m count
        → IsLarge old added new (Some (large.Tag (count - 1 - n)))
    tag-is count some behind few first =
        subst (λ (k : ℕ). IsLarge old added new (Some (large.Tag (count - 1 - k)))) (sym many)
        (is-tag (count - 1) (omega (arith, behind, many)) (omega (arith, some, few, many)) (subst (IsFirstCount first_new first_tag m) (before-count count some) first))
