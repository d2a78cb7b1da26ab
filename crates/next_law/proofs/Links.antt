-- The links of a commit have the form of links, and are at most two fewer than its parents.
use Rattle.std.proofs.Common.{◌≡◌, ◌≤◌, ◌<◌, ◌+◌, ◌-◌, ◌^◌, ℕ, true, false, List, [], ◌∷◌, length, refl, arith}
use Rattle.std.proofs.lemmas.List.{length-map}
use Rattle.text_model.specs.Lists.{Each}
use Rattle.text_model.specs.Id.{Id, IsId, is_null}
use Rattle.view_model.specs.View.{ChangesetView, CommitView, changeset_node, commit_id}
use Rattle.pair_model.specs.Block.{Block, changesets_in, hg_partner, view_or_none}
use Rattle.pair_model.specs.Octopus.{link_view, links_over, links_by, links_of, partners_of_parents, is_link, is_link_view}
use Rattle.pair_model.proofs.LinkValues.{value-parts, value-right}
use Rattle.text_model.proofs.Digests.{IsId-object_id}

-- ---- link k of n is one

module _ (id : Id) (is : IsId id) (base : ChangesetView) (n : ℕ) (most : n ≤ 64) where
  link-is : (k : ℕ) (p q : Id) → is_null p ≡ false → is_null q ≡ false → 1 ≤ k → k + 2 ≤ n → is_link_view (link_view id base n k p q) ≡ true
  unfolding link_view is_link
  link-is k p q some-p some-q low high =
      let hk : k < 2 ^ 64 = omega arith in
      let hn : n < 2 ^ 64 = omega arith in
      rw (some-p, some-q, value-parts id is k n hk hn, value-right id is k n most low high) refl

  over-good : (k : ℕ) (before : Id) (xs : List Id) → 1 ≤ k → k + length xs ≤ n → is_null before ≡ false → Each (λ x. is_null x ≡ false) xs
      → Each (λ l. is_null (changeset_node l) ≡ false) (links_over id base n k before xs) → Each (λ l. is_link_view l ≡ true) (links_over id base n k before xs)
  unfolding links_over
  over-good k before [] low all some each nodes = tt
  over-good k before (x ∷ []) low all some each nodes = tt
  over-good k before (x ∷ y ∷ rest) low all some each nodes = (
    link-is k before x some each.0 low (omega arith),
    over-good (k + 1) (changeset_node (link_view id base n k before x)) (y ∷ rest) (omega arith) (omega arith) nodes.0 each.1 nodes.1,
  )

  over-few : (k : ℕ) (before : Id) (xs : List Id) → length (links_over id base n k before xs) ≤ length xs - 1
  unfolding links_over
  over-few k before [] = omega arith
  over-few k before (x ∷ []) = omega arith
  over-few k before (x ∷ y ∷ rest) =
      omega (arith, over-few (k + 1) (changeset_node (link_view id base n k before x)) (y ∷ rest))

-- ---- the links of a commit

by-good : (blocks : List Block) (id : Id) → IsId id → (n : ℕ) → n ≤ 64 → (xs : List Id) → length xs ≤ n → Each (λ x. is_null x ≡ false) xs
    → Each (λ l. is_null (changeset_node l) ≡ false) (links_by blocks id n xs) → Each (λ l. is_link_view l ≡ true) (links_by blocks id n xs)
by-good blocks id is n most [] all each nodes = tt
by-good blocks id is n most (x ∷ rest) all each nodes =
    over-good id is (view_or_none (changesets_in blocks) x) n most 1 x rest (omega arith) (omega arith) each.0 each.1 nodes

by-few : (blocks : List Block) (id : Id) → IsId id → (n : ℕ) → n ≤ 64 → (xs : List Id) → length (links_by blocks id n xs) ≤ length xs - 2
by-few blocks id is n most [] = omega arith
by-few blocks id is n most (x ∷ rest) = omega (arith, over-few id is (view_or_none (changesets_in blocks) x) n most 1 x rest)

commit_id-is : (c : CommitView) → IsId (commit_id c)
unfolding commit_id
commit_id-is c = IsId-object_id _ _

pub links-good : (blocks : List Block) (c : CommitView) → length (c.value).parents ≤ 64 → Each (λ x. is_null x ≡ false) (partners_of_parents blocks c)
    → Each (λ l. is_null (changeset_node l) ≡ false) (links_of blocks c) → Each (λ l. is_link_view l ≡ true) (links_of blocks c)
unfolding links_of
links-good blocks c most each nodes =
    by-good blocks (commit_id c) (commit_id-is c) (length (c.value).parents) most (partners_of_parents blocks c)
    (omega (arith, length-map (c.value).parents (hg_partner blocks))) each nodes

pub links-few : (blocks : List Block) (c : CommitView) → length (c.value).parents ≤ 64 → length (links_of blocks c) ≤ 62
unfolding links_of
links-few blocks c most =
    omega (
      arith,
      length-map (c.value).parents (hg_partner blocks),
      by-few blocks (commit_id c) (commit_id-is c) (length (c.value).parents) most (partners_of_parents blocks c),
    )
