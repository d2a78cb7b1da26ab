-- A tree unfolds to one list of rows.
use Rattle.std.proofs.Common.{◌≡◌, true, true≢false, List, [], ◌∷◌, map, refl, sym, ap, ◌∙◌, inl, inr}
use Rattle.text_model.specs.Lists.{In, rises}
use Rattle.text_model.specs.Text.{is_below}
use Rattle.text_model.specs.Id.{Id}
use Rattle.text_model.proofs.OrderLemmas.{is_below-one_way, is_below-irreflexive}
use Rattle.tree_shape.proofs.FileSets.{later, rises-rest}
use Rattle.git_model.specs.Object.{Object}
use Rattle.git_model.specs.Unfold.{FileRow, IsUnfolding}

abbrev Rise : List FileRow → Type 0
Rise rows = rises is_below (map (λ r. r.path) rows) ≡ true

head-is : (a b : FileRow) (xs ys : List FileRow) → Rise (a ∷ xs) → Rise (b ∷ ys) → In a (b ∷ ys) → In b (a ∷ xs) → a ≡ b
head-is a b xs ys h k i j = elim i [
  | inl q ↦ q
  | inr p ↦ elim j [
    | inl q ↦ sym q
    | inr r ↦ absurd (true≢false (sym (later a xs b h r) ∙ is_below-one_way b.path a.path (later b ys a k p)))
  ]
]

-- what is in the rest of one list is in the rest of the other
rest-in : (a b : FileRow) (xs ys : List FileRow) → Rise (a ∷ xs) → a ≡ b → (x : FileRow) → In x xs → In x (b ∷ ys) → In x ys
rest-in a b xs ys h same x i j = elim j [
  | inl q ↦ absurd (true≢false (sym (later a xs x h i) ∙ ap (λ (r : FileRow). is_below a.path r.path) (q ∙ sym same) ∙ is_below-irreflexive a.path))
  | inr k ↦ k
]

same-rows : (xs ys : List FileRow) → Rise xs → Rise ys → ((x : FileRow) → In x xs → In x ys) → ((x : FileRow) → In x ys → In x xs) → xs ≡ ys
same-rows [] [] h k p q = refl
same-rows [] (y ∷ ys) h k p q = absurd (q y (inl refl))
same-rows (x ∷ xs) [] h k p q = absurd (p x (inl refl))
same-rows (x ∷ xs) (y ∷ ys) h k p q =
    let same : x ≡ y = head-is x y xs ys h k (p x (inl refl)) (q y (inl refl)) in
    let rest : xs ≡ ys = same-rows xs ys (rises-rest x xs h) (rises-rest y ys k) (λ z i. rest-in x y xs ys h same z i (p z (inr i))) (λ z i. rest-in y x ys xs k (sym same) z i (q z (inr i))) in
    (λ k. same k ∷ rest k)

pub one-unfolding : (known : List Object) (root : Id) (xs ys : List FileRow) → IsUnfolding known root xs → IsUnfolding known root ys → xs ≡ ys
one-unfolding known root xs ys a b = same-rows xs ys a.in_order b.in_order (λ x i. b.all x (a.each x i)) (λ x i. a.all x (b.each x i))
