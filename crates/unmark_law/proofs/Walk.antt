-- The links of a commit give its parents back, where each link is known.
use Rattle.std.proofs.Common.{◌≡◌, ◌≢◌, ℕ, ◌≤◌, ◌+◌, List, [], ◌∷◌, length, map, refl, sym, ap, ◌∙◌, inl, inr, ◌⊎◌, arith}
use Rattle.text_model.specs.Lists.{Each}
use Rattle.text_model.specs.Id.{Id, null, node_id}
use Rattle.hg_model.specs.Changeset.{changeset_text}
use Rattle.pair_model.specs.Block.{Block, changesets_in, view_or_none}
use Rattle.view_model.specs.View.{ChangesetView, changeset_node, SameChangeset}
use Rattle.pair_model.specs.Octopus.{link_view, links_over, links_by, last_id, first_of, second_of}
use Rattle.partner_model.specs.Partner.{IsKnownAs}
use Rattle.partner_model.specs.Table.{AreApart}

node_same : (k l : ChangesetView) → SameChangeset k l → changeset_node k ≡ changeset_node l
unfolding changeset_node
node_same k l s = λ i. node_id (s.p i) (s.q i) (changeset_text (s.fields i))

-- known changesets of one node have one pair of parents
known_one : (Known : ChangesetView → Type 0) → AreApart Known → (l m : ChangesetView) → IsKnownAs Known l → IsKnownAs Known m → changeset_node l ≡ changeset_node m → (l.p ≡ m.p) × (l.q ≡ m.q)
known_one Known apart l m h k e =
    let s = apart h.0 k.0 h.1 k.1 (node_same h.0 l h.2 ∙ e ∙ sym (node_same k.0 m k.2)) in
    (sym (h.2).p ∙ s.p ∙ (k.2).p, sym (h.2).q ∙ s.q ∙ (k.2).q)

link_p : (id : Id) (base : ChangesetView) (n k : ℕ) (p q : Id) → (link_view id base n k p q).p ≡ p
unfolding link_view
link_p id base n k p q = refl

link_q : (id : Id) (base : ChangesetView) (n k : ℕ) (p q : Id) → (link_view id base n k p q).q ≡ q
unfolding link_view
link_q id base n k p q = refl

pub walk_one : (Known : ChangesetView → Type 0) → AreApart Known → (id : Id) (base : ChangesetView) (n : ℕ) (id' : Id) (base' : ChangesetView) (n' : ℕ) (k : ℕ) (a b : Id) (xs ys : List Id)
    → length xs ≡ length ys → last_id xs ≡ last_id ys → Each (IsKnownAs Known) (links_over id base n k a xs) → Each (IsKnownAs Known) (links_over id' base' n' k b ys)
    → last_id (a ∷ map changeset_node (links_over id base n k a xs)) ≡ last_id (b ∷ map changeset_node (links_over id' base' n' k b ys)) → (a ≡ b) × (xs ≡ ys)
unfolding links_over
walk_one Known apart id base n id' base' n' k a b [] [] l q f g e = (e, refl)
walk_one Known apart id base n id' base' n' k a b [] (y ∷ ys) l q f g e = absurd (omega arith)
walk_one Known apart id base n id' base' n' k a b (x ∷ xs) [] l q f g e = absurd (omega arith)
walk_one Known apart id base n id' base' n' k a b (x ∷ []) (y ∷ []) l q f g e = (e, ap (λ (z : Id). z ∷ []) q)
walk_one Known apart id base n id' base' n' k a b (x ∷ []) (y ∷ z ∷ ys) l q f g e = absurd (omega arith)
walk_one Known apart id base n id' base' n' k a b (x ∷ w ∷ xs) (y ∷ []) l q f g e = absurd (omega arith)
walk_one Known apart id base n id' base' n' k a b (x ∷ w ∷ xs) (y ∷ z ∷ ys) l q f g e =
    let one = link_view id base n k a x in
    let two = link_view id' base' n' k b y in
    let t = walk_one Known apart id base n id' base' n' (k + 1) (changeset_node one) (changeset_node two) (w ∷ xs) (z ∷ ys) (omega arith) q f.1 g.1 e in
    let s = known_one Known apart one two f.0 g.0 t.0 in
    let p = sym (link_p id base n k a x) ∙ s.0 ∙ link_p id' base' n' k b y in
    let r = sym (link_q id base n k a x) ∙ s.1 ∙ link_q id' base' n' k b y in
    (p, λ i. r i ∷ t.1 i)

-- the first parent of the changeset of a commit with these partners
abbrev pub P : List Block → Id → ℕ → List Id → Id
P blocks id n xs = last_id (first_of xs ∷ map changeset_node (links_by blocks id n xs))

-- at most two both, or as many
abbrev pub AreAlikeLong : List Id → List Id → Type 0
AreAlikeLong xs ys = ((length xs ≤ 2) × (length ys ≤ 2)) ⊎ (length xs ≡ length ys)

-- at most one partner behind the first gives no link
no_links : (blocks : List Block) (id : Id) (n : ℕ) (x : Id) (xs : List Id) → length xs ≤ 1 → P blocks id n (x ∷ xs) ≡ x
unfolding links_over
no_links blocks id n x [] l = refl
no_links blocks id n x (y ∷ []) l = refl
no_links blocks id n x (y ∷ z ∷ xs) l = absurd (omega arith)

pub nodes_one : (blocks : List Block) (Known : ChangesetView → Type 0) → AreApart Known → (i j : Id) (n m : ℕ) (xs ys : List Id)
    → Each (λ x. x ≢ null) xs → Each (λ x. x ≢ null) ys → AreAlikeLong xs ys → second_of xs ≡ second_of ys
    → Each (IsKnownAs Known) (links_by blocks i n xs) → Each (IsKnownAs Known) (links_by blocks j m ys)
    → P blocks i n xs ≡ P blocks j m ys → xs ≡ ys
nodes_one blocks Known apart i j n m [] [] h k l q f g e = refl
nodes_one blocks Known apart i j n m [] (y ∷ ys) h k (inl l) q f g e = absurd (k.0 (sym (no_links blocks j m y ys (omega (arith, l.1))) ∙ sym e))
nodes_one blocks Known apart i j n m [] (y ∷ ys) h k (inr l) q f g e = absurd (omega (arith, l))
nodes_one blocks Known apart i j n m (x ∷ xs) [] h k (inl l) q f g e = absurd (h.0 (sym (no_links blocks i n x xs (omega (arith, l.0))) ∙ e))
nodes_one blocks Known apart i j n m (x ∷ xs) [] h k (inr l) q f g e = absurd (omega (arith, l))
nodes_one blocks Known apart i j n m (x ∷ xs) (y ∷ ys) h k (inr l) q f g e =
    let w = walk_one Known apart i (view_or_none (changesets_in blocks) x) n j (view_or_none (changesets_in blocks) y) m 1 x y xs ys (omega (arith, l)) q f g e in
    λ i. w.0 i ∷ w.1 i
nodes_one blocks Known apart i j n m (x ∷ xs) (y ∷ ys) h k (inl l) q f g e =
    let first : x ≡ y = sym (no_links blocks i n x xs (omega (arith, l.0))) ∙ e ∙ no_links blocks j m y ys (omega (arith, l.1)) in
    let rest : xs ≡ ys = tails xs ys (omega (arith, l.0)) (omega (arith, l.1)) h.1 k.1 q in
    λ i. first i ∷ rest i
  where
    tails : (us vs : List Id) → length us ≤ 1 → length vs ≤ 1 → Each (λ x. x ≢ null) us → Each (λ x. x ≢ null) vs → last_id us ≡ last_id vs → us ≡ vs
    tails [] [] a b c d e = refl
    tails [] (v ∷ []) a b c d e = absurd (d.0 (sym e))
    tails [] (v ∷ w ∷ vs) a b c d e = absurd (omega arith)
    tails (u ∷ []) [] a b c d e = absurd (c.0 e)
    tails (u ∷ w ∷ us) vs a b c d e = absurd (omega arith)
    tails (u ∷ []) (v ∷ []) a b c d e = ap (λ (z : Id). z ∷ []) e
    tails (u ∷ []) (v ∷ w ∷ vs) a b c d e = absurd (omega arith)
