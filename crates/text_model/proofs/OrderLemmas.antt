-- The order of byte strings, ids among ids, and a node without regard to the order of its parents.
use Rattle.std.proofs.Common.{◌≡◌, Bool, true, false, true≢false, List, [], ◌∷◌, Ordering, Less, Equal, Greater, nat_cmp, is_lt, bytes_eq, refl, sym, ap, ◌∙◌, inl, inr}
use Rattle.std.specs.Ordering.{ordering_reverse}
use Rattle.std.specs.Cmp.Lexicographic.{slice_cmp}
use Rattle.std.specs.Cmp.{IsTotalOrder}
use Rattle.std.proofs.lemmas.Cmp.{nat_list_cmp_total}
use Rattle.std.proofs.lemmas.Map.Lookups.{exact_bytes}
use Rattle.std.proofs.lemmas.Slice.Eq.{bytes_eq-Decides}
use Rattle.text_model.proofs.TestLemmas.{or_true}
use Rattle.text_model.specs.Lists.{In}
use Rattle.text_model.specs.Text.{Bytes, is_below}
use Rattle.text_model.specs.Id.{Id, has_id, node_id}

laws : IsTotalOrder (slice_cmp nat_cmp)
laws = nat_list_cmp_total

pub less : (o : Ordering) → is_lt o ≡ true → o ≡ Less
less Less h = refl
less Equal h = absurd (true≢false (sym h))
less Greater h = absurd (true≢false (sym h))

neither : (o : Ordering) → is_lt o ≡ false → is_lt (ordering_reverse o) ≡ false → o ≡ Equal
neither Less h k = absurd (true≢false h)
neither Equal h k = refl
neither Greater h k = absurd (true≢false k)

-- of two byte strings one at most is below the other
pub is_below-one_way : (x y : Bytes) → is_below x y ≡ true → is_below y x ≡ false
is_below-one_way x y h = ap is_lt (laws.antisymm y x ∙ ap ordering_reverse (less (slice_cmp nat_cmp x y) h))

pub is_below-irreflexive : (x : Bytes) → is_below x x ≡ false
is_below-irreflexive x = by (is_below x x) refl
  where
    by : (t : Bool) → is_below x x ≡ t → is_below x x ≡ false
    by true h = is_below-one_way x x h
    by false h = h

-- where neither is below the other they are one
pub is_below-same : (x y : Bytes) → is_below x y ≡ false → is_below y x ≡ false → x ≡ y
is_below-same x y h k = exact_bytes x y (neither (slice_cmp nat_cmp x y) h (sym (ap is_lt (laws.antisymm y x)) ∙ k))

pub is_below-chain : (x y z : Bytes) → is_below x y ≡ true → is_below y z ≡ true → is_below x z ≡ true
is_below-chain x y z h k = ap is_lt (laws.trans x y z (less (slice_cmp nat_cmp x y) h) (less (slice_cmp nat_cmp y z) k))

-- the order of the parents is nothing to a node
pub node_id-either_order : (p q : Id) (text : Bytes) → node_id p q text ≡ node_id q p text
unfolding node_id
node_id-either_order p q text = by (is_below p q) refl (is_below q p) refl
  where
    by : (s : Bool) → is_below p q ≡ s → (t : Bool) → is_below q p ≡ t → node_id p q text ≡ node_id q p text
    by true s true t = absurd (true≢false (sym t ∙ is_below-one_way p q s))
    by true s false t = rw (s, t) refl
    by false s true t = rw (s, t) refl
    by false s false t = let same = is_below-same p q s t in ap (λ (x : Id). node_id x q text) same ∙ ap (λ (x : Id). node_id q x text) (sym same)

-- the test finds the ids of the list
pub has_id-In : (ids : List Id) (id : Id) → has_id ids id ≡ true → In id ids
has_id-In [] id h = absurd (true≢false (sym h))
has_id-In (x ∷ ids) id h = by (bytes_eq id x) refl (has_id-In ids id)
  where
    by : (t : Bool) → bytes_eq id x ≡ t → (has_id ids id ≡ true → In id ids) → In id (x ∷ ids)
    by true t later = inl ((bytes_eq-Decides id x).0 t)
    by false t later = inr (later (sym (rw t refl) ∙ h))

pub In-has_id : (ids : List Id) (id : Id) → In id ids → has_id ids id ≡ true
In-has_id [] id h = absurd h
In-has_id (x ∷ ids) id (inl e) = rw ((bytes_eq-Decides id x).1 e) refl
In-has_id (x ∷ ids) id (inr h) = rw (In-has_id ids id h) (or_true (bytes_eq id x))

-- ---- paths of which one is below the other

pub below-other : (x y : Bytes) → is_below x y ≡ true → bytes_eq x y ≡ false
below-other x y h = by (bytes_eq x y) refl
  where
    by : (t : Bool) → bytes_eq x y ≡ t → bytes_eq x y ≡ false
    by true e = absurd (true≢false (sym h ∙ ap (is_below x) (sym ((bytes_eq-Decides x y).0 e)) ∙ is_below-irreflexive x))
    by false e = e

pub above-other : (x y : Bytes) → is_below x y ≡ true → bytes_eq y x ≡ false
above-other x y h = by (bytes_eq y x) refl
  where
    by : (t : Bool) → bytes_eq y x ≡ t → bytes_eq y x ≡ false
    by true e = absurd (true≢false (sym h ∙ ap (is_below x) ((bytes_eq-Decides y x).0 e) ∙ is_below-irreflexive x))
    by false e = e
