-- The order of byte strings.
use Rattle.std.proofs.Common.{◌≡◌, ℕ, Bool, true, false, ◌&&◌, ◌||◌, ◌==◌, List, [], ◌∷◌, ◌++◌, refl, sym, ap, ◌∙◌, inl, inr}
use Rattle.std.specs.Ordering.{nat_cmp, is_lt, ordering_then}
use Rattle.std.specs.declared.cmp.Ordering.{Ordering}
use Rattle.std.specs.declared.cmp.Ordering.TheVariants.{Less, Equal, Greater}
use Rattle.std.specs.Cmp.Lexicographic.{slice_cmp}
use Rattle.std.proofs.lemmas.Cmp.{ranked}
use Rattle.text_model.specs.Lists.{In, Each, rises}
use Rattle.text_model.specs.Text.{Bytes, is_below, has_byte}
use Rattle.tree_shape.proofs.Elements.{in-append}
use Rattle.text_model.proofs.TestLemmas.{or_true}
use Rattle.text_model.proofs.Options.{or_parts}
use Rattle.text_model.proofs.Elements.{each_in, each_from}

-- what is below another, which does not go on from it, stays so with more behind both
pub below-apart : (xs ys s t : Bytes) → is_below xs ys ≡ true → ((r : Bytes) → ys ≡ xs ++ r → ⊥) → is_below (xs ++ s) (ys ++ t) ≡ true
below-apart [] ys s t h apart = absurd (apart ys refl)
below-apart (x ∷ xs) [] s t h apart = absurd cc
below-apart (x ∷ xs) (y ∷ ys) s t h apart = go (λ i a. below-apart xs ys s t i a) (nat_cmp x y) refl h
  where
    go : (is_below xs ys ≡ true → ((r : Bytes) → ys ≡ xs ++ r → ⊥) → is_below (xs ++ s) (ys ++ t) ≡ true) → (o : Ordering) → nat_cmp x y ≡ o → is_lt (ordering_then o (slice_cmp nat_cmp xs ys)) ≡ true
        → is_lt (ordering_then (nat_cmp x y) (slice_cmp nat_cmp (xs ++ s) (ys ++ t))) ≡ true
    go rec Less e i = ap (λ (o : Ordering). is_lt (ordering_then o (slice_cmp nat_cmp (xs ++ s) (ys ++ t)))) e
    go rec Equal e i =
        let same : x ≡ y = ranked x y Equal (sym e) in
        ap (λ (o : Ordering). is_lt (ordering_then o (slice_cmp nat_cmp (xs ++ s) (ys ++ t)))) e
        ∙ rec i (λ r q. apart r (λ k. sym same k ∷ q k))
    go rec Greater e i = absurd cc

-- what goes on from another is above it
pub below-more : (xs ys t : Bytes) → is_below xs ys ≡ true → is_below xs (ys ++ t) ≡ true
below-more [] [] t h = absurd cc
below-more [] (y ∷ ys) t h = refl
below-more (x ∷ xs) [] t h = absurd cc
below-more (x ∷ xs) (y ∷ ys) t h = go (below-more xs ys t) (nat_cmp x y) refl h
  where
    go : (is_below xs ys ≡ true → is_below xs (ys ++ t) ≡ true) → (o : Ordering) → nat_cmp x y ≡ o → is_lt (ordering_then o (slice_cmp nat_cmp xs ys)) ≡ true
        → is_lt (ordering_then (nat_cmp x y) (slice_cmp nat_cmp xs (ys ++ t))) ≡ true
    go rec Less e i = ap (λ (o : Ordering). is_lt (ordering_then o (slice_cmp nat_cmp xs (ys ++ t)))) e
    go rec Equal e i = ap (λ (o : Ordering). is_lt (ordering_then o (slice_cmp nat_cmp xs (ys ++ t)))) e ∙ rec i
    go rec Greater e i = absurd cc

-- ---- names and slashes

pub has-slash : (xs r : Bytes) → has_byte 47 ((xs ++ 47 ∷ []) ++ r) ≡ true
has-slash [] r = refl
has-slash (x ∷ xs) r = ap (λ (b : Bool). (x == 47) || b) (has-slash xs r) ∙ or_true (x == 47)

pub same-dir : (m n r : Bytes) → has_byte 47 m ≡ false → has_byte 47 n ≡ false → n ++ 47 ∷ [] ≡ (m ++ 47 ∷ []) ++ r → m ≡ n
same-dir [] [] r a b e = refl
same-dir [] (y ∷ n) r a b e =
    let y47 : y ≡ 47 = cc in
    absurd (clash (sym (ap (λ (z : ℕ). (z == 47) || has_byte 47 n) y47) ∙ b))
  where
    clash : true ≡ false → ⊥
    clash q = cc
same-dir (x ∷ m) [] r a b e =
    let x47 : x ≡ 47 = cc in
    absurd (clash (sym (ap (λ (z : ℕ). (z == 47) || has_byte 47 m) x47) ∙ a))
  where
    clash : true ≡ false → ⊥
    clash q = cc
same-dir (x ∷ m) (y ∷ n) r a b e =
    let head : x ≡ y = cc in
    let tail : n ++ 47 ∷ [] ≡ (m ++ 47 ∷ []) ++ r = cc in
    let rec : m ≡ n = same-dir m n r (or_parts (x == 47) (has_byte 47 m) a).1 (or_parts (y == 47) (has_byte 47 n) b).1 tail in
    (λ k. head k ∷ rec k)

-- ---- lists that rise

-- each is below all that follow
abbrev pub Rising : List Bytes → Type 0
Rising [] = Unit {0}
Rising (x ∷ xs) = Each (λ y. is_below x y ≡ true) xs × Rising xs

pub rises-Rising : (xs : List Bytes) → Rising xs → rises is_below xs ≡ true
rises-Rising [] h = refl
rises-Rising (x ∷ []) h = refl
rises-Rising (x ∷ y ∷ xs) h = ap (λ (b : Bool). b && rises is_below (y ∷ xs)) h.0.0 ∙ rises-Rising (y ∷ xs) h.1

pub Rising-append : (xs ys : List Bytes) → Rising xs → Rising ys → ((x y : Bytes) → In x xs → In y ys → is_below x y ≡ true) → Rising (xs ++ ys)
Rising-append [] ys a b h = b
Rising-append (x ∷ xs) ys a b h = (
  each_from (λ y. is_below x y ≡ true) (xs ++ ys) (λ y i. elim (in-append y xs ys i) [
    | inl l ↦ each_in (λ z. is_below x z ≡ true) xs y a.0 l
    | inr r ↦ h x y (inl refl) r
  ]),
  Rising-append xs ys a.1 b (λ u v i j. h u v (inr i) j),
)
