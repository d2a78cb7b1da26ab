-- Paths in rising order, each once.
use Rattle.std.proofs.Common.{◌≡◌, ◌||◌, Bool, true, false, true≢false, not, List, [], ◌∷◌, refl, sym, ap, ◌∙◌}
use Rattle.std.specs.Prelude.{bytes_eq, filter}
use Rattle.std.specs.List.{list_any}
use Rattle.std.proofs.lemmas.Slice.Eq.{bytes_eq-Decides}
use Rattle.text_model.specs.Lists.{Each, first_of_each, with_inserted, in_order}
use Rattle.text_model.specs.Text.{Bytes, is_below}
use Rattle.text_model.proofs.OrderLemmas.{is_below-one_way, is_below-irreflexive, is_below-same, is_below-chain}
use Rattle.text_model.proofs.TestLemmas.{bytes_eq-self, bytes_eq-sym}

pub not_both : (b : Bool) → b ≡ true → b ≡ false → ⊥
not_both b t f = true≢false (sym t ∙ f)

-- ---- rising paths

abbrev pub has : List Bytes → Bytes → Bool
has ps p = list_any (bytes_eq p) ps

abbrev pub IsUp : List Bytes → Type 0
IsUp [] = Unit {0}
IsUp (x ∷ xs) = Each (λ y. is_below x y ≡ true) xs × IsUp xs

-- what is below each of a list isn't in it
below-lacks : (x : Bytes) (xs : List Bytes) → Each (λ y. is_below x y ≡ true) xs → has xs x ≡ false
below-lacks x [] h = refl
below-lacks x (y ∷ ys) h = by (bytes_eq x y) refl (below-lacks x ys h.1)
  where
    by : (b : Bool) → bytes_eq x y ≡ b → has ys x ≡ false → has (y ∷ ys) x ≡ false
    by true e rest = absurd (not_both (is_below x x) (ap (is_below x) ((bytes_eq-Decides x y).0 e) ∙ h.0) (is_below-irreflexive x))
    by false e rest = rw e rest

has-below : (x p : Bytes) (xs : List Bytes) → Each (λ y. is_below x y ≡ true) xs → has xs p ≡ true → is_below x p ≡ true
has-below x p [] h e = absurd (true≢false (sym e))
has-below x p (y ∷ ys) h e = by (bytes_eq p y) refl (has-below x p ys h.1)
  where
    by : (b : Bool) → bytes_eq p y ≡ b → (has ys p ≡ true → is_below x p ≡ true) → is_below x p ≡ true
    by true t rest = ap (is_below x) ((bytes_eq-Decides p y).0 t) ∙ h.0
    by false t rest = rest (sym (rw t refl) ∙ e)

-- the heads of two rising lists with the same elements
same-heads : (x y : Bytes) (xs ys : List Bytes) → IsUp (x ∷ xs) → IsUp (y ∷ ys) → ((p : Bytes) → has (x ∷ xs) p ≡ has (y ∷ ys) p) → x ≡ y
same-heads x y xs ys ux uy same = by (bytes_eq x y) refl
  where
    in_other : (a b : Bytes) (bs : List Bytes) → bytes_eq a b ≡ false → has (b ∷ bs) a ≡ true → has bs a ≡ true
    in_other a b bs e h = sym (rw e refl) ∙ h

    own : (a : Bytes) (as' : List Bytes) → has (a ∷ as') a ≡ true
    own a as' = rw (bytes_eq-self a) refl

    by : (b : Bool) → bytes_eq x y ≡ b → x ≡ y
    by true e = (bytes_eq-Decides x y).0 e
    by false e =
        let first : is_below y x ≡ true = has-below y x ys uy.0 (in_other x y ys e (sym (same x) ∙ own x xs)) in
        let second : is_below x y ≡ true = has-below x y xs ux.0 (in_other y x xs (bytes_eq-sym y x ∙ e) (same y ∙ own y ys)) in
        absurd (not_both (is_below y x) first (is_below-one_way x y second))

has-head : (x : Bytes) (xs : List Bytes) → has (x ∷ xs) x ≡ true
has-head x xs = rw (bytes_eq-self x) refl

pub same-rising : (xs ys : List Bytes) → IsUp xs → IsUp ys → ((p : Bytes) → has xs p ≡ has ys p) → xs ≡ ys
same-rising [] [] ux uy same = refl
same-rising [] (y ∷ ys) ux uy same = absurd (true≢false (sym (same y ∙ has-head y ys)))
same-rising (x ∷ xs) [] ux uy same = absurd (true≢false (sym (has-head x xs) ∙ same x))
same-rising (x ∷ xs) (y ∷ ys) ux uy same =
    let heads = same-heads x y xs ys ux uy same in
    let tails = same-rising xs ys ux.1 uy.1 (λ p. tail p (bytes_eq p x) refl) in
    (λ i. heads i ∷ tails i)
  where
    head : x ≡ y
    head = same-heads x y xs ys ux uy same

    tail : (p : Bytes) (b : Bool) → bytes_eq p x ≡ b → has xs p ≡ has ys p
    tail p true e =
        let is = (bytes_eq-Decides p x).0 e in
        ap (has xs) is ∙ below-lacks x xs ux.0 ∙ sym (below-lacks y ys uy.0) ∙ ap (has ys) (sym head ∙ sym is)
    tail p false e = sym (rw e refl) ∙ same p ∙ rw (ap (bytes_eq p) (sym head) ∙ e) refl

-- ---- paths put in order

abbrev pub AreApart : List Bytes → Type 0
AreApart [] = Unit {0}
AreApart (x ∷ xs) = (has xs x ≡ false) × AreApart xs

or-swap : (a b c : Bool) → (a || (b || c)) ≡ (b || (a || c))
or-swap true true c = refl
or-swap true false c = refl
or-swap false true c = refl
or-swap false false c = refl

has-inserted : (x p : Bytes) (xs : List Bytes) → has (with_inserted is_below x xs) p ≡ (bytes_eq p x || has xs p)
has-inserted x p [] = refl
has-inserted x p (y ∷ ys) = by (is_below y x) refl (has-inserted x p ys)
  where
    by : (b : Bool) → is_below y x ≡ b → has (with_inserted is_below x ys) p ≡ (bytes_eq p x || has ys p) → has (with_inserted is_below x (y ∷ ys)) p ≡ (bytes_eq p x || has (y ∷ ys) p)
    by true e rest = rw e (ap (λ (b : Bool). bytes_eq p y || b) rest ∙ or-swap (bytes_eq p y) (bytes_eq p x) (has ys p))
    by false e rest = rw e refl

pub has-in_order : (p : Bytes) (xs : List Bytes) → has (in_order is_below xs) p ≡ has xs p
has-in_order p [] = refl
has-in_order p (x ∷ xs) = has-inserted x p (in_order is_below xs) ∙ ap (λ (b : Bool). bytes_eq p x || b) (has-in_order p xs)

each-inserted : (P : Bytes → Type 0) (x : Bytes) (xs : List Bytes) → P x → Each P xs → Each P (with_inserted is_below x xs)
each-inserted P x [] h hs = (h, tt)
each-inserted P x (y ∷ ys) h hs = by (is_below y x) refl (each-inserted P x ys h hs.1)
  where
    by : (b : Bool) → is_below y x ≡ b → Each P (with_inserted is_below x ys) → Each P (with_inserted is_below x (y ∷ ys))
    by true e rest = rw e (hs.0, rest)
    by false e rest = rw e (h, hs)

each-chain : (x y : Bytes) (ys : List Bytes) → is_below x y ≡ true → Each (λ z. is_below y z ≡ true) ys → Each (λ z. is_below x z ≡ true) ys
each-chain x y [] h hs = tt
each-chain x y (z ∷ zs) h hs = (is_below-chain x y z h hs.0, each-chain x y zs h hs.1)

up-inserted : (x : Bytes) (xs : List Bytes) → has xs x ≡ false → IsUp xs → IsUp (with_inserted is_below x xs)
up-inserted x [] lacks up = (tt, tt)
up-inserted x (y ∷ ys) lacks up = by (is_below y x) refl (up-inserted x ys)
  where
    apart : bytes_eq x y ≡ false
    apart = first (bytes_eq x y) (has ys x) lacks
      where
        first : (a b : Bool) → (a || b) ≡ false → a ≡ false
        first true b e = absurd (true≢false e)
        first false b e = refl

    lacks' : has ys x ≡ false
    lacks' = sym (rw apart refl) ∙ lacks

    by : (b : Bool) → is_below y x ≡ b → (has ys x ≡ false → IsUp ys → IsUp (with_inserted is_below x ys)) → IsUp (with_inserted is_below x (y ∷ ys))
    by true e rest = rw e (each-inserted (λ z. is_below y z ≡ true) x ys e up.0, rest lacks' up.1)
    by false e rest = rw e (let under = below (is_below x y) refl in ((under, each-chain x y ys under up.0), up))
      where
        below : (b : Bool) → is_below x y ≡ b → is_below x y ≡ true
        below true t = t
        below false t = absurd (not_both (bytes_eq x y) ((bytes_eq-Decides x y).1 (is_below-same x y t e)) apart)

pub up-in_order : (xs : List Bytes) → AreApart xs → IsUp (in_order is_below xs)
up-in_order [] h = tt
up-in_order (x ∷ xs) h = up-inserted x (in_order is_below xs) (has-in_order x xs ∙ h.0) (up-in_order xs h.1)

-- ---- the first of each

any-filter : {X : Type 0} (test keep : X → Bool) → ((x : X) → test x ≡ true → keep x ≡ true) → (xs : List X) → list_any test (filter keep xs) ≡ list_any test xs
any-filter test keep f [] = refl
any-filter test keep f (x ∷ xs) = by (keep x) (test x) refl refl (any-filter test keep f xs)
  where
    by : (k t : Bool) → keep x ≡ k → test x ≡ t → list_any test (filter keep xs) ≡ list_any test xs → list_any test (filter keep (x ∷ xs)) ≡ list_any test (x ∷ xs)
    by true t e g rest = rw e (ap (λ (b : Bool). test x || b) rest)
    by false true e g rest = absurd (not_both (keep x) (f x g) e)
    by false false e g rest = rw (e, g) rest

lacks-filter : (p : Bytes) (keep : Bytes → Bool) (xs : List Bytes) → has xs p ≡ false → has (filter keep xs) p ≡ false
lacks-filter p keep [] h = refl
lacks-filter p keep (x ∷ xs) h = by (keep x) (bytes_eq p x) refl refl (lacks-filter p keep xs)
  where
    by : (k t : Bool) → keep x ≡ k → bytes_eq p x ≡ t → (has xs p ≡ false → has (filter keep xs) p ≡ false) → has (filter keep (x ∷ xs)) p ≡ false
    by k true e t rest = absurd (not_both (has (x ∷ xs) p) (rw t refl) h)
    by true false e t rest = rw (e, t) (rest (sym (rw t refl) ∙ h))
    by false false e t rest = rw e (rest (sym (rw t refl) ∙ h))

apart-filter : (keep : Bytes → Bool) (xs : List Bytes) → AreApart xs → AreApart (filter keep xs)
apart-filter keep [] h = tt
apart-filter keep (x ∷ xs) h = by (keep x) refl (apart-filter keep xs h.1)
  where
    by : (k : Bool) → keep x ≡ k → AreApart (filter keep xs) → AreApart (filter keep (x ∷ xs))
    by true e rest = rw e (lacks-filter x keep xs h.0, rest)
    by false e rest = rw e rest

not_kept : (x : Bytes) (xs : List Bytes) → has (filter (λ y. not (bytes_eq x y)) xs) x ≡ false
not_kept x [] = refl
not_kept x (y ∷ ys) = by (bytes_eq x y) refl (not_kept x ys)
  where
    by : (b : Bool) → bytes_eq x y ≡ b → has (filter (λ z. not (bytes_eq x z)) ys) x ≡ false → has (filter (λ z. not (bytes_eq x z)) (y ∷ ys)) x ≡ false
    by true e rest = rw e rest
    by false e rest = rw e (rw e rest)

pub apart-first : (xs : List Bytes) → AreApart (first_of_each bytes_eq xs)
apart-first [] = tt
apart-first (x ∷ xs) = (not_kept x (first_of_each bytes_eq xs), apart-filter (λ y. not (bytes_eq x y)) (first_of_each bytes_eq xs) (apart-first xs))

pub has-first : (p : Bytes) (xs : List Bytes) → has (first_of_each bytes_eq xs) p ≡ has xs p
has-first p [] = refl
has-first p (x ∷ xs) = by (bytes_eq p x) refl (has-first p xs)
  where
    by : (b : Bool) → bytes_eq p x ≡ b → has (first_of_each bytes_eq xs) p ≡ has xs p → has (first_of_each bytes_eq (x ∷ xs)) p ≡ has (x ∷ xs) p
    by true e rest = rw e refl
    by false e rest = rw e (any-filter (bytes_eq p) (λ y. not (bytes_eq x y)) (λ y t. ap not (bytes_eq-sym x y ∙ ap (λ (z : Bytes). bytes_eq z x) (sym ((bytes_eq-Decides p y).0 t)) ∙ e)) (first_of_each bytes_eq xs) ∙ rest)
