-- Refs in the order of their names.
use Rattle.std.proofs.Common.{◌≡◌, suc, Bool, true, false, ◌&&◌, List, [], ◌∷◌, length, refl, sym, ap, ◌∙◌, true≢false}
use Rattle.std.specs.Prelude.{if◌then◌else◌, bytes_eq}
use Rattle.text_model.specs.Lists.{Each, rises, in_order, with_inserted}
use Rattle.text_model.proofs.EachLemmas.{Each-weaker}
use Rattle.text_model.proofs.OrderLemmas.{is_below-one_way, is_below-same, is_below-chain, below-other}
use Rattle.text_model.proofs.TestLemmas.{both, bytes_eq-self}
use Rattle.state_model.specs.Kept.{NameRow}
use Rattle.state_model.specs.Names.{is_name_below}

-- each name is below all that come after it
abbrev pub Up : List NameRow → Type 0
Up [] = Unit {0}
Up (x ∷ xs) = Each (λ y. is_name_below x y ≡ true) xs × Up xs

-- no two names are one
abbrev pub Apart : List NameRow → Type 0
Apart [] = Unit {0}
Apart (x ∷ xs) = Each (λ y. bytes_eq x.name y.name ≡ false) xs × Apart xs

up_more : (x y : NameRow) (ys : List NameRow) → is_name_below x y ≡ true → Up (y ∷ ys) → Each (λ z. is_name_below x z ≡ true) (y ∷ ys)
up_more x y ys e up = (e, Each-weaker (λ z. is_name_below y z ≡ true) (λ z. is_name_below x z ≡ true) (λ z h. is_below-chain x.name y.name z.name e h) ys up.0)

pub rises-up : (xs : List NameRow) → rises is_name_below xs ≡ true → Up xs
rises-up [] h = tt
rises-up (x ∷ []) h = (tt, tt)
rises-up (x ∷ y ∷ ys) h =
    let parts = both (is_name_below x y) (rises is_name_below (y ∷ ys)) h in
    let rest = rises-up (y ∷ ys) parts.1 in
    (up_more x y ys parts.0 rest, rest)

pub up-rises : (xs : List NameRow) → Up xs → rises is_name_below xs ≡ true
up-rises [] h = refl
up-rises (x ∷ []) h = refl
up-rises (x ∷ y ∷ ys) h = (λ i. h.0.0 i && up-rises (y ∷ ys) h.1 i)

pub up-apart : (xs : List NameRow) → Up xs → Apart xs
up-apart [] h = tt
up-apart (x ∷ xs) h = (Each-weaker (λ y. is_name_below x y ≡ true) (λ y. bytes_eq x.name y.name ≡ false) (λ y e. below-other x.name y.name e) xs h.0, up-apart xs h.1)

-- what is in order stays
pub ordered-stays : (xs : List NameRow) → Up xs → in_order is_name_below xs ≡ xs
ordered-stays [] h = refl
ordered-stays (x ∷ xs) h = ap (with_inserted is_name_below x) (ordered-stays xs h.1) ∙ first xs h.0
  where
    first : (ys : List NameRow) → Each (λ y. is_name_below x y ≡ true) ys → with_inserted is_name_below x ys ≡ x ∷ ys
    first [] e = refl
    first (y ∷ ys) e = ap (λ (t : Bool). if t then y ∷ with_inserted is_name_below x ys else x ∷ y ∷ ys) (is_below-one_way x.name y.name e.0)

-- ---- what is put in order

module _ (P : NameRow → Type 0) where
  each-inserted : (x : NameRow) (ys : List NameRow) → P x → Each P ys → Each P (with_inserted is_name_below x ys)
  each-inserted x [] p h = (p, tt)
  each-inserted x (y ∷ ys) p h = by (is_name_below y x) (each-inserted x ys p h.1)
    where
      by : (t : Bool) → Each P (with_inserted is_name_below x ys) → Each P (if t then y ∷ with_inserted is_name_below x ys else x ∷ y ∷ ys)
      by true rec = (h.0, rec)
      by false rec = (p, h)

  pub each-ordered : (xs : List NameRow) → Each P xs → Each P (in_order is_name_below xs)
  each-ordered [] h = tt
  each-ordered (x ∷ xs) h = each-inserted x (in_order is_name_below xs) h.0 (each-ordered xs h.1)

length-inserted : (x : NameRow) (ys : List NameRow) → length (with_inserted is_name_below x ys) ≡ suc (length ys)
length-inserted x [] = refl
length-inserted x (y ∷ ys) = by (is_name_below y x) (length-inserted x ys)
  where
    by : (t : Bool) → length (with_inserted is_name_below x ys) ≡ suc (length ys) → length (if t then y ∷ with_inserted is_name_below x ys else x ∷ y ∷ ys) ≡ suc (suc (length ys))
    by true rec = ap suc rec
    by false rec = refl

pub length-ordered : (xs : List NameRow) → length (in_order is_name_below xs) ≡ length xs
length-ordered [] = refl
length-ordered (x ∷ xs) = length-inserted x (in_order is_name_below xs) ∙ ap suc (length-ordered xs)

-- of two names that are not one the first is below the other, or the other below it
above : (x y : NameRow) → is_name_below y x ≡ false → bytes_eq x.name y.name ≡ false → is_name_below x y ≡ true
above x y e other = by (is_name_below x y) refl
  where
    by : (t : Bool) → is_name_below x y ≡ t → is_name_below x y ≡ true
    by true h = h
    by false h = absurd (true≢false (sym (bytes_eq-self x.name) ∙ ap (bytes_eq x.name) (is_below-same x.name y.name h e) ∙ other))

up-inserted : (x : NameRow) (ys : List NameRow) → Each (λ y. bytes_eq x.name y.name ≡ false) ys → Up ys → Up (with_inserted is_name_below x ys)
up-inserted x [] other up = (tt, tt)
up-inserted x (y ∷ ys) other up = by (is_name_below y x) refl (up-inserted x ys other.1 up.1)
  where
    by : (t : Bool) → is_name_below y x ≡ t → Up (with_inserted is_name_below x ys) → Up (if t then y ∷ with_inserted is_name_below x ys else x ∷ y ∷ ys)
    by true e rec = (each-inserted (λ z. is_name_below y z ≡ true) x ys e up.0, rec)
    by false e rec = (up_more x y ys (above x y e other.0) up, up)

pub up-ordered : (xs : List NameRow) → Apart xs → Up (in_order is_name_below xs)
up-ordered [] h = tt
up-ordered (x ∷ xs) h = up-inserted x (in_order is_name_below xs) (each-ordered (λ y. bytes_eq x.name y.name ≡ false) xs h.0) (up-ordered xs h.1)
