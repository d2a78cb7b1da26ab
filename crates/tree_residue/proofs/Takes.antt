-- What is taken out of a list, one element after the other.
use Rattle.std.proofs.Common.{◌≡◌, ◌<◌, ◌+◌, ℕ, zero, suc, Bool, true, false, List, [], ◌∷◌, ◌++◌, length, take, get_or, Option, Some, None, refl, sym, ap, ◌∙◌, inl, inr, arith, append_assoc}
use Rattle.std.specs.Prelude.{if◌then◌else◌, slice_get}
use Rattle.std.specs.List.{filter_map, cons_option}
use Rattle.std.proofs.lemmas.List.{append-nil}
use Rattle.std.proofs.lemmas.Option.{none-some}
use Rattle.std.proofs.Math.Seq.{take-suc}
use Rattle.text_model.specs.Lists.{In}
use Rattle.text_model.specs.Text.{Bytes, is_below}
use Rattle.text_model.proofs.Options.{some_is}
use Rattle.text_model.proofs.Elements.{each_in as each-of, each_from as each-by}
use Rattle.git_model.proofs.SortLemmas.{Ascends}
use Rattle.git_model.proofs.RowOrder.{KeepsKey, kept}

pub taken-next : {X : Type 0} (xs : List X) (i : ℕ) (x : X) → i < length xs → x ≡ get_or xs i x → take (i + 1) xs ≡ take i xs ++ x ∷ []
taken-next {X} xs i x h is =
    let one : i + 1 ≡ suc i = omega arith in
    ap (λ (n : ℕ). take n xs) one ∙ take-suc xs i x h ∙ ap (λ (y : X). take i xs ++ y ∷ []) (sym is)

module _ {X Y : Type 0} (f : X → Option Y) where
  taken-snoc : (xs : List X) (x : X) → filter_map f (xs ++ x ∷ []) ≡ filter_map f xs ++ cons_option (f x) []
  taken-snoc [] x = refl
  taken-snoc (z ∷ xs) x = by (f z) (taken-snoc xs x)
    where
      by : (o : Option Y) → filter_map f (xs ++ x ∷ []) ≡ filter_map f xs ++ cons_option (f x) [] → cons_option o (filter_map f (xs ++ x ∷ [])) ≡ cons_option o (filter_map f xs) ++ cons_option (f x) []
      by None h = h
      by (Some y) h = ap (λ (ys : List Y). y ∷ ys) h

  pub turn-some : (base out new : List Y) (xs : List X) (i : ℕ) (x : X) (y : Y) → i < length xs → x ≡ get_or xs i x → f x ≡ Some y → out ≡ base ++ filter_map f (take i xs) → new ≡ out ++ y ∷ []
      → new ≡ base ++ filter_map f (take (i + 1) xs)
  turn-some base out new xs i x y h is e o n =
      n ∙ ap (λ (ys : List Y). ys ++ y ∷ []) o ∙ append_assoc base (filter_map f (take i xs)) (y ∷ [])
      ∙ ap (λ (o : Option Y). base ++ (filter_map f (take i xs) ++ cons_option o [])) (sym e)
      ∙ ap (λ (ys : List Y). base ++ ys) (sym (taken-snoc (take i xs) x))
      ∙ ap (λ (zs : List X). base ++ filter_map f zs) (sym (taken-next xs i x h is))

  pub turn-none : (base out : List Y) (xs : List X) (i : ℕ) (x : X) → i < length xs → x ≡ get_or xs i x → f x ≡ None → out ≡ base ++ filter_map f (take i xs)
      → out ≡ base ++ filter_map f (take (i + 1) xs)
  turn-none base out xs i x h is e o =
      o ∙ ap (λ (ys : List Y). base ++ ys) (sym (append-nil (filter_map f (take i xs))))
      ∙ ap (λ (o : Option Y). base ++ (filter_map f (take i xs) ++ cons_option o [])) (sym e)
      ∙ ap (λ (ys : List Y). base ++ ys) (sym (taken-snoc (take i xs) x))
      ∙ ap (λ (zs : List X). base ++ filter_map f zs) (sym (taken-next xs i x h is))

  pub of-taken : (y : Y) (xs : List X) → In y (filter_map f xs) → (x : X) × In x xs × (f x ≡ Some y)
  of-taken y [] i = absurd i
  of-taken y (x ∷ xs) i = by (f x) refl i (of-taken y xs)
    where
      by : (o : Option Y) → f x ≡ o → In y (cons_option o (filter_map f xs)) → (In y (filter_map f xs) → (x : X) × In x xs × (f x ≡ Some y)) → (z : X) × In z (x ∷ xs) × (f z ≡ Some y)
      by None e i rec = let r = rec i in (r.0, inr r.1, r.2)
      by (Some z) e (inl q) rec = (x, inl refl, e ∙ ap Some (sym q))
      by (Some z) e (inr j) rec = let r = rec j in (r.0, inr r.1, r.2)

  -- what is taken out of a list that ascends ascends
  pub taken-ascends : (kx : X → Bytes) (ky : Y → Bytes) → KeepsKey f kx ky → (xs : List X) → Ascends kx xs → Ascends ky (filter_map f xs)
  taken-ascends kx ky keeps [] h = tt
  taken-ascends kx ky keeps (x ∷ xs) h = by (f x) refl (taken-ascends kx ky keeps xs h.1)
    where
      by : (o : Option Y) → f x ≡ o → Ascends ky (filter_map f xs) → Ascends ky (cons_option o (filter_map f xs))
      by None e rec = rec
      by (Some y) e rec = (
        each-by (λ z. is_below (ky y) (ky z) ≡ true) (filter_map f xs) (λ z i.
            let r = of-taken z xs i in
            (λ k. is_below (keeps x y e k) (keeps r.0 z r.2 k)) ∙ each-of (λ w. is_below (kx x) (kx w) ≡ true) xs r.0 h.0 r.1),
        rec,
      )

pub kept-yes : {X : Type 0} (p : X → Bool) (x : X) → p x ≡ true → kept p x ≡ Some x
kept-yes p x h = ap (λ (t : Bool). if t then Some x else None) h

pub kept-no : {X : Type 0} (p : X → Bool) (x : X) → p x ≡ false → kept p x ≡ None
kept-no p x h = ap (λ (t : Bool). if t then Some x else None) h

pub kept-key : {X : Type 0} (p : X → Bool) (key : X → Bytes) → KeepsKey (kept p) key key
kept-key {X} p key x y e = by (p x) e
  where
    by : (t : Bool) → (if t then Some x else None) ≡ Some y → key y ≡ key x
    by true e = let same : x ≡ y = cc in ap key (sym same)
    by false e = absurd cc

-- two lists have one more element in common
pub take-same : {X : Type 0} (xs ys : List X) (i : ℕ) (x y : X) → slice_get xs i ≡ Some x → slice_get ys i ≡ Some y → x ≡ y → take i xs ≡ take i ys
    → take (i + 1) xs ≡ take (i + 1) ys
take-same [] ys i x y at to is before = absurd (none-some _ at)
take-same (a ∷ xs) [] i x y at to is before = absurd (none-some _ to)
take-same {X} (a ∷ xs) (b ∷ ys) zero x y at to is before = ap (λ (z : X). z ∷ []) (some_is at ∙ is ∙ sym (some_is to))
take-same {X} (a ∷ xs) (b ∷ ys) (suc i) x y at to is before =
    let plus : suc i + 1 ≡ suc (i + 1) = omega arith in
    let tail : take i xs ≡ take i ys = cc in
    let head : a ≡ b = cc in
    ap (λ (n : ℕ). take n (a ∷ xs)) plus ∙ (λ j. head j ∷ take-same xs ys i x y at to is tail j) ∙ ap (λ (n : ℕ). take n (b ∷ ys)) (sym plus)
