-- Lists in the order of a key: what is taken out of such a list stands in that order, and its two halves merge to it again.
use Rattle.std.proofs.Common.{◌≡◌, Bool, true, false, true≢false, List, [], ◌∷◌, ◌++◌, map, Option, Some, None, refl, sym, ap, subst, ◌∙◌}
use Rattle.std.specs.Prelude.{not, filter, if◌then◌else◌}
use Rattle.std.specs.List.{filter_map}
use Rattle.text_model.specs.Lists.{Each, with_inserted, in_order}
use Rattle.text_model.specs.Text.{Bytes, is_below}
use Rattle.text_model.proofs.OrderLemmas.{is_below-one_way, is_below-chain, is_below-same}
use Rattle.text_model.proofs.Options.{some_is}
use Rattle.git_model.proofs.SortLemmas.{by_key, Ascends}

-- each of the elements comes behind the key
abbrev pub Behind : {X : Type 0} → (X → Bytes) → Bytes → List X → Type 0
Behind key p xs = Each (λ x. is_below p (key x) ≡ true) xs

pub behind_filter : {X : Type 0} (P : X → Type 0) (p : X → Bool) (xs : List X) → Each P xs → Each P (filter p xs)
behind_filter P p [] h = tt
behind_filter P p (x ∷ xs) h = by (p x) refl (behind_filter P p xs h.1)
  where
    by : (t : Bool) → p x ≡ t → Each P (filter p xs) → Each P (filter p (x ∷ xs))
    by true e go = rw e (h.0, go)
    by false e go = rw e go

pub each_inserted : {X : Type 0} (P : X → Type 0) (below : X → X → Bool) (x : X) (ys : List X) → P x → Each P ys → Each P (with_inserted below x ys)
each_inserted P below x [] h k = (h, tt)
each_inserted P below x (y ∷ ys) h k = by (below y x) refl (each_inserted P below x ys h k.1)
  where
    by : (t : Bool) → below y x ≡ t → Each P (with_inserted below x ys) → Each P (with_inserted below x (y ∷ ys))
    by true e go = rw e (k.0, go)
    by false e go = rw e (h, k)

pub each_ordered : {X : Type 0} (P : X → Type 0) (below : X → X → Bool) (xs : List X) → Each P xs → Each P (in_order below xs)
each_ordered P below [] h = tt
each_ordered P below (x ∷ xs) h = each_inserted P below x (in_order below xs) h.0 (each_ordered P below xs h.1)

-- ---- two halves of a list

insert_front : {X : Type 0} (key : X → Bytes) (x : X) (ys : List X) → Behind key (key x) ys → with_inserted (by_key key) x ys ≡ x ∷ ys
insert_front key x [] h = refl
insert_front key x (y ∷ ys) h = rw (is_below-one_way (key x) (key y) h.0) refl

past : {X : Type 0} (key : X → Bytes) (x y : X) (zs : List X) → is_below (key x) (key y) ≡ true → with_inserted (by_key key) y (x ∷ zs) ≡ x ∷ with_inserted (by_key key) y zs
past key x y zs h = rw h refl

front : {X : Type 0} (key : X → Bytes) (x : X) (us vs : List X) → Behind key (key x) us → Behind key (key x) vs → in_order (by_key key) (us ++ x ∷ vs) ≡ x ∷ in_order (by_key key) (us ++ vs)
front key x [] vs a b = insert_front key x (in_order (by_key key) vs) (each_ordered (λ y. is_below (key x) (key y) ≡ true) (by_key key) vs b)
front key x (y ∷ us) vs a b = ap (with_inserted (by_key key) y) (front key x us vs a.1 b) ∙ past key x y (in_order (by_key key) (us ++ vs)) a.0

-- those that pass a test and those that don't, one behind the other, are in order the list as it was
pub merge_again : {X : Type 0} (key : X → Bytes) (p : X → Bool) (xs : List X) → Ascends key xs → in_order (by_key key) (filter p xs ++ filter (λ x. not (p x)) xs) ≡ xs
merge_again key p [] u = refl
merge_again {X = X} key p (x ∷ xs) u = by (p x) refl (merge_again key p xs u.1)
  where
    by : (t : Bool) → p x ≡ t → in_order (by_key key) (filter p xs ++ filter (λ x. not (p x)) xs) ≡ xs → in_order (by_key key) (filter p (x ∷ xs) ++ filter (λ x. not (p x)) (x ∷ xs)) ≡ x ∷ xs
    by true e go = rw e (ap (with_inserted (by_key key) x) go ∙ insert_front key x xs u.0)
    by false e go =
        rw e (front key x (filter p xs) (filter (λ x. not (p x)) xs) (behind_filter (λ y. is_below (key x) (key y) ≡ true) p xs u.0) (behind_filter (λ y. is_below (key x) (key y) ≡ true) (λ x. not (p x)) xs u.0) ∙ ap (λ (ys : List X). x ∷ ys) go)

-- ---- what is taken out of a list in order

-- no later element is below an earlier one
abbrev pub IsWeak : {X : Type 0} → (X → Bytes) → List X → Type 0
IsWeak key [] = Unit {0}
IsWeak key (x ∷ xs) = Each (λ z. is_below (key z) (key x) ≡ false) xs × IsWeak key xs

not_below_chain : (z y x : Bytes) → is_below z y ≡ false → is_below y x ≡ false → is_below z x ≡ false
not_below_chain z y x h k = by (is_below z x) refl (is_below y z) refl
  where
    by : (t : Bool) → is_below z x ≡ t → (s : Bool) → is_below y z ≡ s → is_below z x ≡ false
    by false e s f = e
    by true e true f = absurd (true≢false (sym (is_below-chain y z x f e) ∙ k))
    by true e false f = absurd (true≢false (sym e ∙ ap (λ b. is_below b x) (is_below-same z y h f) ∙ k))

weak_inserted : {X : Type 0} (key : X → Bytes) (x : X) (ys : List X) → IsWeak key ys → IsWeak key (with_inserted (by_key key) x ys)
weak_inserted key x [] w = (tt, tt)
weak_inserted {X = X} key x (y ∷ ys) w = by (is_below (key y) (key x)) refl (weak_inserted key x ys w.1)
  where
    further : is_below (key y) (key x) ≡ false → (zs : List X) → Each (λ z. is_below (key z) (key y) ≡ false) zs → Each (λ z. is_below (key z) (key x) ≡ false) zs
    further e [] k = tt
    further e (z ∷ zs) k = (not_below_chain (key z) (key y) (key x) k.0 e, further e zs k.1)

    by : (t : Bool) → is_below (key y) (key x) ≡ t → IsWeak key (with_inserted (by_key key) x ys) → IsWeak key (with_inserted (by_key key) x (y ∷ ys))
    by true e go = rw e (each_inserted (λ z. is_below (key z) (key y) ≡ false) (by_key key) x ys (is_below-one_way (key y) (key x) e) w.0, go)
    by false e go = rw e ((e, further e ys w.0), w)

pub weak_ordered : {X : Type 0} (key : X → Bytes) (xs : List X) → IsWeak key (in_order (by_key key) xs)
weak_ordered key [] = tt
weak_ordered key (x ∷ xs) = weak_inserted key x (in_order (by_key key) xs) (weak_ordered key xs)

insert_stop : {X : Type 0} (key : X → Bytes) (x : X) (ys : List X) → Each (λ z. is_below (key z) (key x) ≡ false) ys → with_inserted (by_key key) x ys ≡ x ∷ ys
insert_stop key x [] h = refl
insert_stop key x (y ∷ ys) h = rw h.0 refl

-- a function that takes some elements, each with its key
abbrev pub KeepsKey : {X Y : Type 0} → (X → Option Y) → (X → Bytes) → (Y → Bytes) → Type 0
KeepsKey {X} {Y} f kx ky = (x : X) (y : Y) → f x ≡ Some y → ky y ≡ kx x

abbrev insert_some : {Y : Type 0} → (Y → Bytes) → Option Y → List Y → List Y
insert_some ky None ys = ys
insert_some ky (Some y) ys = with_inserted (by_key ky) y ys

module _ {X Y : Type 0} (f : X → Option Y) (kx : X → Bytes) (ky : Y → Bytes) (keeps : KeepsKey f kx ky) where
  each_taken : (p : Bytes) (xs : List X) → Each (λ z. is_below (kx z) p ≡ false) xs → Each (λ w. is_below (ky w) p ≡ false) (filter_map f xs)
  each_taken p [] h = tt
  each_taken p (x ∷ xs) h = by (f x) refl (each_taken p xs h.1)
    where
      by : (o : Option Y) → f x ≡ o → Each (λ w. is_below (ky w) p ≡ false) (filter_map f xs) → Each (λ w. is_below (ky w) p ≡ false) (filter_map f (x ∷ xs))
      by None e go = rw e go
      by (Some y) e go = rw e (ap (λ b. is_below b p) (keeps x y e) ∙ h.0, go)

  taken_inserted : (x : X) (ys : List X) → IsWeak kx ys → filter_map f (with_inserted (by_key kx) x ys) ≡ insert_some ky (f x) (filter_map f ys)
  taken_inserted x [] w = by (f x) refl
    where
      by : (o : Option Y) → f x ≡ o → filter_map f (x ∷ []) ≡ insert_some ky (f x) []
      by None e = rw e refl
      by (Some y) e = rw e refl
  taken_inserted x (z ∷ zs) w = by (is_below (kx z) (kx x)) refl (f x) refl (f z) refl (taken_inserted x zs w.1)
    where
      further : is_below (kx z) (kx x) ≡ false → (us : List X) → Each (λ u. is_below (kx u) (kx z) ≡ false) us → Each (λ u. is_below (kx u) (kx x) ≡ false) us
      further e [] k = tt
      further e (u ∷ us) k = (not_below_chain (kx u) (kx z) (kx x) k.0 e, further e us k.1)

      stop : (y : Y) → f x ≡ Some y → is_below (kx z) (kx x) ≡ false → with_inserted (by_key ky) y (filter_map f (z ∷ zs)) ≡ y ∷ filter_map f (z ∷ zs)
      stop y g e = insert_stop ky y (filter_map f (z ∷ zs)) (each_taken (ky y) (z ∷ zs) (subst (λ p. Each (λ u. is_below (kx u) p ≡ false) (z ∷ zs)) (sym (keeps x y g)) (e, further e zs w.0)))

      by : (t : Bool) → is_below (kx z) (kx x) ≡ t → (o : Option Y) → f x ≡ o → (u : Option Y) → f z ≡ u
          → filter_map f (with_inserted (by_key kx) x zs) ≡ insert_some ky (f x) (filter_map f zs) → filter_map f (with_inserted (by_key kx) x (z ∷ zs)) ≡ insert_some ky (f x) (filter_map f (z ∷ zs))
      by true e None g None h go = rw (e, h) go
      by true e (Some y) g None h go = rw (e, h) go
      by true e None g (Some v) h go = rw (e, h, g) (ap (λ (ys : List Y). v ∷ ys) (go ∙ ap (λ o. insert_some ky o (filter_map f zs)) g))
      by true e (Some y) g (Some v) h go =
          let b : is_below (ky v) (ky y) ≡ true = (λ i. is_below (keeps z v h i) (keeps x y g i)) ∙ e in
          rw (e, h, g, b) (ap (λ (ys : List Y). v ∷ ys) (go ∙ ap (λ o. insert_some ky o (filter_map f zs)) g))
      by false e None g u h go = rw (e, g) refl
      by false e (Some y) g u h go = rw (e, g) (sym (stop y g e))

  -- what is taken out of a list in order is what is taken out of the list, in order
  pub taken_ordered : (xs : List X) → filter_map f (in_order (by_key kx) xs) ≡ in_order (by_key ky) (filter_map f xs)
  taken_ordered [] = refl
  taken_ordered (x ∷ xs) = taken_inserted x (in_order (by_key kx) xs) (weak_ordered kx xs) ∙ by (f x) refl (taken_ordered xs)
    where
      by : (o : Option Y) → f x ≡ o → filter_map f (in_order (by_key kx) xs) ≡ in_order (by_key ky) (filter_map f xs) → insert_some ky (f x) (filter_map f (in_order (by_key kx) xs)) ≡ in_order (by_key ky) (filter_map f (x ∷ xs))
      by None e go = rw e go
      by (Some y) e go = rw e (ap (with_inserted (by_key ky) y) go)

abbrev pub kept : {X : Type 0} → (X → Bool) → X → Option X
kept p x = if p x then Some x else None

pub filter_is : {X : Type 0} (p : X → Bool) (xs : List X) → filter p xs ≡ filter_map (kept p) xs
filter_is p [] = refl
filter_is {X = X} p (x ∷ xs) = by (p x) refl (filter_is p xs)
  where
    by : (t : Bool) → p x ≡ t → filter p xs ≡ filter_map (kept p) xs → filter p (x ∷ xs) ≡ filter_map (kept p) (x ∷ xs)
    by true e go = rw e (ap (λ (ys : List X). x ∷ ys) go)
    by false e go = rw e go

pub filter_ordered : {X : Type 0} (key : X → Bytes) (p : X → Bool) (xs : List X) → filter p (in_order (by_key key) xs) ≡ in_order (by_key key) (filter p xs)
filter_ordered {X = X} key p xs = filter_is p (in_order (by_key key) xs) ∙ taken_ordered (kept p) key key keeps xs ∙ ap (in_order (by_key key)) (sym (filter_is p xs))
  where
    keeps : (x y : X) → kept p x ≡ Some y → key y ≡ key x
    keeps x y e = by (p x) refl e
      where
        by : (t : Bool) → p x ≡ t → (if t then Some x else None) ≡ Some y → key y ≡ key x
        by true f g = ap key (sym (some_is g))
        by false f g = absurd cc

-- a function of all elements and the order below it
map_inserted : {X Y : Type 0} (f : X → Y) (below : Y → Y → Bool) (x : X) (ys : List X) → map f (with_inserted (λ a b. below (f a) (f b)) x ys) ≡ with_inserted below (f x) (map f ys)
map_inserted f below x [] = refl
map_inserted {Y = Y} f below x (y ∷ ys) = by (below (f y) (f x)) refl (map_inserted f below x ys)
  where
    by : (t : Bool) → below (f y) (f x) ≡ t → map f (with_inserted (λ a b. below (f a) (f b)) x ys) ≡ with_inserted below (f x) (map f ys)
        → map f (with_inserted (λ a b. below (f a) (f b)) x (y ∷ ys)) ≡ with_inserted below (f x) (map f (y ∷ ys))
    by true e go = rw e (ap (λ (zs : List Y). f y ∷ zs) go)
    by false e go = rw e refl

pub map_ordered : {X Y : Type 0} (f : X → Y) (below : Y → Y → Bool) (xs : List X) → map f (in_order (λ a b. below (f a) (f b)) xs) ≡ in_order below (map f xs)
map_ordered f below [] = refl
map_ordered f below (x ∷ xs) = map_inserted f below x (in_order (λ a b. below (f a) (f b)) xs) ∙ ap (with_inserted below (f x)) (map_ordered f below xs)
