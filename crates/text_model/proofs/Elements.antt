-- Elements of lists: what holds of each, and where they stand.
use Rattle.std.proofs.Common.{◌≡◌, ◌+◌, ℕ, zero, suc, Bool, true, false, ◌||◌, List, [], ◌∷◌, ◌++◌, length, map, take, drop, slice_get, Some, refl, sym, ap, subst, ◌∙◌, inl, inr, arith, append_assoc, ◌≤◌}
use Rattle.std.specs.Prelude.{if◌then◌else◌}
use Rattle.std.specs.List.{find, list_any, flat_map}
use Rattle.std.proofs.lemmas.Bool.{true≢false}
use Rattle.text_model.specs.Lists.{Each, In}
use Rattle.text_model.proofs.Options.{some_is, none_some}

-- ---- each element

pub each_from : {X : Type 0} (P : X → Type 0) (xs : List X) → ((x : X) → In x xs → P x) → Each P xs
each_from P [] h = tt
each_from P (x ∷ xs) h = (h x (inl refl), each_from P xs (λ y i. h y (inr i)))

pub each_in : {X : Type 0} (P : X → Type 0) (xs : List X) (x : X) → Each P xs → In x xs → P x
each_in P [] x e h = absurd h
each_in P (z ∷ xs) x e h = elim h [ inl q ↦ subst P (sym q) e.0 | inr r ↦ each_in P xs x e.1 r ]

pub each_at : {X : Type 0} (P : X → Type 0) (xs : List X) (i : ℕ) (x : X) → slice_get xs i ≡ Some x → Each P xs → P x
each_at P [] i x at h = absurd (none_some at)
each_at P (y ∷ xs) zero x at h = subst P (some_is at) h.0
each_at P (y ∷ xs) (suc i) x at h = each_at P xs i x at h.1

-- ---- which elements there are

pub in_left : {X : Type 0} (x : X) (xs ys : List X) → In x xs → In x (xs ++ ys)
in_left x [] ys h = absurd h
in_left x (z ∷ xs) ys h = elim h [ inl e ↦ inl e | inr r ↦ inr (in_left x xs ys r) ]

pub in_right : {X : Type 0} (x : X) (xs ys : List X) → In x ys → In x (xs ++ ys)
in_right x [] ys h = h
in_right x (z ∷ xs) ys h = inr (in_right x xs ys h)

pub in_map : {X Y : Type 0} (f : X → Y) (x : X) (xs : List X) → In x xs → In (f x) (map f xs)
in_map f x [] i = absurd i
in_map f x (y ∷ xs) (inl q) = inl (ap f q)
in_map f x (y ∷ xs) (inr j) = inr (in_map f x xs j)

pub in_any : {X : Type 0} (test : X → Bool) (xs : List X) (x : X) → In x xs → test x ≡ true → list_any test xs ≡ true
in_any test [] x i h = absurd i
in_any test (y ∷ xs) x (inl e) h = rw (sym (ap test e) ∙ h) refl
in_any test (y ∷ xs) x (inr i) h = by (test y) (in_any test xs x i h)
  where
    by : (t : Bool) → list_any test xs ≡ true → (t || list_any test xs) ≡ true
    by true later = refl
    by false later = later

pub none_in : {X : Type 0} (test : X → Bool) (xs : List X) (x : X) → list_any test xs ≡ false → In x xs → test x ≡ false
none_in test xs x none i = by (test x) refl
  where
    by : (t : Bool) → test x ≡ t → t ≡ false
    by true t = absurd (true≢false (sym (in_any test xs x i t) ∙ none))
    by false t = refl

pub none_all : {X : Type 0} (test : X → Bool) (xs : List X) → ((x : X) → In x xs → test x ≡ false) → list_any test xs ≡ false
none_all test [] h = refl
none_all test (x ∷ xs) h = rw (h x (inl refl), none_all test xs (λ y i. h y (inr i))) refl

-- what is found stays found where more elements follow
pub find-more : {X : Type 0} (p : X → Bool) (xs ys : List X) (x : X) → find p xs ≡ Some x → find p (xs ++ ys) ≡ Some x
find-more p [] ys x h = absurd (none_some h)
find-more p (y ∷ xs) ys x h = by (p y) refl h (find-more p xs ys x)
  where
    by : (t : Bool) → p y ≡ t → (if t then Some y else find p xs) ≡ Some x → (find p xs ≡ Some x → find p (xs ++ ys) ≡ Some x) → find p (y ∷ (xs ++ ys)) ≡ Some x
    by true e k go = rw e k
    by false e k go = rw e (go k)

-- ---- lists that are mapped, or taken from the front

pub map_append : {X Y : Type 0} (f : X → Y) (xs ys : List X) → map f (xs ++ ys) ≡ map f xs ++ map f ys
map_append f [] ys = refl
map_append f (x ∷ xs) ys = ap (λ (l : List _). f x ∷ l) (map_append f xs ys)

pub get_unmap : {X Y : Type 0} (f : X → Y) (xs : List X) (i : ℕ) (y : Y) → slice_get (map f xs) i ≡ Some y → (x : X) × (slice_get xs i ≡ Some x) × (f x ≡ y)
get_unmap f [] i y at = absurd (none_some at)
get_unmap f (x ∷ xs) zero y at = (x, refl, some_is at)
get_unmap f (x ∷ xs) (suc i) y at = get_unmap f xs i y at

pub take_push : {X : Type 0} (xs : List X) (i : ℕ) (x : X) → slice_get xs i ≡ Some x → take (i + 1) xs ≡ take i xs ++ x ∷ []
take_push [] i x h = absurd (none_some h)
take_push (y ∷ ys) zero x h = ap (λ (z : _). z ∷ []) (some_is h)
take_push (y ∷ ys) (suc i) x h = let e : suc i + 1 ≡ suc (i + 1) = omega arith in rw e (ap (λ (l : List _). y ∷ l) (take_push ys i x h))

pub map_take_push : {X Y : Type 0} (f : X → Y) (xs : List X) (i : ℕ) (x : X) → slice_get xs i ≡ Some x → map f (take (i + 1) xs) ≡ map f (take i xs) ++ f x ∷ []
map_take_push f xs i x at = ap (map f) (take_push xs i x at) ∙ map_append f (take i xs) (x ∷ [])

pub take_front : {X : Type 0} (xs ys : List X) → take (length xs) (xs ++ ys) ≡ xs
take_front [] ys = refl
take_front (x ∷ xs) ys = ap (λ (l : List _). x ∷ l) (take_front xs ys)

pub drop_front : {X : Type 0} (xs ys : List X) → drop (length xs) (xs ++ ys) ≡ ys
drop_front [] ys = refl
drop_front (x ∷ xs) ys = drop_front xs ys

pub drop_next : {X : Type 0} (xs : List X) (i : ℕ) (x : X) → slice_get xs i ≡ Some x → drop i xs ≡ x ∷ drop (i + 1) xs
drop_next [] i x h = absurd (none_some h)
drop_next (y ∷ ys) zero x h = ap (λ (z : _). z ∷ ys) (some_is h)
drop_next (y ∷ ys) (suc i) x h = let e : suc i + 1 ≡ suc (i + 1) = omega arith in rw e (drop_next ys i x h)

pub take_whole : {X : Type 0} (xs : List X) (i : ℕ) → length xs ≤ i → take i xs ≡ xs
take_whole [] zero h = refl
take_whole [] (suc i) h = refl
take_whole (x ∷ xs) zero h = absurd (omega (arith, h))
take_whole (x ∷ xs) (suc i) h = ap (λ (l : List _). x ∷ l) (take_whole xs i (omega (arith, h)))

pub flat_map_append : {X Y : Type 0} (f : X → List Y) (xs ys : List X) → flat_map f (xs ++ ys) ≡ flat_map f xs ++ flat_map f ys
flat_map_append f [] ys = refl
flat_map_append f (x ∷ xs) ys = ap (λ (l : List _). f x ++ l) (flat_map_append f xs ys) ∙ sym (append_assoc (f x) (flat_map f xs) (flat_map f ys))
