-- Elements of lists.
use Rattle.std.proofs.Common.{◌≡◌, inl, inr, Bool, true, false, true≢false, not, List, [], ◌∷◌, map, Option, Some, None, refl, sym, ap, subst, ◌∙◌}
use Rattle.std.specs.Prelude.{bytes_eq, filter}
use Rattle.std.specs.List.{flat_map, filter_map}
use Rattle.std.proofs.lemmas.Slice.Eq.{bytes_eq-Decides}
use Rattle.text_model.proofs.Options.{none_some, some_is}
use Rattle.text_model.specs.Lists.{In, first_of_each}
use Rattle.text_model.specs.Text.{Bytes, is_below}
use Rattle.text_model.proofs.OrderLemmas.{is_below-irreflexive}
use Rattle.text_model.proofs.Elements.{each_in, in_left, in_right}
use Rattle.git_model.proofs.SortLemmas.{Ascends}

pub heads : {X : Type 0} {u v : X} {us vs : List X} → u ∷ us ≡ v ∷ vs → u ≡ v
heads h = cc

pub tails : {X : Type 0} {u v : X} {us vs : List X} → u ∷ us ≡ v ∷ vs → us ≡ vs
tails h = cc

pub of-map : {X Y : Type 0} (f : X → Y) (y : Y) (xs : List X) → In y (map f xs) → (x : X) × In x xs × (y ≡ f x)
of-map f y [] i = absurd i
of-map f y (x ∷ xs) (inl e) = (x, inl refl, e)
of-map f y (x ∷ xs) (inr i) = let r = of-map f y xs i in (r.0, inr r.1, r.2)

pub in-flat : {X Y : Type 0} (f : X → List Y) (x : X) (y : Y) (xs : List X) → In x xs → In y (f x) → In y (flat_map f xs)
in-flat f x y [] i j = absurd i
in-flat f x y (z ∷ xs) (inl e) j = in_left y (f z) (flat_map f xs) (subst (λ w. In y (f w)) e j)
in-flat f x y (z ∷ xs) (inr i) j = in_right y (f z) (flat_map f xs) (in-flat f x y xs i j)

pub in-filter_map : {X Y : Type 0} (f : X → Option Y) (x : X) (y : Y) (xs : List X) → In x xs → f x ≡ Some y → In y (filter_map f xs)
in-filter_map f x y [] i h = absurd i
in-filter_map {X = X} {Y = Y} f x y (z ∷ xs) i h = by (f z) refl i (λ j. in-filter_map f x y xs j h)
  where
    by : (o : Option Y) → f z ≡ o → In x (z ∷ xs) → (In x xs → In y (filter_map f xs)) → In y (filter_map f (z ∷ xs))
    by None e (inl q) go = absurd (none_some (sym e ∙ ap f (sym q) ∙ h))
    by None e (inr j) go = rw e (go j)
    by (Some w) e (inl q) go = rw e (inl (sym (some_is (sym e ∙ ap f (sym q) ∙ h))))
    by (Some w) e (inr j) go = rw e (inr (go j))

pub of-filter_map : {X Y : Type 0} (f : X → Option Y) (y : Y) (xs : List X) → In y (filter_map f xs) → (x : X) × In x xs × (f x ≡ Some y)
of-filter_map f y [] i = absurd i
of-filter_map {X = X} {Y = Y} f y (z ∷ xs) i = by (f z) refl i (of-filter_map f y xs)
  where
    by : (o : Option Y) → f z ≡ o → In y (filter_map f (z ∷ xs)) → (In y (filter_map f xs) → (x : X) × In x xs × (f x ≡ Some y)) → (x : X) × In x (z ∷ xs) × (f x ≡ Some y)
    by None e j go = let r = go (rw e at j) in (r.0, inr r.1, r.2)
    by (Some w) e j go = elim (rw e at j) [ inl q ↦ (z, inl refl, e ∙ ap Some (sym q)) | inr k ↦ (let r = go k in (r.0, inr r.1, r.2)) ]

pub of-filter : {X : Type 0} (p : X → Bool) (x : X) (xs : List X) → In x (filter p xs) → In x xs
of-filter p x [] i = absurd i
of-filter {X = X} p x (y ∷ xs) i = by (p y) refl i (of-filter p x xs)
  where
    by : (t : Bool) → p y ≡ t → In x (filter p (y ∷ xs)) → (In x (filter p xs) → In x xs) → In x (y ∷ xs)
    by false e j go = inr (go (rw e at j))
    by true e j go = elim (rw e at j) [ inl q ↦ inl q | inr k ↦ inr (go k) ]

pub passes : {X : Type 0} (p : X → Bool) (x : X) (xs : List X) → In x (filter p xs) → p x ≡ true
passes p x [] i = absurd i
passes {X = X} p x (y ∷ xs) i = by (p y) refl i (passes p x xs)
  where
    by : (t : Bool) → p y ≡ t → In x (filter p (y ∷ xs)) → (In x (filter p xs) → p x ≡ true) → p x ≡ true
    by false e j go = go (rw e at j)
    by true e j go = elim (rw e at j) [ inl q ↦ ap p q ∙ e | inr k ↦ go k ]

pub in-filter : {X : Type 0} (p : X → Bool) (x : X) (xs : List X) → In x xs → p x ≡ true → In x (filter p xs)
in-filter p x [] i h = absurd i
in-filter {X = X} p x (y ∷ xs) i h = by (p y) refl i (λ j. in-filter p x xs j h)
  where
    by : (t : Bool) → p y ≡ t → In x (y ∷ xs) → (In x xs → In x (filter p xs)) → In x (filter p (y ∷ xs))
    by true e (inl q) go = rw e (inl q)
    by true e (inr j) go = rw e (inr (go j))
    by false e (inl q) go = absurd (true≢false (sym h ∙ ap p q ∙ e))
    by false e (inr j) go = rw e (go j)

pub in-first : (x : Bytes) (xs : List Bytes) → In x xs → In x (first_of_each bytes_eq xs)
in-first x [] i = absurd i
in-first x (y ∷ xs) (inl e) = inl e
in-first x (y ∷ xs) (inr i) = by (bytes_eq y x) refl (in-first x xs i)
  where
    by : (t : Bool) → bytes_eq y x ≡ t → In x (first_of_each bytes_eq xs) → In x (first_of_each bytes_eq (y ∷ xs))
    by true e j = inl (sym ((bytes_eq-Decides y x).0 e))
    by false e j = inr (in-filter (λ z. not (bytes_eq y z)) x (first_of_each bytes_eq xs) j (ap not e))

pub of-first : {X : Type 0} (same : X → X → Bool) (x : X) (xs : List X) → In x (first_of_each same xs) → In x xs
of-first same x [] i = absurd i
of-first same x (y ∷ xs) (inl e) = inl e
of-first same x (y ∷ xs) (inr i) = inr (of-first same x xs (of-filter (λ z. not (same y z)) x (first_of_each same xs) i))

-- ---- lists that rise by a key

pub one_of_key : {X : Type 0} (key : X → Bytes) (xs : List X) → Ascends key xs → (a b : X) → In a xs → In b xs → key a ≡ key b → a ≡ b
one_of_key key [] u a b i j e = absurd i
one_of_key key (x ∷ xs) u a b (inl p) (inl q) e = p ∙ sym q
one_of_key key (x ∷ xs) u a b (inl p) (inr j) e =
    absurd (true≢false (sym (each_in (λ z. is_below (key x) (key z) ≡ true) xs b u.0 j) ∙ (λ i. is_below (key x) ((sym e ∙ ap key p) i)) ∙ is_below-irreflexive (key x)))
one_of_key key (x ∷ xs) u a b (inr i) (inl q) e =
    absurd (true≢false (sym (each_in (λ z. is_below (key x) (key z) ≡ true) xs a u.0 i) ∙ (λ i. is_below (key x) ((e ∙ ap key q) i)) ∙ is_below-irreflexive (key x)))
one_of_key key (x ∷ xs) u a b (inr i) (inr j) e = one_of_key key xs u.1 a b i j e
