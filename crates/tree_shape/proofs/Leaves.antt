-- The leaves of one name, and those of others.
use Rattle.std.proofs.Common.{◌≡◌, ◌≢◌, ℕ, Bool, true, false, not, List, [], ◌∷◌, ◌++◌, map, Option, Some, None, refl, sym, ap, subst, ◌∙◌, inl, inr}
use Rattle.std.specs.Prelude.{filter, if◌then◌else◌, bytes_eq}
use Rattle.std.specs.List.{flat_map, filter_map, cons_option}
use Rattle.std.proofs.lemmas.List.Elements.{filter-append}
use Rattle.std.proofs.lemmas.Slice.Eq.{bytes_eq-Decides}
use Rattle.text_model.specs.Lists.{In, Each, first_of_each, in_order, with_inserted, rises}
use Rattle.text_model.specs.Text.{Bytes}
use Rattle.text_model.specs.Id.{tree, object_id}
use Rattle.git_model.specs.Tree.{Directory, is_directory, TreeEntry, tree_text}
use Rattle.git_model.specs.Object.{Object}
use Rattle.git_model.specs.Shape.{Leaf, first_name_of, first_names, leaf_named, is_named, leaves_below, cut_name, leaf_object, shape_entries, shape_objects}
use Rattle.tree_shape.specs.Shapes.{entry_of, entries_in, is_tree, trees_below, trees_in}
use Rattle.tree_shape.proofs.Elements.{of-filter}
use Rattle.text_model.proofs.TestLemmas.{both}
use Rattle.text_model.proofs.Elements.{each_from}

-- ---- tests of names

pub same : (m : Bytes) → bytes_eq m m ≡ true
same m = (bytes_eq-Decides m m).1 refl

pub other : (m n : Bytes) → m ≢ n → bytes_eq m n ≡ false
other m n h = by (bytes_eq m n) refl
  where
    by : (t : Bool) → bytes_eq m n ≡ t → bytes_eq m n ≡ false
    by true e = absurd (h ((bytes_eq-Decides m n).0 e))
    by false e = e

-- ---- lists of names, each once

pub of-first_of_each : (xs : List Bytes) (x : Bytes) → In x (first_of_each bytes_eq xs) → In x xs
of-first_of_each [] x h = absurd h
of-first_of_each (y ∷ ys) x h = elim h [
  | inl q ↦ inl q
  | inr j ↦ inr (of-first_of_each ys x (of-filter (λ z. not (bytes_eq y z)) x (first_of_each bytes_eq ys) j).0)
]

filter-all : (p : Bytes → Bool) (xs : List Bytes) → Each (λ x. p x ≡ true) xs → filter p xs ≡ xs
filter-all p [] h = refl
filter-all p (x ∷ xs) h = ap (λ (b : Bool). if b then x ∷ filter p xs else filter p xs) h.0 ∙ ap (λ (r : List Bytes). x ∷ r) (filter-all p xs h.1)

-- ---- leaves with a first name

abbrev pub HasFirst : Bytes → Leaf → Type 0
HasFirst n leaf = first_name_of leaf ≡ Some n

abbrev pub NotFirst : Bytes → Leaf → Type 0
NotFirst n leaf = first_name_of leaf ≡ Some n → ⊥

names-apart : (n : Bytes) (rest : List Leaf) → Each (NotFirst n) rest → (x : Bytes) → In x (filter_map first_name_of rest) → n ≢ x
names-apart n [] h x i = absurd i
names-apart n (leaf ∷ rest) h x i = by (first_name_of leaf) refl i (names-apart n rest h.1 x)
  where
    by : (o : Option Bytes) → first_name_of leaf ≡ o → In x (cons_option o (filter_map first_name_of rest)) → (In x (filter_map first_name_of rest) → n ≢ x) → n ≢ x
    by None e j rec = rec j
    by (Some y) e j rec = elim j [ inl q ↦ (λ s. h.0 (e ∙ ap (λ (z : Bytes). Some z) (sym q ∙ sym s))) | inr k ↦ rec k ]

pub first_names-other : (n : Bytes) (rest : List Leaf) → Each (NotFirst n) rest → (x : Bytes) → In x (first_names rest) → n ≢ x
first_names-other n rest h x i = names-apart n rest h x (of-first_of_each (filter_map first_name_of rest) x i)

first_names-apart : (n : Bytes) (rest : List Leaf) → Each (NotFirst n) rest → filter (λ y. not (bytes_eq n y)) (first_names rest) ≡ first_names rest
first_names-apart n rest h = filter-all (λ y. not (bytes_eq n y)) (first_names rest) (each_from (λ x. not (bytes_eq n x) ≡ true) (first_names rest) (λ x i. ap not (other n x (first_names-other n rest h x i))))

first_names-cons : (n : Bytes) (leaf : Leaf) (rest : List Leaf) → HasFirst n leaf → first_names (leaf ∷ rest) ≡ n ∷ filter (λ y. not (bytes_eq n y)) (first_names rest)
first_names-cons n leaf rest h = ap (λ (o : Option Bytes). first_of_each bytes_eq (cons_option o (filter_map first_name_of rest))) h

pub first_names-group : (n : Bytes) (leaf : Leaf) (group rest : List Leaf) → HasFirst n leaf → Each (HasFirst n) group → Each (NotFirst n) rest → first_names (leaf ∷ (group ++ rest)) ≡ n ∷ first_names rest
first_names-group n leaf [] rest h g r = first_names-cons n leaf rest h ∙ ap (λ (x : List Bytes). n ∷ x) (first_names-apart n rest r)
first_names-group n leaf (next ∷ group) rest h g r =
    first_names-cons n leaf (next ∷ (group ++ rest)) h
    ∙ ap (λ (x : List Bytes). n ∷ filter (λ y. not (bytes_eq n y)) x) (first_names-group n next group rest g.0 g.1 r)
    ∙ ap (λ (b : Bool). n ∷ (if not b then n ∷ filter (λ y. not (bytes_eq n y)) (first_names rest) else filter (λ y. not (bytes_eq n y)) (first_names rest))) (same n)
    ∙ ap (λ (x : List Bytes). n ∷ x) (first_names-apart n rest r)

-- ---- looking a name up

named-other : (m n : Bytes) (leaf : Leaf) → n ≢ m → HasFirst n leaf → is_named m leaf.names ≡ false
named-other m n leaf ne h = by leaf.names h
  where
    by : (names : List Bytes) → (elim names as (λ _. Option Bytes) [ [] ↦ None | name ∷ more ↦ Some name ]) ≡ Some n → is_named m names ≡ false
    by [] h = refl
    by (name ∷ []) h = let is : name ≡ n = cc in other name m (λ s. ne (sym is ∙ s))
    by (name ∷ next ∷ names) h = refl

cut-other : (m n : Bytes) (leaf : Leaf) → n ≢ m → HasFirst n leaf → cut_name m leaf leaf.names ≡ None
cut-other m n leaf ne h = by leaf.names h
  where
    by : (names : List Bytes) → (elim names as (λ _. Option Bytes) [ [] ↦ None | name ∷ more ↦ Some name ]) ≡ Some n → cut_name m leaf names ≡ None
    by [] h = refl
    by (name ∷ []) h = refl
    by (name ∷ next ∷ names) h =
        let is : name ≡ n = cc in
        ap (λ (b : Bool). if b then Some (record { names = next ∷ names; mode = leaf.mode; id = leaf.id; content = leaf.content }) else None) (other name m (λ s. ne (sym is ∙ s)))

named-not : (n : Bytes) (leaf : Leaf) → NotFirst n leaf → is_named n leaf.names ≡ false
named-not n leaf h = by leaf.names h
  where
    by : (names : List Bytes) → ((elim names as (λ _. Option Bytes) [ [] ↦ None | name ∷ more ↦ Some name ]) ≡ Some n → ⊥) → is_named n names ≡ false
    by [] h = refl
    by (name ∷ []) h = other name n (λ s. h (ap (λ (z : Bytes). Some z) s))
    by (name ∷ next ∷ names) h = refl

cut-not : (n : Bytes) (leaf : Leaf) → NotFirst n leaf → cut_name n leaf leaf.names ≡ None
cut-not n leaf h = by leaf.names h
  where
    by : (names : List Bytes) → ((elim names as (λ _. Option Bytes) [ [] ↦ None | name ∷ more ↦ Some name ]) ≡ Some n → ⊥) → cut_name n leaf names ≡ None
    by [] h = refl
    by (name ∷ []) h = refl
    by (name ∷ next ∷ names) h =
        ap (λ (b : Bool). if b then Some (record { names = next ∷ names; mode = leaf.mode; id = leaf.id; content = leaf.content }) else None) (other name n (λ s. h (ap (λ (z : Bytes). Some z) s)))

pub leaf_named-other : (m n : Bytes) (group rest : List Leaf) → n ≢ m → Each (HasFirst n) group → leaf_named m (group ++ rest) ≡ leaf_named m rest
leaf_named-other m n [] rest ne h = refl
leaf_named-other m n (leaf ∷ group) rest ne h =
    ap (λ (b : Bool). if b then Some leaf else leaf_named m (group ++ rest)) (named-other m n leaf ne h.0) ∙ leaf_named-other m n group rest ne h.1

pub leaf_named-none : (n : Bytes) (rest : List Leaf) → Each (NotFirst n) rest → leaf_named n rest ≡ None
leaf_named-none n [] h = refl
leaf_named-none n (leaf ∷ rest) h = ap (λ (b : Bool). if b then Some leaf else leaf_named n rest) (named-not n leaf h.0) ∙ leaf_named-none n rest h.1

pub leaf_named-same : (n : Bytes) (group rest : List Leaf) → Each (NotFirst n) rest → leaf_named n (group ++ rest) ≡ leaf_named n group
leaf_named-same n [] rest h = leaf_named-none n rest h
leaf_named-same n (leaf ∷ group) rest h = ap (λ (o : Option Leaf). if is_named n leaf.names then Some leaf else o) (leaf_named-same n group rest h)

below-none : (n : Bytes) (rest : List Leaf) → Each (NotFirst n) rest → leaves_below n rest ≡ []
below-none n [] h = refl
below-none n (leaf ∷ rest) h = ap (λ (o : Option Leaf). cons_option o (leaves_below n rest)) (cut-not n leaf h.0) ∙ below-none n rest h.1

pub below-other : (m n : Bytes) (group rest : List Leaf) → n ≢ m → Each (HasFirst n) group → leaves_below m (group ++ rest) ≡ leaves_below m rest
below-other m n [] rest ne h = refl
below-other m n (leaf ∷ group) rest ne h = ap (λ (o : Option Leaf). cons_option o (leaves_below m (group ++ rest))) (cut-other m n leaf ne h.0) ∙ below-other m n group rest ne h.1

pub below-same : (n : Bytes) (group rest : List Leaf) → Each (NotFirst n) rest → leaves_below n (group ++ rest) ≡ leaves_below n group
below-same n [] rest h = below-none n rest h
below-same n (leaf ∷ group) rest h = ap (λ (l : List Leaf). cons_option (cut_name n leaf leaf.names) l) (below-same n group rest h)

-- ---- the entries, and the trees below them

-- an entry by what is named so and what lies below
abbrev pub entry_by : ℕ → Bytes → Option Leaf → List Leaf → TreeEntry
entry_by depth name o leaves = elim o as (λ _. TreeEntry) [
  | Some leaf ↦ record { mode = leaf.mode; name = name; id = leaf.id }
  | None ↦ record { mode = Directory; name = name; id = object_id tree (tree_text (shape_entries depth leaves)) }
]

abbrev pub trees_by : ℕ → TreeEntry → Option Leaf → List Leaf → List Object
trees_by depth e o leaves = if is_directory e.mode then shape_objects depth leaves else leaf_object o

entry-name : (depth : ℕ) (name : Bytes) (o : Option Leaf) (leaves : List Leaf) → (entry_by depth name o leaves).name ≡ name
entry-name depth name None leaves = refl
entry-name depth name (Some leaf) leaves = refl

pub entry_of-name : (depth : ℕ) (leaves : List Leaf) (name : Bytes) → (entry_of depth leaves name).name ≡ name
entry_of-name depth leaves name = entry-name depth name (leaf_named name leaves) (leaves_below name leaves)

map-other : (f g : Bytes → TreeEntry) (xs : List Bytes) → ((x : Bytes) → In x xs → f x ≡ g x) → map f xs ≡ map g xs
map-other f g [] h = refl
map-other f g (x ∷ xs) h = (λ k. h x (inl refl) k ∷ map-other f g xs (λ y i. h y (inr i)) k)

pub flat-other : (f g : TreeEntry → List Object) (xs : List TreeEntry) → ((x : TreeEntry) → In x xs → f x ≡ g x) → flat_map f xs ≡ flat_map g xs
flat-other f g [] h = refl
flat-other f g (x ∷ xs) h = (λ k. h x (inl refl) k ++ flat-other f g xs (λ y i. h y (inr i)) k)

pub of-names : (f : Bytes → TreeEntry) (xs : List Bytes) (e : TreeEntry) → In e (map f xs) → (x : Bytes) × In x xs × (e ≡ f x)
of-names f [] e h = absurd h
of-names f (x ∷ xs) e h = elim h [ inl q ↦ (x, inl refl, q) | inr j ↦ let o = of-names f xs e j in (o.0, inr o.1, o.2) ]

-- leaves of one name, and behind them leaves of other names
pub record OneName (n : Bytes) (leaf : Leaf) (group rest : List Leaf) : Type 0 where
  pub first : HasFirst n leaf
  pub more : Each (HasFirst n) group
  pub others : Each (NotFirst n) rest

entry_of-other : (depth : ℕ) (n : Bytes) (leaf : Leaf) (group rest : List Leaf) → OneName n leaf group rest → (m : Bytes) → n ≢ m → entry_of depth (leaf ∷ (group ++ rest)) m ≡ entry_of depth rest m
entry_of-other depth n leaf group rest one m ne =
    (λ k. entry_by depth m (leaf_named-other m n (leaf ∷ group) rest ne (one.first, one.more) k) (below-other m n (leaf ∷ group) rest ne (one.first, one.more) k))

entry_of-same : (depth : ℕ) (n : Bytes) (leaf : Leaf) (group rest : List Leaf) → OneName n leaf group rest → entry_of depth (leaf ∷ (group ++ rest)) n ≡ entry_of depth (leaf ∷ group) n
entry_of-same depth n leaf group rest one =
    (λ k. entry_by depth n (leaf_named-same n (leaf ∷ group) rest one.others k) (below-same n (leaf ∷ group) rest one.others k))

pub entries-step : (depth : ℕ) (n : Bytes) (leaf : Leaf) (group rest : List Leaf) → OneName n leaf group rest
    → entries_in depth (leaf ∷ (group ++ rest)) ≡ entry_of depth (leaf ∷ group) n ∷ entries_in depth rest
entries-step depth n leaf group rest one =
    ap (map (entry_of depth (leaf ∷ (group ++ rest)))) (first_names-group n leaf group rest one.first one.more one.others)
    ∙ (λ k. entry_of-same depth n leaf group rest one k
    ∷ map-other (entry_of depth (leaf ∷ (group ++ rest))) (entry_of depth rest) (first_names rest)
    (λ m i. entry_of-other depth n leaf group rest one m (first_names-other n rest one.others m i)) k)

trees-other : (depth : ℕ) (n : Bytes) (leaf : Leaf) (group rest : List Leaf) → OneName n leaf group rest → (e : TreeEntry) → n ≢ e.name → trees_below depth (leaf ∷ (group ++ rest)) e ≡ trees_below depth rest e
trees-other depth n leaf group rest one e ne =
    (λ k. trees_by depth e (leaf_named-other e.name n (leaf ∷ group) rest ne (one.first, one.more) k) (below-other e.name n (leaf ∷ group) rest ne (one.first, one.more) k))

trees-same : (depth : ℕ) (n : Bytes) (leaf : Leaf) (group rest : List Leaf) → OneName n leaf group rest → (e : TreeEntry) → n ≡ e.name → trees_below depth (leaf ∷ (group ++ rest)) e ≡ trees_below depth (leaf ∷ group) e
trees-same depth n leaf group rest one e is =
    let P : Bytes → Type 0 = λ m. (trees_by depth e (leaf_named m (leaf ∷ (group ++ rest))) (leaves_below m (leaf ∷ (group ++ rest))) ≡ trees_by depth e (leaf_named m (leaf ∷ group)) (leaves_below m (leaf ∷ group))) in
    subst P is (λ k. trees_by depth e (leaf_named-same n (leaf ∷ group) rest one.others k) (below-same n (leaf ∷ group) rest one.others k))

pub trees-step : (depth : ℕ) (n : Bytes) (leaf : Leaf) (group rest : List Leaf) → OneName n leaf group rest
    → trees_in depth (leaf ∷ (group ++ rest)) ≡ filter is_tree (trees_below depth (leaf ∷ group) (entry_of depth (leaf ∷ group) n)) ++ trees_in depth rest
trees-step depth n leaf group rest one =
    ap (λ (es : List TreeEntry). filter is_tree (flat_map (trees_below depth (leaf ∷ (group ++ rest))) es)) (entries-step depth n leaf group rest one)
    ∙ filter-append is_tree (trees_below depth (leaf ∷ (group ++ rest)) (entry_of depth (leaf ∷ group) n)) (flat_map (trees_below depth (leaf ∷ (group ++ rest))) (entries_in depth rest))
    ∙ (λ k. filter is_tree (trees-same depth n leaf group rest one (entry_of depth (leaf ∷ group) n) (sym (entry_of-name depth (leaf ∷ group) n)) k)
    ++ filter is_tree (flat-other (trees_below depth (leaf ∷ (group ++ rest))) (trees_below depth rest) (entries_in depth rest)
    (λ e i.
    let o = of-names (entry_of depth rest) (first_names rest) e i in
    trees-other depth n leaf group rest one e
    (λ s. first_names-other n rest one.others o.0 o.1 (s ∙ ap (λ (x : TreeEntry). x.name) o.2 ∙ entry_of-name depth rest o.0))) k))

-- ---- what is in order stays as it is

pub in_order-rising : (below : TreeEntry → TreeEntry → Bool) → ((a b : TreeEntry) → below a b ≡ true → below b a ≡ false) → (es : List TreeEntry) → rises below es ≡ true → in_order below es ≡ es
in_order-rising below asym [] h = refl
in_order-rising below asym (e ∷ []) h = refl
in_order-rising below asym (e ∷ f ∷ es) h =
    let parts = both (below e f) (rises below (f ∷ es)) h in
    ap (with_inserted below e) (in_order-rising below asym (f ∷ es) parts.1)
    ∙ ap (λ (b : Bool). if b then f ∷ with_inserted below e es else e ∷ f ∷ es) (asym e f parts.0)
