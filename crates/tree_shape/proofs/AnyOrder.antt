-- The trees of leaves don't depend on their order.
use Rattle.tree_shape.proofs.Rows.{clash}
use Rattle.text_model.proofs.Options.{none_some, some_is}
use Rattle.std.proofs.Common.{◌≡◌, ◌≢◌, ℕ, zero, suc, Bool, true, false, not, List, [], ◌∷◌, ◌++◌, map, Option, Some, None, refl, sym, ap, subst, ◌∙◌, inl, inr}
use Rattle.std.specs.Prelude.{filter, if◌then◌else◌, bytes_eq}
use Rattle.std.specs.List.{flat_map, filter_map, cons_option}
use Rattle.std.proofs.lemmas.Slice.Eq.{bytes_eq-Decides}
use Rattle.text_model.specs.Lists.{In, Each, first_of_each, in_order}
use Rattle.text_model.specs.Text.{Bytes, has_byte}
use Rattle.text_model.specs.Id.{tree, object_id}
use Rattle.text_model.specs.Path.{components}
use Rattle.git_model.specs.Tree.{Directory, is_directory, TreeEntry, tree_text, sort_name, is_entry_below}
use Rattle.git_model.specs.Object.{Object, object_of}
use Rattle.git_model.specs.Unfold.{FileRow}
use Rattle.git_model.specs.Shape.{Leaf, leaf_of, first_name_of, first_names, leaf_named, is_named, leaves_below, cut_name, leaf_object, shape_entries, shape_objects, root_of, trees_of}
use Rattle.text_model.proofs.Elements.{in_map as in-map, each_in as each-of, each_from as each-by}
use Rattle.git_model.proofs.SortLemmas.{Distinct, order-ascends, ascends-one, in-order, of-order}
use Rattle.tree_shape.specs.Orders.{Same}
use Rattle.tree_shape.specs.Shapes.{entry_of, trees_below, is_tree}
use Rattle.tree_shape.proofs.Elements.{of-filter, in-filter}
use Rattle.tree_shape.proofs.Leaves.{same, of-first_of_each, of-names, entry_by, entry_of-name}
use Rattle.tree_shape.proofs.Sorted.{same-sort}
use Rattle.tree_shape.proofs.FileSets.{plain-components}
use Rattle.tree_shape.proofs.Names.{same-components}

-- ---- the same elements

pub Same-back : {X : Type 0} (xs ys : List X) → Same xs ys → Same ys xs
Same-back xs ys s = record { to = s.from; from = s.to }

-- no two leaves have one list of names, and no name has a slash
pub record Apart (leaves : List Leaf) : Type 0 where
  pub one : (a b : Leaf) → In a leaves → In b leaves → a.names ≡ b.names → a ≡ b
  pub plain : (a : Leaf) → In a leaves → Each (λ n. has_byte 47 n ≡ false) a.names

pub Apart-same : (xs ys : List Leaf) → Same xs ys → Apart xs → Apart ys
Apart-same xs ys s a = record {
  one = λ x y i j. a.one x y (s.from x i) (s.from y j);
  plain = λ x i. a.plain x (s.from x i);
}

-- ---- the leaf of a name

named-one : (n : Bytes) (names : List Bytes) → is_named n names ≡ true → names ≡ n ∷ []
named-one n [] h = absurd (clash (sym h))
named-one n (m ∷ []) h = ap (λ (x : Bytes). x ∷ []) ((bytes_eq-Decides m n).0 h)
named-one n (m ∷ k ∷ names) h = absurd (clash (sym h))

of-named : (n : Bytes) (leaves : List Leaf) (leaf : Leaf) → leaf_named n leaves ≡ Some leaf → In leaf leaves × (leaf.names ≡ n ∷ [])
of-named n [] leaf h = absurd (none_some {x = leaf} h)
of-named n (l ∷ leaves) leaf h = by (is_named n l.names) refl h (of-named n leaves leaf)
  where
    by : (t : Bool) → is_named n l.names ≡ t → (if t then Some l else leaf_named n leaves) ≡ Some leaf → (leaf_named n leaves ≡ Some leaf → In leaf leaves × (leaf.names ≡ n ∷ [])) → In leaf (l ∷ leaves) × (leaf.names ≡ n ∷ [])
    by true e h rec = let is = some_is {x = l} {y = leaf} h in (inl (sym is), ap (λ (x : Leaf). x.names) (sym is) ∙ named-one n l.names e)
    by false e h rec = let r = rec h in (inr r.0, r.1)

not-named : (n : Bytes) (leaves : List Leaf) → leaf_named n leaves ≡ None → (leaf : Leaf) → In leaf leaves → leaf.names ≡ n ∷ [] → ⊥
not-named n [] h leaf i e = i
not-named n (l ∷ leaves) h leaf i e = by (is_named n l.names) refl h (not-named n leaves)
  where
    by : (t : Bool) → is_named n l.names ≡ t → (if t then Some l else leaf_named n leaves) ≡ None → (leaf_named n leaves ≡ None → (x : Leaf) → In x leaves → x.names ≡ n ∷ [] → ⊥) → ⊥
    by true t h rec = none_some {x = l} (sym h)
    by false t h rec = elim i [
      | inl q ↦ clash (sym (ap (is_named n) (ap (λ (x : Leaf). x.names) (sym q) ∙ e) ∙ same n) ∙ t)
      | inr j ↦ rec h leaf j e
    ]

named-same : (n : Bytes) (xs ys : List Leaf) → Same xs ys → Apart xs → leaf_named n xs ≡ leaf_named n ys
named-same n xs ys s a = by (leaf_named n xs) (leaf_named n ys) refl refl
  where
    by : (o p : Option Leaf) → leaf_named n xs ≡ o → leaf_named n ys ≡ p → o ≡ p
    by None None h k = refl
    by None (Some y) h k = let of = of-named n ys y k in absurd (not-named n xs h y (s.from y of.0) of.1)
    by (Some x) None h k = let of = of-named n xs x h in absurd (not-named n ys k x (s.to x of.0) of.1)
    by (Some x) (Some y) h k =
        let f = of-named n xs x h in
        let g = of-named n ys y k in
        ap (λ (l : Leaf). Some l) (a.one x y f.0 (s.from y g.0) (f.1 ∙ sym g.1))

-- ---- the leaves below a name

abbrev put : Bytes → Leaf → Leaf
put n leaf = record { names = n ∷ leaf.names; mode = leaf.mode; id = leaf.id; content = leaf.content }

abbrev shorter : Leaf → List Bytes → Leaf
shorter leaf names = record { names = names; mode = leaf.mode; id = leaf.id; content = leaf.content }

-- what is below a name comes from a leaf with the name in front
of-cut : (n : Bytes) (leaf x : Leaf) (names : List Bytes) → cut_name n leaf names ≡ Some x → (x ≡ shorter leaf x.names) × (names ≡ n ∷ x.names) × (x.names ≢ [])
of-cut n leaf x [] h = absurd (none_some {x = x} h)
of-cut n leaf x (m ∷ []) h = absurd (none_some {x = x} h)
of-cut n leaf x (m ∷ k ∷ names) h = by (bytes_eq m n) refl h
  where
    some_list : (l : List Bytes) → k ∷ names ≡ l → l ≢ []
    some_list [] e q = absurd cc
    some_list (a ∷ l) e q = cc

    by : (t : Bool) → bytes_eq m n ≡ t → (if t then Some (shorter leaf (k ∷ names)) else None) ≡ Some x → (x ≡ shorter leaf x.names) × (m ∷ k ∷ names ≡ n ∷ x.names) × (x.names ≢ [])
    by true t h =
        let is : shorter leaf (k ∷ names) ≡ x = some_is {x = shorter leaf (k ∷ names)} {y = x} h in
        let tail : k ∷ names ≡ x.names = ap (λ (l : Leaf). l.names) is in
        (sym is ∙ ap (shorter leaf) tail, (λ i. (bytes_eq-Decides m n).0 t i ∷ tail i), some_list x.names tail)
    by false t h = absurd (none_some {x = x} h)

pub of-below : (n : Bytes) (leaves : List Leaf) (x : Leaf) → In x (leaves_below n leaves) → In (put n x) leaves × (x.names ≢ [])
of-below n [] x i = absurd i
of-below n (l ∷ leaves) x i = by (cut_name n l l.names) refl (of-below n leaves x) i
  where
    by : (o : Option Leaf) → cut_name n l l.names ≡ o → (In x (leaves_below n leaves) → In (put n x) leaves × (x.names ≢ [])) → In x (cons_option o (leaves_below n leaves)) → In (put n x) (l ∷ leaves) × (x.names ≢ [])
    by None e rec i = let r = rec i in (inr r.0, r.1)
    by (Some y) e rec (inl q) =
        let c = of-cut n l x l.names (e ∙ ap (λ (z : Leaf). Some z) (sym q)) in
        (inl (ap (put n) c.0 ∙ (λ k. record { names = sym c.1 k; mode = l.mode; id = l.id; content = l.content })), c.2)
    by (Some y) e rec (inr j) = let r = rec j in (inr r.0, r.1)

in-below : (n : Bytes) (leaves : List Leaf) (x : Leaf) → x.names ≢ [] → In (put n x) leaves → In x (leaves_below n leaves)
in-below n [] x some i = i
in-below n (l ∷ leaves) x some (inl q) = subst (λ (o : Option Leaf). In x (cons_option o (leaves_below n leaves))) (sym (subst (λ (z : Leaf). cut_name n z z.names ≡ Some x) q (cut x some))) (inl refl)
  where
    cut : (x : Leaf) → x.names ≢ [] → cut_name n (put n x) (n ∷ x.names) ≡ Some x
    cut x some = by x.names refl
      where
        by : (names : List Bytes) → x.names ≡ names → cut_name n (put n x) (n ∷ x.names) ≡ Some x
        by [] e = absurd (some e)
        by (m ∷ names) e =
            ap (λ (l : List Bytes). cut_name n (put n x) (n ∷ l)) e ∙ ap (λ (t : Bool). if t then Some (shorter x (m ∷ names)) else None) (same n)
            ∙ ap (λ (l : List Bytes). Some (shorter x l)) (sym e)
in-below n (l ∷ leaves) x some (inr j) = by (cut_name n l l.names) (in-below n leaves x some j)
  where
    by : (o : Option Leaf) → In x (leaves_below n leaves) → In x (cons_option o (leaves_below n leaves))
    by None i = i
    by (Some y) i = inr i

pub below-same : (n : Bytes) (xs ys : List Leaf) → Same xs ys → Same (leaves_below n xs) (leaves_below n ys)
below-same n xs ys s = record {
  to = λ x i. let r = of-below n xs x i in in-below n ys x r.1 (s.to (put n x) r.0);
  from = λ x i. let r = of-below n ys x i in in-below n xs x r.1 (s.from (put n x) r.0);
}

pub below-apart : (n : Bytes) (leaves : List Leaf) → Apart leaves → Apart (leaves_below n leaves)
below-apart n leaves a = record {
  one = λ x y i j e.
      let f = of-below n leaves x i in
      let g = of-below n leaves y j in
      let is = a.one (put n x) (put n y) f.0 g.0 (ap (λ (l : List Bytes). n ∷ l) e) in
      (λ k. record { names = e k; mode = (is k).mode; id = (is k).id; content = (is k).content });
  plain = λ x i. (a.plain (put n x) (of-below n leaves x i).0).1;
}

-- ---- the first names

in-firsts : (n : Bytes) (xs : List Bytes) → In n xs → In n (first_of_each bytes_eq xs)
in-firsts n [] i = i
in-firsts n (m ∷ xs) (inl q) = inl q
in-firsts n (m ∷ xs) (inr j) = by (bytes_eq m n) refl (in-firsts n xs j)
  where
    by : (t : Bool) → bytes_eq m n ≡ t → In n (first_of_each bytes_eq xs) → In n (m ∷ filter (λ y. not (bytes_eq m y)) (first_of_each bytes_eq xs))
    by true t i = inl (sym ((bytes_eq-Decides m n).0 t))
    by false t i = inr (in-filter (λ y. not (bytes_eq m y)) n (first_of_each bytes_eq xs) i (ap not t))

firsts-distinct : (xs : List Bytes) → Distinct (λ (n : Bytes). n) (first_of_each bytes_eq xs)
firsts-distinct [] = tt
firsts-distinct (m ∷ xs) = (
  each-by (λ y. m ≢ y) (filter (λ y. not (bytes_eq m y)) (first_of_each bytes_eq xs)) (λ y i q. clash (sym (of-filter (λ y. not (bytes_eq m y)) y (first_of_each bytes_eq xs) i).1 ∙ ap not ((bytes_eq-Decides m y).1 q))),
  filtered (λ y. not (bytes_eq m y)) (first_of_each bytes_eq xs) (firsts-distinct xs),
)
  where
    filtered : (p : Bytes → Bool) (xs : List Bytes) → Distinct (λ (n : Bytes). n) xs → Distinct (λ (n : Bytes). n) (filter p xs)
    filtered p [] d = tt
    filtered p (x ∷ xs) d = by (p x) (filtered p xs d.1)
      where
        by : (t : Bool) → Distinct (λ (n : Bytes). n) (filter p xs) → Distinct (λ (n : Bytes). n) (if t then x ∷ filter p xs else filter p xs)
        by true rest = (each-by (λ y. x ≢ y) (filter p xs) (λ y i. each-of (λ y. x ≢ y) xs y d.0 (of-filter p y xs i).0), rest)
        by false rest = rest

pub of-first : (n : Bytes) (leaves : List Leaf) → In n (filter_map first_name_of leaves) → (leaf : Leaf) × In leaf leaves × (first_name_of leaf ≡ Some n)
of-first n [] i = absurd i
of-first n (l ∷ leaves) i = by (first_name_of l) refl (of-first n leaves) i
  where
    by : (o : Option Bytes) → first_name_of l ≡ o → (In n (filter_map first_name_of leaves) → (leaf : Leaf) × In leaf leaves × (first_name_of leaf ≡ Some n)) → In n (cons_option o (filter_map first_name_of leaves))
        → (leaf : Leaf) × In leaf (l ∷ leaves) × (first_name_of leaf ≡ Some n)
    by None e rec i = let r = rec i in (r.0, inr r.1, r.2)
    by (Some m) e rec (inl q) = (l, inl refl, e ∙ ap (λ (x : Bytes). Some x) (sym q))
    by (Some m) e rec (inr j) = let r = rec j in (r.0, inr r.1, r.2)

in-first : (n : Bytes) (leaves : List Leaf) (leaf : Leaf) → In leaf leaves → first_name_of leaf ≡ Some n → In n (filter_map first_name_of leaves)
in-first n [] leaf i e = i
in-first n (l ∷ leaves) leaf (inl q) e = subst (λ (o : Option Bytes). In n (cons_option o (filter_map first_name_of leaves))) (sym (ap first_name_of (sym q) ∙ e)) (inl refl)
in-first n (l ∷ leaves) leaf (inr j) e = by (first_name_of l) (in-first n leaves leaf j e)
  where
    by : (o : Option Bytes) → In n (filter_map first_name_of leaves) → In n (cons_option o (filter_map first_name_of leaves))
    by None i = i
    by (Some m) i = inr i

names-move : (n : Bytes) (xs ys : List Leaf) → Same xs ys → In n (first_names xs) → In n (first_names ys)
names-move n xs ys s i =
    let r = of-first n xs (of-first_of_each (filter_map first_name_of xs) n i) in
    in-firsts n (filter_map first_name_of ys) (in-first n ys r.0 (s.to r.0 r.1) r.2)

plain-name : (leaves : List Leaf) (n : Bytes) → Apart leaves → In n (first_names leaves) → has_byte 47 n ≡ false
plain-name leaves n a i =
    let r = of-first n leaves (of-first_of_each (filter_map first_name_of leaves) n i) in
    head r.0.names r.2 (a.plain r.0 r.1)
  where
    head : (names : List Bytes) → (elim names as (λ _. Option Bytes) [ [] ↦ None | name ∷ more ↦ Some name ]) ≡ Some n → Each (λ n. has_byte 47 n ≡ false) names → has_byte 47 n ≡ false
    head [] e h = absurd (none_some {x = n} e)
    head (m ∷ names) e h = ap (has_byte 47) (sym (some_is {x = m} {y = n} e)) ∙ h.0

-- ---- entries and objects

abbrev key : TreeEntry → Bytes
key e = sort_name e.mode e.name

entries-distinct : (depth : ℕ) (leaves : List Leaf) → Apart leaves → (ns : List Bytes) → ((n : Bytes) → In n ns → has_byte 47 n ≡ false) → Distinct (λ (n : Bytes). n) ns → Distinct key (map (entry_of depth leaves) ns)
entries-distinct depth leaves a [] plain d = tt
entries-distinct depth leaves a (n ∷ ns) plain d = (
  each-by (λ f. key (entry_of depth leaves n) ≢ key f) (map (entry_of depth leaves) ns) (λ f i q.
      let of = of-names (entry_of depth leaves) ns f i in
      let is : f.name ≡ of.0 = ap (λ (x : TreeEntry). x.name) of.2 ∙ entry_of-name depth leaves of.0 in
      each-of (λ m. n ≢ m) ns of.0 d.0 of.1 (sym (entry_of-name depth leaves n)
      ∙ same-sort (entry_of depth leaves n) f (ap (has_byte 47) (entry_of-name depth leaves n) ∙ plain n (inl refl)) (ap (has_byte 47) is ∙ plain of.0 (inr of.1)) q ∙ is)),
  entries-distinct depth leaves a ns (λ m i. plain m (inr i)) d.1,
)

pub record Alike (depth : ℕ) (xs ys : List Leaf) : Type 0 where
  pub entries : shape_entries depth xs ≡ shape_entries depth ys
  pub objects : shape_objects depth xs ≡ shape_objects depth ys

entry-same : (depth : ℕ) (xs ys : List Leaf) → Same xs ys → Apart xs → ((us vs : List Leaf) → Same us vs → Apart us → Alike depth us vs) → (n : Bytes) → entry_of depth xs n ≡ entry_of depth ys n
entry-same depth xs ys s a rec n =
    ap (λ (o : Option Leaf). entry_by depth n o (leaves_below n xs)) (named-same n xs ys s a) ∙ by (leaf_named n ys)
  where
    by : (o : Option Leaf) → entry_by depth n o (leaves_below n xs) ≡ entry_by depth n o (leaves_below n ys)
    by (Some l) = refl
    by None = ap (λ (es : List TreeEntry). record { mode = Directory; name = n; id = object_id tree (tree_text es) }) (rec (leaves_below n xs) (leaves_below n ys) (below-same n xs ys s) (below-apart n xs a)).entries

entries-alike : (depth : ℕ) (xs ys : List Leaf) → Same xs ys → Apart xs → ((us vs : List Leaf) → Same us vs → Apart us → Alike depth us vs) → shape_entries (suc depth) xs ≡ shape_entries (suc depth) ys
unfolding shape_entries
entries-alike depth xs ys s a rec =
    ascends-one key (in_order is_entry_below (map (entry_of depth xs) (first_names xs))) (in_order is_entry_below (map (entry_of depth ys) (first_names ys)))
    (order-ascends key (map (entry_of depth xs) (first_names xs)) (entries-distinct depth xs a (first_names xs) (λ n i. plain-name xs n a i) (firsts-distinct (filter_map first_name_of xs))))
    (order-ascends key (map (entry_of depth ys) (first_names ys)) (entries-distinct depth ys b (first_names ys) (λ n i. plain-name ys n b i) (firsts-distinct (filter_map first_name_of ys))))
    (λ e i. move xs ys s (λ n. entry-same depth xs ys s a rec n) e i)
    (λ e i. move ys xs (Same-back xs ys s) (λ n. sym (entry-same depth xs ys s a rec n)) e i)
  where
    b : Apart ys
    b = Apart-same xs ys s a

    move : (us vs : List Leaf) → Same us vs → ((n : Bytes) → entry_of depth us n ≡ entry_of depth vs n) → (e : TreeEntry) → In e (in_order is_entry_below (map (entry_of depth us) (first_names us)))
        → In e (in_order is_entry_below (map (entry_of depth vs) (first_names vs)))
    move us vs t is e i =
        let of = of-names (entry_of depth us) (first_names us) e (of-order is_entry_below e (map (entry_of depth us) (first_names us)) i) in
        in-order is_entry_below e (map (entry_of depth vs) (first_names vs))
        (subst (λ (x : TreeEntry). In x (map (entry_of depth vs) (first_names vs))) (sym (of.2 ∙ is of.0)) (in-map (entry_of depth vs) of.0 (first_names vs) (names-move of.0 us vs t of.1)))

flat-same : (f g : TreeEntry → List Object) (es : List TreeEntry) → ((e : TreeEntry) → f e ≡ g e) → flat_map f es ≡ flat_map g es
flat-same f g [] h = refl
flat-same f g (e ∷ es) h = (λ k. h e k ++ flat-same f g es h k)

trees-same : (depth : ℕ) (xs ys : List Leaf) → Same xs ys → Apart xs → ((us vs : List Leaf) → Same us vs → Apart us → Alike depth us vs) → (e : TreeEntry) → trees_below depth xs e ≡ trees_below depth ys e
trees-same depth xs ys s a rec e = by (is_directory e.mode)
  where
    by : (t : Bool) → (if t then shape_objects depth (leaves_below e.name xs) else leaf_object (leaf_named e.name xs)) ≡ (if t then shape_objects depth (leaves_below e.name ys) else leaf_object (leaf_named e.name ys))
    by true = (rec (leaves_below e.name xs) (leaves_below e.name ys) (below-same e.name xs ys s) (below-apart e.name xs a)).objects
    by false = ap leaf_object (named-same e.name xs ys s a)

objects-alike : (depth : ℕ) (xs ys : List Leaf) → Same xs ys → Apart xs → ((us vs : List Leaf) → Same us vs → Apart us → Alike depth us vs) → shape_objects (suc depth) xs ≡ shape_objects (suc depth) ys
unfolding shape_objects
objects-alike depth xs ys s a rec =
    ap (λ (es : List TreeEntry). flat_map (trees_below depth xs) es ++ object_of tree (tree_text es) ∷ []) (entries-alike depth xs ys s a rec)
    ∙ ap (λ (os : List Object). os ++ object_of tree (tree_text (shape_entries (suc depth) ys)) ∷ []) (flat-same (trees_below depth xs) (trees_below depth ys) (shape_entries (suc depth) ys) (λ e. trees-same depth xs ys s a rec e))

pub alike : (depth : ℕ) (xs ys : List Leaf) → Same xs ys → Apart xs → Alike depth xs ys
unfolding shape_entries shape_objects
alike zero xs ys s a = record { entries = refl; objects = refl }
alike (suc depth) xs ys s a = record {
  entries = entries-alike depth xs ys s a (λ us vs t b. alike depth us vs t b);
  objects = objects-alike depth xs ys s a (λ us vs t b. alike depth us vs t b);
}

-- ---- rows

-- no two rows have one path
abbrev pub OnePath : List FileRow → Type 0
OnePath rows = (a b : FileRow) → In a rows → In b rows → a.path ≡ b.path → a ≡ b

of-leaves : (rows : List FileRow) (leaf : Leaf) → In leaf (map leaf_of rows) → (row : FileRow) × In row rows × (leaf ≡ leaf_of row)
of-leaves [] leaf i = absurd i
of-leaves (r ∷ rows) leaf (inl q) = (r, inl refl, q)
of-leaves (r ∷ rows) leaf (inr j) = let o = of-leaves rows leaf j in (o.0, inr o.1, o.2)

pub leaves-apart : (rows : List FileRow) → OnePath rows → Apart (map leaf_of rows)
leaves-apart rows one = record {
  one = λ a b i j e.
      let x = of-leaves rows a i in
      let y = of-leaves rows b j in
      let same : components x.0.path ≡ components y.0.path = sym (ap (λ (l : Leaf). l.names) x.2) ∙ e ∙ ap (λ (l : Leaf). l.names) y.2 in
      x.2 ∙ ap leaf_of (one x.0 y.0 x.1 y.1 (same-components x.0.path y.0.path same)) ∙ sym y.2;
  plain = λ a i. let x = of-leaves rows a i in subst (λ (l : Leaf). Each (λ n. has_byte 47 n ≡ false) l.names) (sym x.2) (plain-components x.0.path);
}

pub leaves-same : (xs ys : List FileRow) → Same xs ys → Same (map leaf_of xs) (map leaf_of ys)
leaves-same xs ys s = record {
  to = λ a i. let x = of-leaves xs a i in subst (λ (l : Leaf). In l (map leaf_of ys)) (sym x.2) (in-map leaf_of x.0 ys (s.to x.0 x.1));
  from = λ a i. let x = of-leaves ys a i in subst (λ (l : Leaf). In l (map leaf_of xs)) (sym x.2) (in-map leaf_of x.0 xs (s.from x.0 x.1));
}

-- the tree of rows, and all their trees, don't depend on their order
pub root-any_order : (xs ys : List FileRow) → Same xs ys → OnePath xs → root_of xs ≡ root_of ys
unfolding root_of
root-any_order xs ys s one = ap (λ (es : List TreeEntry). object_id tree (tree_text es)) (alike 257 (map leaf_of xs) (map leaf_of ys) (leaves-same xs ys s) (leaves-apart xs one)).entries

pub trees-any_order : (xs ys : List FileRow) → Same xs ys → OnePath xs → trees_of xs ≡ trees_of ys
unfolding trees_of
trees-any_order xs ys s one = ap (filter is_tree) (alike 257 (map leaf_of xs) (map leaf_of ys) (leaves-same xs ys s) (leaves-apart xs one)).objects

-- ---- rows with contents

abbrev pub leaf_with : (FileRow → Bytes) → FileRow → Leaf
leaf_with content row = record { names = components row.path; mode = row.mode; id = row.id; content = content row }

of-with : (content : FileRow → Bytes) (rows : List FileRow) (leaf : Leaf) → In leaf (map (leaf_with content) rows) → (row : FileRow) × In row rows × (leaf ≡ leaf_with content row)
of-with content [] leaf i = absurd i
of-with content (r ∷ rows) leaf (inl q) = (r, inl refl, q)
of-with content (r ∷ rows) leaf (inr j) = let o = of-with content rows leaf j in (o.0, inr o.1, o.2)

with-same : (content : FileRow → Bytes) (xs ys : List FileRow) → ((x : FileRow) → In x xs → In x ys) → (a : Leaf) → In a (map (leaf_with content) xs) → In a (map (leaf_with content) ys)
with-same content xs ys to a i = let x = of-with content xs a i in subst (λ (l : Leaf). In l (map (leaf_with content) ys)) (sym x.2) (in-map (leaf_with content) x.0 ys (to x.0 x.1))

-- all objects of rows don't depend on their order
pub objects-any_order : (content : FileRow → Bytes) (xs ys : List FileRow) → Same xs ys → OnePath xs → shape_objects 257 (map (leaf_with content) xs) ≡ shape_objects 257 (map (leaf_with content) ys)
objects-any_order content xs ys s one = (alike 257 (map (leaf_with content) xs) (map (leaf_with content) ys) same apart).objects
  where
    same : Same (map (leaf_with content) xs) (map (leaf_with content) ys)
    same = record { to = with-same content xs ys s.to; from = with-same content ys xs s.from }

    apart : Apart (map (leaf_with content) xs)
    apart = record {
      one = λ a b i j e.
          let x = of-with content xs a i in
          let y = of-with content xs b j in
          let names : components x.0.path ≡ components y.0.path = sym (ap (λ (l : Leaf). l.names) x.2) ∙ e ∙ ap (λ (l : Leaf). l.names) y.2 in
          x.2 ∙ ap (leaf_with content) (one x.0 y.0 x.1 y.1 (same-components x.0.path y.0.path names)) ∙ sym y.2;
      plain = λ a i. let x = of-with content xs a i in subst (λ (l : Leaf). Each (λ n. has_byte 47 n ≡ false) l.names) (sym x.2) (plain-components x.0.path);
    }
