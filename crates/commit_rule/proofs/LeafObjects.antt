-- The blob of each file is one of the objects of the rows.
use Rattle.std.proofs.Common.{◌≡◌, ◌≢◌, ◌≤◌, ℕ, zero, suc, Bool, true, false, true≢false, List, [], ◌∷◌, map, length, drop, Option, Some, None, refl, sym, ap, subst, ◌∙◌, inl, inr, arith}
use Rattle.std.specs.Prelude.{filter, not, if◌then◌else◌, bytes_eq}
use Rattle.std.specs.List.{flat_map, filter_map, cons_option}
use Rattle.std.proofs.lemmas.Slice.Eq.{bytes_eq-Decides}
use Rattle.text_model.specs.Lists.{In, first_of_each, in_order, with_inserted}
use Rattle.text_model.specs.Text.{Bytes}
use Rattle.text_model.specs.Id.{blob, tree}
use Rattle.text_model.proofs.Elements.{in_left, in_map}
use Rattle.git_model.specs.Tree.{Mode, File, GroupFile, Exec, Link, Directory, Gitlink, is_directory, is_blob_mode, TreeEntry, tree_text, is_entry_below}
use Rattle.git_model.specs.Object.{Object, object_of}
use Rattle.git_model.specs.Shape.{Leaf, first_name_of, first_names, cut_name, leaves_below, is_named, leaf_named, leaf_object, shape_entries, shape_objects}
use Rattle.tree_shape.specs.Shapes.{entry_of, trees_below}
use Rattle.tree_shape.proofs.Elements.{in-flat, in-filter}
use Rattle.tree_shape.proofs.Leaves.{entry_by, same}

-- ---- elements

in-inserted : (below : TreeEntry → TreeEntry → Bool) (x y : TreeEntry) (ys : List TreeEntry) → In x (y ∷ ys) → In x (with_inserted below y ys)
in-inserted below x y [] i = i
in-inserted below x y (z ∷ ys) i = by (below z y) i (λ j. in-inserted below x y ys j)
  where
    by : (t : Bool) → In x (y ∷ z ∷ ys) → (In x (y ∷ ys) → In x (with_inserted below y ys)) → In x (if t then z ∷ with_inserted below y ys else y ∷ z ∷ ys)
    by true i rec = elim i [ inl q ↦ inr (rec (inl q)) | inr j ↦ elim j [ inl q ↦ inl q | inr k ↦ inr (rec (inr k)) ] ]
    by false i rec = i

in-order : (below : TreeEntry → TreeEntry → Bool) (x : TreeEntry) (xs : List TreeEntry) → In x xs → In x (in_order below xs)
in-order below x [] i = i
in-order below x (y ∷ xs) i = in-inserted below x y (in_order below xs) (elim i [ inl q ↦ inl q | inr j ↦ inr (in-order below x xs j) ])

in-first : (x : Bytes) (xs : List Bytes) → In x xs → In x (first_of_each bytes_eq xs)
in-first x [] i = i
in-first x (y ∷ xs) i = elim i [ inl q ↦ inl q | inr j ↦ by (bytes_eq y x) refl (in-first x xs j) ]
  where
    by : (t : Bool) → bytes_eq y x ≡ t → In x (first_of_each bytes_eq xs) → In x (y ∷ filter (λ z. not (bytes_eq y z)) (first_of_each bytes_eq xs))
    by true e k = inl (sym ((bytes_eq-Decides y x).0 e))
    by false e k = inr (in-filter (λ z. not (bytes_eq y z)) x (first_of_each bytes_eq xs) k (ap not e))

in-names : (leaf : Leaf) (leaves : List Leaf) (n : Bytes) → In leaf leaves → first_name_of leaf ≡ Some n → In n (filter_map first_name_of leaves)
in-names leaf [] n i e = i
in-names leaf (x ∷ leaves) n i e = elim i [
  | inl q ↦ subst (λ (o : Option Bytes). In n (cons_option o (filter_map first_name_of leaves))) (sym e ∙ ap first_name_of q) (inl refl)
  | inr j ↦ by (first_name_of x) (in-names leaf leaves n j e)
]
  where
    by : (o : Option Bytes) → In n (filter_map first_name_of leaves) → In n (cons_option o (filter_map first_name_of leaves))
    by None k = k
    by (Some m) k = inr k

-- ---- names that begin with others

-- the first names begin the second
abbrev pub Begins : List Bytes → List Bytes → Type 0
Begins [] ys = Unit {0}
Begins (x ∷ xs) [] = ⊥
Begins (x ∷ xs) (y ∷ ys) = (x ≡ y) × Begins xs ys

-- leaves of which none begins with another's names
pub record AreApart (leaves : List Leaf) : Type 0 where
  pub apart : (a b : Leaf) → In a leaves → In b leaves → Begins a.names b.names → a ≡ b

named-one : (n : Bytes) (names : List Bytes) → is_named n names ≡ true → names ≡ n ∷ []
named-one n [] h = absurd (true≢false (sym h))
named-one n (first ∷ []) h = ap (λ (x : Bytes). x ∷ []) ((bytes_eq-Decides first n).0 h)
named-one n (first ∷ next ∷ names) h = absurd (true≢false (sym h))

find-one : (n : Bytes) (a : Leaf) (leaves : List Leaf) → ((b : Leaf) → In b leaves → is_named n b.names ≡ true → b ≡ a) → is_named n a.names ≡ true → In a leaves → leaf_named n leaves ≡ Some a
find-one n a [] all is i = absurd i
find-one n a (x ∷ leaves) all is i = by (is_named n x.names) refl (λ j. find-one n a leaves (λ b k. all b (inr k)) is j)
  where
    by : (t : Bool) → is_named n x.names ≡ t → (In a leaves → leaf_named n leaves ≡ Some a) → (if t then Some x else leaf_named n leaves) ≡ Some a
    by true e rec = ap Some (all x (inl refl) e)
    by false e rec = elim i [
      | inl q ↦ absurd (true≢false (sym is ∙ ap (λ (l : Leaf). is_named n l.names) q ∙ e))
      | inr j ↦ rec j
    ]

find-no : (n : Bytes) (leaves : List Leaf) → ((b : Leaf) → In b leaves → is_named n b.names ≡ true → ⊥) → leaf_named n leaves ≡ None
find-no n [] none = refl
find-no n (x ∷ leaves) none = by (is_named n x.names) refl (find-no n leaves (λ b i. none b (inr i)))
  where
    by : (t : Bool) → is_named n x.names ≡ t → leaf_named n leaves ≡ None → (if t then Some x else leaf_named n leaves) ≡ None
    by true e rec = absurd (none x (inl refl) e)
    by false e rec = rec

-- ---- what lies below a name

abbrev behind : Leaf → Leaf
behind leaf = record { names = drop 1 leaf.names; mode = leaf.mode; id = leaf.id; content = leaf.content }

-- a file below a name, and the file that it was cut from
record IsCut (n : Bytes) (leaves : List Leaf) (x : Leaf) : Type 0 where
  whole : Leaf
  there : In whole leaves
  names : whole.names ≡ n ∷ x.names
  is : x ≡ behind whole

of-below : (n : Bytes) (leaves : List Leaf) (x : Leaf) → In x (leaves_below n leaves) → IsCut n leaves x
of-below n [] x i = absurd i
of-below n (leaf ∷ leaves) x i = by leaf.names refl (λ j. rest (of-below n leaves x j)) i
  where
    rest : IsCut n leaves x → IsCut n (leaf ∷ leaves) x
    rest c = record { whole = c.whole; there = inr c.there; names = c.names; is = c.is }

    by : (names : List Bytes) → leaf.names ≡ names → (In x (leaves_below n leaves) → IsCut n (leaf ∷ leaves) x) → In x (cons_option (cut_name n leaf names) (leaves_below n leaves)) → IsCut n (leaf ∷ leaves) x
    by [] e rec i = rec i
    by (first ∷ []) e rec i = rec i
    by (first ∷ next ∷ names) e rec i = cases (bytes_eq first n) refl i
      where
        cases : (t : Bool) → bytes_eq first n ≡ t → In x (cons_option (if t then Some (record { names = next ∷ names; mode = leaf.mode; id = leaf.id; content = leaf.content }) else None) (leaves_below n leaves)) → IsCut n (leaf ∷ leaves) x
        cases true t i = elim i [
          | inl q ↦ record {
            whole = leaf;
            there = inl refl;
            names = e ∙ (λ k. (bytes_eq-Decides first n).0 t k ∷ (sym (ap (λ (l : Leaf). l.names) q)) k);
            is = q ∙ (λ k. record { names = (sym (ap (drop 1) e)) k; mode = leaf.mode; id = leaf.id; content = leaf.content });
          }
          | inr j ↦ rec j
        ]
        cases false t i = rec i

in-below : (n m : Bytes) (r : List Bytes) (a : Leaf) (leaves : List Leaf) → In a leaves → a.names ≡ n ∷ m ∷ r → In (record { names = m ∷ r; mode = a.mode; id = a.id; content = a.content }) (leaves_below n leaves)
in-below n m r a [] i e = absurd i
in-below n m r a (x ∷ leaves) i e = elim i [
  | inl q ↦ subst (λ (o : Option Leaf). In (record { names = m ∷ r; mode = a.mode; id = a.id; content = a.content }) (cons_option o (leaves_below n leaves)))
      (sym (ap (λ (l : Leaf). cut_name n l l.names) (sym q) ∙ ap (cut_name n a) e ∙ ap (λ (t : Bool). if t then Some (record { names = m ∷ r; mode = a.mode; id = a.id; content = a.content }) else None) (same n))) (inl refl)
  | inr j ↦ by (cut_name n x x.names) (in-below n m r a leaves j e)
]
  where
    by : (o : Option Leaf) → In (record { names = m ∷ r; mode = a.mode; id = a.id; content = a.content }) (leaves_below n leaves) → In (record { names = m ∷ r; mode = a.mode; id = a.id; content = a.content }) (cons_option o (leaves_below n leaves))
    by None k = k
    by (Some y) k = inr k

begins-more : (n : Bytes) (xs ys us vs : List Bytes) → us ≡ n ∷ xs → vs ≡ n ∷ ys → Begins xs ys → Begins us vs
begins-more n xs ys us vs e f h = subst (Begins us) (sym f) (subst (λ (l : List Bytes). Begins l (n ∷ ys)) (sym e) (refl, h))

apart-below : (n : Bytes) (leaves : List Leaf) → AreApart leaves → AreApart (leaves_below n leaves)
apart-below n leaves h = record {
  apart = λ a b i j begins.
      let x = of-below n leaves a i in
      let y = of-below n leaves b j in
      x.is ∙ ap behind (h.apart x.whole y.whole x.there y.there (begins-more n a.names b.names (x.whole).names (y.whole).names x.names y.names begins)) ∙ sym y.is;
}

-- ---- the blobs

abbrev pub blob_of_leaf : Leaf → Object
blob_of_leaf leaf = record { id = leaf.id; kind = blob; content = leaf.content }

no-directory : (m : Mode) → is_blob_mode m ≡ true → is_directory m ≡ false
no-directory File h = refl
no-directory GroupFile h = refl
no-directory Exec h = refl
no-directory Link h = refl
no-directory Directory h = absurd (true≢false (sym h))
no-directory Gitlink h = refl

in-entries : (depth : ℕ) (leaves : List Leaf) (a : Leaf) (n : Bytes) → In a leaves → first_name_of a ≡ Some n → In (entry_of depth leaves n) (shape_entries (suc depth) leaves)
unfolding shape_entries
in-entries depth leaves a n i e =
    in-order is_entry_below (entry_of depth leaves n) (map (entry_of depth leaves) (first_names leaves)) (in_map (entry_of depth leaves) n (first_names leaves) (in-first n (filter_map first_name_of leaves) (in-names a leaves n i e)))

in-objects : (depth : ℕ) (leaves : List Leaf) (e : TreeEntry) (o : Object) → In e (shape_entries (suc depth) leaves) → In o (trees_below depth leaves e) → In o (shape_objects (suc depth) leaves)
unfolding shape_objects
in-objects depth leaves e o i j =
    in_left o (flat_map (trees_below depth leaves) (shape_entries (suc depth) leaves)) (object_of tree (tree_text (shape_entries (suc depth) leaves)) ∷ []) (in-flat (trees_below depth leaves) (shape_entries (suc depth) leaves) e o i j)

pub blob-there : (depth : ℕ) (leaves : List Leaf) → AreApart leaves → (a : Leaf) → is_blob_mode a.mode ≡ true → In a leaves → (names : List Bytes) → a.names ≡ names → names ≢ [] → length names ≤ depth → In (blob_of_leaf a) (shape_objects depth leaves)
blob-there depth leaves h a file i [] e some short = absurd (some refl)
blob-there zero leaves h a file i (n ∷ names) e some short = absurd (omega (arith, short))
blob-there (suc depth) leaves h a file i (n ∷ []) e some short =
    in-objects depth leaves (entry_of depth leaves n) (blob_of_leaf a) (in-entries depth leaves a n i (ap first_of e)) (
    subst (λ (o : Option Leaf). In (blob_of_leaf a) (trees_below depth leaves (entry_by depth n o (leaves_below n leaves)))) (sym found)
    (subst (λ (t : Bool). In (blob_of_leaf a) (if t then shape_objects depth (leaves_below n leaves) else leaf_object (leaf_named n leaves))) (sym (no-directory a.mode file))
    (subst (λ (o : Option Leaf). In (blob_of_leaf a) (leaf_object o)) (sym found)
    (subst (λ (t : Bool). In (blob_of_leaf a) (if t then blob_of_leaf a ∷ [] else [])) (sym file) (inl refl)))))
  where
    first_of : List Bytes → Option Bytes
    first_of [] = None
    first_of (x ∷ xs) = Some x

    named : is_named n a.names ≡ true
    named = ap (is_named n) e ∙ same n

    found : leaf_named n leaves ≡ Some a
    found = find-one n a leaves (λ b j is. h.apart b a j i (subst (Begins b.names) (sym e) (subst (λ (l : List Bytes). Begins l (n ∷ [])) (sym (named-one n b.names is)) (refl, tt)))) named i
blob-there (suc depth) leaves h a file i (n ∷ m ∷ r) e some short =
    in-objects depth leaves (entry_of depth leaves n) (blob_of_leaf a) (in-entries depth leaves a n i (ap first_of e)) (
    subst (λ (o : Option Leaf). In (blob_of_leaf a) (trees_below depth leaves (entry_by depth n o (leaves_below n leaves)))) (sym none)
    (blob-there depth (leaves_below n leaves) (apart-below n leaves h) (record { names = m ∷ r; mode = a.mode; id = a.id; content = a.content }) file (in-below n m r a leaves i e) (m ∷ r) refl more (omega (arith, short))))
  where
    first_of : List Bytes → Option Bytes
    first_of [] = None
    first_of (x ∷ xs) = Some x

    more : m ∷ r ≢ []
    more q = cc

    longer : n ∷ m ∷ r ≡ n ∷ [] → ⊥
    longer q = cc

    none : leaf_named n leaves ≡ None
    none = find-no n leaves (λ b j is.
        let one = named-one n b.names is in
        let all : b ≡ a = h.apart b a j i (subst (Begins b.names) (sym e) (subst (λ (l : List Bytes). Begins l (n ∷ m ∷ r)) (sym one) (refl, tt))) in
        longer (sym e ∙ ap (λ (l : Leaf). l.names) (sym all) ∙ one))
