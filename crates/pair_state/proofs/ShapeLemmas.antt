-- The objects of files: their trees, which are the same whatever the files contain, and the blob of each file.
use Rattle.std.proofs.Common.{◌≡◌, ◌≢◌, ◌≤◌, ◌+◌, ◌⊎◌, ℕ, zero, suc, Bool, true, false, true≢false, not, arith, List, [], ◌∷◌, ◌++◌, length, map, Option, Some, None, refl, sym, ap, subst, ◌∙◌, append-nil, inl, inr}
use Rattle.std.specs.Prelude.{bytes_eq, filter, if◌then◌else◌}
use Rattle.std.specs.List.{flat_map, filter_map, cons_option, find}
use Rattle.std.proofs.lemmas.Slice.Eq.{bytes_eq-Decides}
use Rattle.text_model.specs.Lists.{In, first_of_each, with_inserted}
use Rattle.text_model.specs.Text.{Bytes}
use Rattle.text_model.specs.Id.{Id, blob, tree, object_id}
use Rattle.git_model.specs.Tree.{Mode, Directory, is_directory, is_blob_mode, TreeEntry, tree_text, is_entry_below}
use Rattle.git_model.specs.Object.{Object, object_of}
use Rattle.git_model.specs.Shape.{Leaf, first_name_of, first_names, cut_name, leaves_below, is_named, leaf_named, leaf_object, shape_entries, shape_objects}
use Rattle.git_model.proofs.SortLemmas.{in-order}
use Rattle.text_model.proofs.Options.{none_some, some_is}
use Rattle.text_model.proofs.Elements.{in_left, in_right, in_map}
use Rattle.git_view.proofs.Shapes.{filled, below-filled, entries-filled}
use Rattle.tree_shape.specs.Shapes.{entry_of, is_tree, trees_below}
use Rattle.tree_shape.proofs.Elements.{in-append, in-flat, of-flat, in-filter}
use Rattle.tree_shape.proofs.Leaves.{same}
use Rattle.tree_shape.proofs.VisitLemmas.{no-dir}

abbrev pub leaf_blob : Leaf → Object
leaf_blob leaf = record { id = leaf.id; kind = blob; content = leaf.content }

-- ---- elements of lists that were made

of-filter_map : {X Y : Type 0} (f : X → Option Y) (xs : List X) (y : Y) → In y (filter_map f xs) → (x : X) × In x xs × (f x ≡ Some y)
of-filter_map f [] y i = absurd i
of-filter_map {X = X} {Y = Y} f (x ∷ xs) y i = by (f x) refl i (of-filter_map f xs y)
  where
    by : (o : Option Y) → f x ≡ o → In y (cons_option o (filter_map f xs)) → (In y (filter_map f xs) → (z : X) × In z xs × (f z ≡ Some y)) → (z : X) × In z (x ∷ xs) × (f z ≡ Some y)
    by None e i later = let l = later i in (l.0, inr l.1, l.2)
    by (Some z) e (inl q) later = (x, inl refl, e ∙ ap (λ (w : Y). Some w) (sym q))
    by (Some z) e (inr j) later = let l = later j in (l.0, inr l.1, l.2)

in-filter_map : {X Y : Type 0} (f : X → Option Y) (xs : List X) (x : X) (y : Y) → In x xs → f x ≡ Some y → In y (filter_map f xs)
in-filter_map f [] x y i e = absurd i
in-filter_map {Y = Y} f (z ∷ xs) x y (inl q) e = subst (λ (o : Option Y). In y (cons_option o (filter_map f xs))) (sym (ap f (sym q) ∙ e)) (inl refl)
in-filter_map {Y = Y} f (z ∷ xs) x y (inr j) e = by (f z) (in-filter_map f xs x y j e)
  where
    by : (o : Option Y) → In y (filter_map f xs) → In y (cons_option o (filter_map f xs))
    by None k = k
    by (Some w) k = inr k

in-inserted : {X : Type 0} (below : X → X → Bool) (x y : X) (xs : List X) → (x ≡ y) ⊎ In x xs → In x (with_inserted below y xs)
in-inserted below x y [] (inl q) = inl q
in-inserted below x y [] (inr j) = absurd j
in-inserted {X = X} below x y (z ∷ xs) i = by (below z y) i (in-inserted below x y xs)
  where
    by : (t : Bool) → (x ≡ y) ⊎ In x (z ∷ xs) → ((x ≡ y) ⊎ In x xs → In x (with_inserted below y xs)) → In x (if t then z ∷ with_inserted below y xs else y ∷ z ∷ xs)
    by false (inl q) later = inl q
    by false (inr j) later = inr j
    by true (inl q) later = inr (later (inl q))
    by true (inr (inl q)) later = inl q
    by true (inr (inr j)) later = inr (later (inr j))

in-first : (x : Bytes) (xs : List Bytes) → In x xs → In x (first_of_each bytes_eq xs)
in-first x [] i = absurd i
in-first x (y ∷ xs) (inl q) = inl q
in-first x (y ∷ xs) (inr j) = by (bytes_eq y x) refl (in-first x xs j)
  where
    by : (t : Bool) → bytes_eq y x ≡ t → In x (first_of_each bytes_eq xs) → In x (y ∷ filter (λ z. not (bytes_eq y z)) (first_of_each bytes_eq xs))
    by true t k = inl (sym ((bytes_eq-Decides y x).0 t))
    by false t k = inr (in-filter (λ z. not (bytes_eq y z)) x (first_of_each bytes_eq xs) k (ap not t))

of-find : (test : Leaf → Bool) (leaves : List Leaf) (leaf : Leaf) → find test leaves ≡ Some leaf → In leaf leaves × (test leaf ≡ true)
of-find test [] leaf e = absurd (none_some {x = leaf} e)
of-find test (x ∷ leaves) leaf e = by (test x) refl e (of-find test leaves leaf)
  where
    by : (t : Bool) → test x ≡ t → (if t then Some x else find test leaves) ≡ Some leaf → (find test leaves ≡ Some leaf → In leaf leaves × (test leaf ≡ true)) → In leaf (x ∷ leaves) × (test leaf ≡ true)
    by true t is later = let q = some_is {x = x} {y = leaf} is in (inl (sym q), sym (ap test q) ∙ t)
    by false t is later = let l = later is in (inr l.0, l.1)

find-none : (test : Leaf → Bool) (leaves : List Leaf) (leaf : Leaf) → find test leaves ≡ None → In leaf leaves → test leaf ≡ true → ⊥
find-none test [] leaf e i t = i
find-none test (x ∷ leaves) leaf e i t = by (test x) refl e i (find-none test leaves leaf)
  where
    by : (u : Bool) → test x ≡ u → (if u then Some x else find test leaves) ≡ None → In leaf (x ∷ leaves) → (find test leaves ≡ None → In leaf leaves → test leaf ≡ true → ⊥) → ⊥
    by true u is i later = none_some {x = x} (sym is)
    by false u is (inl q) later = true≢false (sym t ∙ ap test q ∙ u)
    by false u is (inr j) later = later is j t

-- ---- what a name is cut off

record Cut (name : Bytes) (leaf : Leaf) (names : List Bytes) (below : Leaf) : Type 0 where
  names_are : names ≡ name ∷ below.names
  some : below.names ≢ []
  mode : below.mode ≡ leaf.mode
  id : below.id ≡ leaf.id
  content : below.content ≡ leaf.content

cut-is : (name : Bytes) (leaf : Leaf) (names : List Bytes) (below : Leaf) → cut_name name leaf names ≡ Some below → Cut name leaf names below
cut-is name leaf [] below e = absurd (none_some {x = below} e)
cut-is name leaf (first ∷ []) below e = absurd (none_some {x = below} e)
cut-is name leaf (first ∷ next ∷ names) below e = by (bytes_eq first name) refl e
  where
    rest : Leaf
    rest = record { names = next ∷ names; mode = leaf.mode; id = leaf.id; content = leaf.content }

    more : next ∷ names ≡ [] → ⊥
    more e = cc

    by : (t : Bool) → bytes_eq first name ≡ t → (if t then Some rest else None) ≡ Some below → Cut name leaf (first ∷ next ∷ names) below
    by true t is =
        let q = some_is {x = rest} {y = below} is in
        record {
          names_are = (λ i. (bytes_eq-Decides first name).0 t i ∷ ap (λ (l : Leaf). l.names) q i);
          some = λ e. more (ap (λ (l : Leaf). l.names) q ∙ e);
          mode = sym (ap (λ (l : Leaf). l.mode) q);
          id = sym (ap (λ (l : Leaf). l.id) q);
          content = sym (ap (λ (l : Leaf). l.content) q);
        }
    by false t is = absurd (none_some {x = below} is)

-- ---- each object is a tree or the blob of a file

object-blob : (o : Object) (leaf : Leaf) → In o (leaf_object (Some leaf)) → (is_blob_mode leaf.mode ≡ true) × (o ≡ leaf_blob leaf)
object-blob o leaf i = by (is_blob_mode leaf.mode) refl i
  where
    by : (t : Bool) → is_blob_mode leaf.mode ≡ t → In o (if t then leaf_blob leaf ∷ [] else []) → (is_blob_mode leaf.mode ≡ true) × (o ≡ leaf_blob leaf)
    by true e (inl q) = (e, q)
    by true e (inr j) = absurd j
    by false e j = absurd j

module _ (content : Mode → Id → Bytes) where
  -- a tree of the files without their contents, or a file's blob
  abbrev pub Part : ℕ → List Leaf → Object → Type 0
  Part depth leaves o = (In o (shape_objects depth (map (filled content) leaves)) × (is_tree o ≡ true))
      ⊎ ((leaf : Leaf) × In leaf leaves × (is_blob_mode leaf.mode ≡ true) × (o ≡ leaf_blob leaf))

  pub part-of : (depth : ℕ) (leaves : List Leaf) (o : Object) → In o (shape_objects depth leaves) → Part depth leaves o
  unfolding shape_objects
  part-of zero leaves o i = absurd i
  part-of (suc depth) leaves o i = by (in-append o (flat_map (trees_below depth leaves) (shape_entries (suc depth) leaves)) (object_of tree (tree_text (shape_entries (suc depth) leaves)) ∷ []) i) (λ ls j. part-of depth ls o j)
    where
      other : List Leaf
      other = map (filled content) leaves

      entries-same : shape_entries (suc depth) other ≡ shape_entries (suc depth) leaves
      entries-same = entries-filled content (suc depth) leaves

      deeper : (e : TreeEntry) → In e (shape_entries (suc depth) leaves) → is_directory e.mode ≡ true → Part depth (leaves_below e.name leaves) o → Part (suc depth) leaves o
      deeper e k d (inl t) = inl (
        in_left o (flat_map (trees_below depth other) (shape_entries (suc depth) other)) (object_of tree (tree_text (shape_entries (suc depth) other)) ∷ [])
            (in-flat (trees_below depth other) (shape_entries (suc depth) other) e o (subst (λ (es : List TreeEntry). In e es) (sym entries-same) k)
            (subst (λ (b : Bool). In o (if b then shape_objects depth (leaves_below e.name other) else leaf_object (leaf_named e.name other))) (sym d)
            (subst (λ (ls : List Leaf). In o (shape_objects depth ls)) (sym (below-filled content e.name leaves)) t.0))),
        t.1,
      )
      deeper e k d (inr b) =
          let from = of-filter_map (λ (leaf : Leaf). cut_name e.name leaf leaf.names) leaves b.0 b.1 in
          let cut = cut-is e.name from.0 from.0.names b.0 from.2 in
          inr (from.0, from.1, ap is_blob_mode (sym cut.mode) ∙ b.2, b.3 ∙ (λ i. record { id = cut.id i; kind = blob; content = cut.content i }))

      file : (e : TreeEntry) (found : Option Leaf) → leaf_named e.name leaves ≡ found → In o (leaf_object found) → Part (suc depth) leaves o
      file e None at j = absurd j
      file e (Some leaf) at j = let is = object-blob o leaf j in inr (leaf, (of-find (λ (l : Leaf). is_named e.name l.names) leaves leaf at).0, is.0, is.1)

      entry : (e : TreeEntry) → In e (shape_entries (suc depth) leaves) → (t : Bool) → is_directory e.mode ≡ t → In o (if t then shape_objects depth (leaves_below e.name leaves) else leaf_object (leaf_named e.name leaves))
          → ((ls : List Leaf) → In o (shape_objects depth ls) → Part depth ls o) → Part (suc depth) leaves o
      entry e k true d j rec = deeper e k d (rec (leaves_below e.name leaves) j)
      entry e k false d j rec = file e (leaf_named e.name leaves) refl j

      by : In o (flat_map (trees_below depth leaves) (shape_entries (suc depth) leaves)) ⊎ In o (object_of tree (tree_text (shape_entries (suc depth) leaves)) ∷ [])
          → ((ls : List Leaf) → In o (shape_objects depth ls) → Part depth ls o) → Part (suc depth) leaves o
      by (inl j) rec =
          let from = of-flat (trees_below depth leaves) (shape_entries (suc depth) leaves) o j in
          entry from.0 from.1 (is_directory from.0.mode) refl from.2 rec
      by (inr (inl q)) rec = inl (
        in_right o (flat_map (trees_below depth other) (shape_entries (suc depth) other)) (object_of tree (tree_text (shape_entries (suc depth) other)) ∷ [])
            (inl (q ∙ sym (ap (λ (es : List TreeEntry). object_of tree (tree_text es)) entries-same))),
        ap is_tree q,
      )
      by (inr (inr j)) rec = absurd j

  -- ---- the trees are the same

  pub tree-in : (depth : ℕ) (leaves : List Leaf) (o : Object) → In o (shape_objects depth (map (filled content) leaves)) → is_tree o ≡ true → In o (shape_objects depth leaves)
  unfolding shape_objects
  tree-in zero leaves o i t = absurd i
  tree-in (suc depth) leaves o i t = by (in-append o (flat_map (trees_below depth other) (shape_entries (suc depth) other)) (object_of tree (tree_text (shape_entries (suc depth) other)) ∷ []) i) (λ ls j. tree-in depth ls o j t)
    where
      other : List Leaf
      other = map (filled content) leaves

      entries-same : shape_entries (suc depth) other ≡ shape_entries (suc depth) leaves
      entries-same = entries-filled content (suc depth) leaves

      no-file : (found : Option Leaf) → In o (leaf_object found) → ⊥
      no-file None j = j
      no-file (Some leaf) j = true≢false (sym t ∙ ap is_tree (object-blob o leaf j).1)

      entry : (e : TreeEntry) → In e (shape_entries (suc depth) other) → (u : Bool) → is_directory e.mode ≡ u → In o (if u then shape_objects depth (leaves_below e.name other) else leaf_object (leaf_named e.name other))
          → ((ls : List Leaf) → In o (shape_objects depth (map (filled content) ls)) → In o (shape_objects depth ls)) → In o (flat_map (trees_below depth leaves) (shape_entries (suc depth) leaves))
      entry e k true d j rec =
          in-flat (trees_below depth leaves) (shape_entries (suc depth) leaves) e o (subst (λ (es : List TreeEntry). In e es) entries-same k)
          (subst (λ (b : Bool). In o (if b then shape_objects depth (leaves_below e.name leaves) else leaf_object (leaf_named e.name leaves))) (sym d)
          (rec (leaves_below e.name leaves) (subst (λ (ls : List Leaf). In o (shape_objects depth ls)) (below-filled content e.name leaves) j)))
      entry e k false d j rec = absurd (no-file (leaf_named e.name other) j)

      by : In o (flat_map (trees_below depth other) (shape_entries (suc depth) other)) ⊎ In o (object_of tree (tree_text (shape_entries (suc depth) other)) ∷ [])
          → ((ls : List Leaf) → In o (shape_objects depth (map (filled content) ls)) → In o (shape_objects depth ls)) → In o (shape_objects (suc depth) leaves)
      by (inl j) rec =
          let from = of-flat (trees_below depth other) (shape_entries (suc depth) other) o j in
          in_left o (flat_map (trees_below depth leaves) (shape_entries (suc depth) leaves)) (object_of tree (tree_text (shape_entries (suc depth) leaves)) ∷ []) (entry from.0 from.1 (is_directory from.0.mode) refl from.2 rec)
      by (inr (inl q)) rec = in_right o (flat_map (trees_below depth leaves) (shape_entries (suc depth) leaves)) (object_of tree (tree_text (shape_entries (suc depth) leaves)) ∷ []) (inl (q ∙ ap (λ (es : List TreeEntry). object_of tree (tree_text es)) entries-same))
      by (inr (inr j)) rec = absurd j

-- ---- the blob of each file is there

-- no names of a file begin with those of another
abbrev pub Apart : List Leaf → Type 0
Apart leaves = (a b : Leaf) → In a leaves → In b leaves → (more : List Bytes) → b.names ≡ a.names ++ more → a ≡ b

abbrev entry_with : Bytes → Option Leaf → List TreeEntry → TreeEntry
entry_with name o below = elim o as (λ _. TreeEntry) [
  | Some leaf ↦ record { mode = leaf.mode; name = name; id = leaf.id }
  | None ↦ record { mode = Directory; name = name; id = object_id tree (tree_text below) }
]

is-named : (name : Bytes) (names : List Bytes) → is_named name names ≡ true → names ≡ name ∷ []
is-named name [] h = absurd (true≢false (sym h))
is-named name (first ∷ []) h = ap (λ (n : Bytes). n ∷ []) ((bytes_eq-Decides first name).0 h)
is-named name (first ∷ next ∷ names) h = absurd (true≢false (sym h))

below-apart : (name : Bytes) (leaves : List Leaf) → Apart leaves → Apart (leaves_below name leaves)
below-apart name leaves apart a b i j more e =
    let x = of-filter_map (λ (leaf : Leaf). cut_name name leaf leaf.names) leaves a i in
    let y = of-filter_map (λ (leaf : Leaf). cut_name name leaf leaf.names) leaves b j in
    let cut = cut-is name x.0 x.0.names a x.2 in
    let cut2 = cut-is name y.0 y.0.names b y.2 in
    let one : x.0 ≡ y.0 = apart x.0 y.0 x.1 y.1 more (cut2.names_are ∙ ap (λ (ns : List Bytes). name ∷ ns) e ∙ sym (ap (λ (ns : List Bytes). ns ++ more) cut.names_are)) in
    some_is {x = a} {y = b} (sym x.2 ∙ ap (λ (leaf : Leaf). cut_name name leaf leaf.names) one ∙ y.2)

-- An object that stands below the entry of a leaf of one name stands among those of leaves with that leaf: `extra` levels are needed below it.
module _ (o : Object) (extra : ℕ) (P : Mode → Id → Bytes → Type 0)
    (base : (depth : ℕ) (leaves : List Leaf) (leaf : Leaf) (name : Bytes) → Apart leaves → In leaf leaves → leaf.names ≡ name ∷ [] → P leaf.mode leaf.id leaf.content
    → leaf_named name leaves ≡ Some leaf → extra ≤ depth → In o (trees_below depth leaves (record { mode = leaf.mode; name = name; id = leaf.id }))) where
  object-in : (depth : ℕ) (leaves : List Leaf) (leaf : Leaf) → Apart leaves → In leaf leaves → leaf.names ≢ [] → length leaf.names + extra ≤ depth → P leaf.mode leaf.id leaf.content
      → In o (shape_objects depth leaves)
  unfolding shape_objects shape_entries
  object-in zero leaves leaf apart i some short file = by leaf.names some short
    where
      by : (names : List Bytes) → names ≢ [] → length names + extra ≤ 0 → In o (shape_objects zero leaves)
      by [] some short = absurd (some refl)
      by (n ∷ names) some short = absurd (omega (arith, short))
  object-in (suc depth) leaves leaf apart i some short file = by leaf.names refl (λ ls l ap i some short file. object-in depth ls l ap i some short file)
    where
      entry : Bytes → TreeEntry
      entry name = entry_of depth leaves name

      in-entries : (name : Bytes) (names : List Bytes) → leaf.names ≡ name ∷ names → In (entry name) (shape_entries (suc depth) leaves)
      in-entries name names e =
          let first : first_name_of leaf ≡ Some name = ap (λ (ns : List Bytes). elim ns as (λ _. Option Bytes) [ [] ↦ None | name ∷ names ↦ Some name ]) e in
          in-order is_entry_below (entry name) (map (entry_of depth leaves) (first_names leaves))
          (in_map (entry_of depth leaves) name (first_names leaves) (in-first name (filter_map first_name_of leaves) (in-filter_map first_name_of leaves leaf name i first)))

      placed : (e : TreeEntry) → In e (shape_entries (suc depth) leaves) → In o (trees_below depth leaves e) → In o (shape_objects (suc depth) leaves)
      placed e k j =
          in_left o (flat_map (trees_below depth leaves) (shape_entries (suc depth) leaves)) (object_of tree (tree_text (shape_entries (suc depth) leaves)) ∷ [])
          (in-flat (trees_below depth leaves) (shape_entries (suc depth) leaves) e o k j)

      named : (name : Bytes) → leaf.names ≡ name ∷ [] → (found : Option Leaf) → leaf_named name leaves ≡ found → leaf_named name leaves ≡ Some leaf
      named name e None at = absurd (find-none (λ (l : Leaf). is_named name l.names) leaves leaf at i (ap (is_named name) e ∙ same name))
      named name e (Some x) at =
          let of = of-find (λ (l : Leaf). is_named name l.names) leaves x at in
          at ∙ ap (λ (l : Leaf). Some l) (apart x leaf of.0 i [] (e ∙ sym (is-named name x.names of.1) ∙ sym (append-nil x.names)))

      not-named : (name next : Bytes) (names : List Bytes) → leaf.names ≡ name ∷ next ∷ names → (found : Option Leaf) → leaf_named name leaves ≡ found → leaf_named name leaves ≡ None
      not-named name next names e None at = at
      not-named name next names e (Some x) at =
          let of = of-find (λ (l : Leaf). is_named name l.names) leaves x at in
          let one : x ≡ leaf = apart x leaf of.0 i (next ∷ names) (e ∙ sym (ap (λ (ns : List Bytes). ns ++ next ∷ names) (is-named name x.names of.1))) in
          absurd (longer (sym (is-named name x.names of.1) ∙ ap (λ (l : Leaf). l.names) one ∙ e))
        where
          longer : name ∷ [] ≡ name ∷ next ∷ names → ⊥
          longer q = cc

      by : (names : List Bytes) → leaf.names ≡ names
          → ((ls : List Leaf) (l : Leaf) → Apart ls → In l ls → l.names ≢ [] → length l.names + extra ≤ depth → P l.mode l.id l.content → In o (shape_objects depth ls))
          → In o (shape_objects (suc depth) leaves)
      by [] e rec = absurd (some e)
      by (name ∷ []) e rec =
          let at = named name e (leaf_named name leaves) refl in
          placed (entry name) (in-entries name [] e)
          (subst (λ (x : TreeEntry). In o (trees_below depth leaves x)) (sym (ap (λ (o : Option Leaf). entry_with name o (shape_entries depth (leaves_below name leaves))) at))
          (base depth leaves leaf name apart i e file at (omega (arith, short, ap (λ (ns : List Bytes). length ns) e))))
      by (name ∷ next ∷ names) e rec =
          let at = not-named name next names e (leaf_named name leaves) refl in
          let below : Leaf = record { names = next ∷ names; mode = leaf.mode; id = leaf.id; content = leaf.content } in
          let cut : cut_name name leaf leaf.names ≡ Some below = ap (cut_name name leaf) e ∙ ap (λ (t : Bool). if t then Some below else None) (same name) in
          placed (entry name) (in-entries name (next ∷ names) e)
          (subst (λ (x : TreeEntry). In o (trees_below depth leaves x)) (sym (ap (λ (o : Option Leaf). entry_with name o (shape_entries depth (leaves_below name leaves))) at))
          (rec (leaves_below name leaves) below (below-apart name leaves apart) (in-filter_map (λ (l : Leaf). cut_name name l l.names) leaves leaf below i cut) (λ q. cc)
          (omega (arith, short, ap (λ (ns : List Bytes). length ns) e)) file))

-- the blob of a file
pub blob-in : (depth : ℕ) (leaves : List Leaf) (leaf : Leaf) → Apart leaves → In leaf leaves → leaf.names ≢ [] → length leaf.names ≤ depth → is_blob_mode leaf.mode ≡ true
    → In (leaf_blob leaf) (shape_objects depth leaves)
blob-in depth leaves leaf apart i some short file =
    object-in (leaf_blob leaf) 0 (λ m id content. (is_blob_mode m ≡ true) × (record { id = id; kind = blob; content = content } ≡ leaf_blob leaf)) base depth leaves leaf apart i some (omega (arith, short)) (file, refl)
  where
    base : (depth : ℕ) (leaves : List Leaf) (l : Leaf) (name : Bytes) → Apart leaves → In l leaves → l.names ≡ name ∷ []
        → (is_blob_mode l.mode ≡ true) × (record { id = l.id; kind = blob; content = l.content } ≡ leaf_blob leaf) → leaf_named name leaves ≡ Some l → 0 ≤ depth
        → In (leaf_blob leaf) (trees_below depth leaves (record { mode = l.mode; name = name; id = l.id }))
    base depth leaves l name apart i e file at d =
        subst (λ (t : Bool). In (leaf_blob leaf) (if t then shape_objects depth (leaves_below name leaves) else leaf_object (leaf_named name leaves))) (sym (no-dir l.mode file.0))
        (subst (λ (o : Option Leaf). In (leaf_blob leaf) (leaf_object o)) (sym at)
        (subst (λ (t : Bool). In (leaf_blob leaf) (if t then leaf_blob l ∷ [] else [])) (sym file.0) (inl (sym file.1))))

-- nothing lies below a leaf of one name
none-below : (name : Bytes) (leaves : List Leaf) (leaf : Leaf) → Apart leaves → In leaf leaves → leaf.names ≡ name ∷ [] → (ls : List Leaf) → leaves_below name leaves ≡ ls → ls ≡ []
none-below name leaves leaf apart i e [] is = refl
none-below name leaves leaf apart i e (below ∷ ls) is =
    let x = of-filter_map (λ (l : Leaf). cut_name name l l.names) leaves below (subst (λ (all : List Leaf). In below all) (sym is) (inl refl)) in
    let cut = cut-is name x.0 x.0.names below x.2 in
    let one : leaf ≡ x.0 = apart leaf x.0 i x.1 below.names (cut.names_are ∙ sym (ap (λ (ns : List Bytes). ns ++ below.names) e)) in
    absurd (cut.some (tail (sym e ∙ ap (λ (l : Leaf). l.names) one ∙ cut.names_are)))
  where
    tail : {xs : List Bytes} → name ∷ [] ≡ name ∷ xs → xs ≡ []
    tail q = cc

-- the tree without entries
abbrev pub empty_tree : Object
empty_tree = object_of tree []

empty-once : (depth : ℕ) → 1 ≤ depth → In empty_tree (shape_objects depth [])
unfolding shape_objects shape_entries tree_text
empty-once zero d = absurd (omega (arith, d))
empty-once (suc depth) d = inl refl

-- the tree of an empty directory
pub empty-in : (depth : ℕ) (leaves : List Leaf) (leaf : Leaf) → Apart leaves → In leaf leaves → leaf.names ≢ [] → length leaf.names + 1 ≤ depth → is_directory leaf.mode ≡ true
    → In empty_tree (shape_objects depth leaves)
empty-in depth leaves leaf apart i some short dir = object-in empty_tree 1 (λ m id content. is_directory m ≡ true) base depth leaves leaf apart i some short dir
  where
    base : (depth : ℕ) (leaves : List Leaf) (l : Leaf) (name : Bytes) → Apart leaves → In l leaves → l.names ≡ name ∷ [] → is_directory l.mode ≡ true → leaf_named name leaves ≡ Some l → 1 ≤ depth
        → In empty_tree (trees_below depth leaves (record { mode = l.mode; name = name; id = l.id }))
    base depth leaves l name apart i e dir at d =
        subst (λ (t : Bool). In empty_tree (if t then shape_objects depth (leaves_below name leaves) else leaf_object (leaf_named name leaves))) (sym dir)
        (subst (λ (ls : List Leaf). In empty_tree (shape_objects depth ls)) (sym (none-below name leaves l apart i e (leaves_below name leaves) refl)) (empty-once depth d))
