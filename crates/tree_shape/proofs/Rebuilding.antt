-- The trees of the rows of a walk are the trees that the walk met.
use Rattle.std.proofs.Common.{◌≡◌, ◌≢◌, ◌||◌, ℕ, zero, suc, Bool, true, false, not, List, [], ◌∷◌, ◌++◌, map, Option, Some, None, refl, sym, ap, subst, ◌∙◌, append_assoc, inl, inr}
use Rattle.std.specs.Prelude.{filter, if◌then◌else◌, bytes_eq}
use Rattle.std.specs.List.{flat_map, list_any, cons_option}
use Rattle.std.proofs.lemmas.List.{map-append}
use Rattle.std.proofs.lemmas.List.Elements.{filter-append}
use Rattle.std.proofs.lemmas.Slice.Eq.{bytes_eq-Decides}
use Rattle.text_model.specs.Lists.{In, Each, in_order}
use Rattle.text_model.specs.Text.{Bytes}
use Rattle.text_model.specs.Id.{Id, tree, object_id}
use Rattle.text_model.specs.Path.{components}
use Rattle.text_model.proofs.EachLemmas.{Each-append}
use Rattle.text_model.proofs.TestLemmas.{both, or_true}
use Rattle.git_model.specs.Tree.{is_directory, TreeEntry, tree_text, sort_name, is_entry_below, has_distinct}
use Rattle.git_model.specs.Object.{Object, object_of, tree_at, AreObjects}
use Rattle.git_model.specs.Unfold.{FileRow, joined_path, visits, has_no_entries, is_row, met_rows}
use Rattle.git_model.specs.Shape.{Leaf, leaf_of, leaf_named, is_named, leaves_below, cut_name, leaf_object, shape_entries, shape_objects}
use Rattle.git_model.proofs.ObjectLemmas.{tree_at-tree}
use Rattle.text_model.proofs.Options.{some_is, not_true}
use Rattle.tree_shape.specs.Shapes.{entry_of, entries_in, is_tree, trees_below, trees_in}
use Rattle.tree_shape.specs.Wholes.{put_name, leaf_at, is_leaf, entry_leaves, leaves_in, Below, Sound}
use Rattle.tree_shape.specs.Walks.{row_at, entry_visits, entries_visits}
use Rattle.tree_shape.proofs.Names.{IsName, components-one, components-joined, joined-some}
use Rattle.tree_shape.proofs.WalkLemmas.{visits-zero, visits-none}
use Rattle.tree_shape.proofs.VisitLemmas.{dir-mode}
use Rattle.tree_shape.proofs.Unfolding.{visits-suc, name-of, no-entries}
use Rattle.tree_shape.proofs.Leaves.{HasFirst, NotFirst, OneName, entries-step, trees-step, entry_by, in_order-rising, same}
use Rattle.tree_shape.proofs.Rows.{clash}
use Rattle.tree_shape.proofs.PutRows.{no-tree}
use Rattle.tree_shape.proofs.Held.{held}
use Rattle.tree_shape.specs.Laws.{IsKnown}
use Rattle.text_model.proofs.OrderLemmas.{is_below-one_way}

-- ---- the files below a tree, by the names on the way to them

pub leaf-or-dir : (known : List Object) (e : TreeEntry) → is_leaf known e ≡ false → (is_directory e.mode ≡ true) × (has_no_entries (tree_at known e.id) ≡ false)
leaf-or-dir known e h = by (is_directory e.mode) h
  where
    by : (t : Bool) → (not t || has_no_entries (tree_at known e.id)) ≡ false → (t ≡ true) × (has_no_entries (tree_at known e.id) ≡ false)
    by true h = (refl, h)
    by false h = absurd cc

pub file-leaf : (known : List Object) (e : TreeEntry) → is_directory e.mode ≡ false → is_leaf known e ≡ true
file-leaf known e h = ap (λ (t : Bool). not t || has_no_entries (tree_at known e.id)) h

pub leaves-some : (known : List Object) (depth : ℕ) (id : Id) (entries : List TreeEntry) → tree_at known id ≡ Some entries → leaves_in known (suc depth) id ≡ flat_map (entry_leaves known (leaves_in known depth)) entries
leaves-some known depth id entries h = rw (h, leaves_in) refl

leaves-none : (known : List Object) (depth : ℕ) (id : Id) → tree_at known id ≡ None → leaves_in known (suc depth) id ≡ []
leaves-none known depth id h = rw (h, leaves_in) refl

pub leaves-empty : (known : List Object) (depth : ℕ) (id : Id) → tree_at known id ≡ Some [] → leaves_in known depth id ≡ []
leaves-empty known zero id h = refl
leaves-empty known (suc depth) id h = leaves-some known depth id [] h

-- ---- the rows of a walk have these leaves

abbrev pub front : Bytes → List Bytes
front [] = []
front (b ∷ path) = components (b ∷ path)

abbrev under : Bytes → Leaf → Leaf
under path leaf = record { names = front path ++ leaf.names; mode = leaf.mode; id = leaf.id; content = leaf.content }

joined-parts : (path name : Bytes) → IsName name → components (joined_path path name) ≡ front path ++ name ∷ []
joined-parts [] name n = components-one name n.plain
joined-parts (b ∷ path) name n = components-joined (b ∷ path) name (λ e. cc) n.plain

pub joined-front : (path name : Bytes) → IsName name → front (joined_path path name) ≡ front path ++ name ∷ []
joined-front path name n = whole (joined_path path name) (joined-some path name n.some) ∙ joined-parts path name n
  where
    whole : (p : Bytes) → p ≢ [] → front p ≡ components p
    whole [] some = absurd (some refl)
    whole (b ∷ p) some = refl

under-name : (path name : Bytes) (leaves : List Leaf) → IsName name → map (under (joined_path path name)) leaves ≡ map (under path) (map (put_name name) leaves)
under-name path name [] n = refl
under-name path name (leaf ∷ leaves) n =
    (λ k. record { names = (ap (λ (f : List Bytes). f ++ leaf.names) (joined-front path name n) ∙ append_assoc (front path) (name ∷ []) leaf.names) k; mode = leaf.mode; id = leaf.id; content = leaf.content } ∷ under-name path name leaves n k)

abbrev leaves_of : List Object → List FileRow → List Leaf
leaves_of known vs = map leaf_of (filter (is_row known) vs)

leaves_of-append : (known : List Object) (vs ws : List FileRow) → leaves_of known (vs ++ ws) ≡ leaves_of known vs ++ leaves_of known ws
leaves_of-append known vs ws = ap (map leaf_of) (filter-append (is_row known) vs ws) ∙ map-append leaf_of (filter (is_row known) vs) (filter (is_row known) ws)

visits-empty : (known : List Object) (depth : ℕ) (path : Bytes) (id : Id) → tree_at known id ≡ Some [] → visits known depth path id ≡ []
visits-empty known zero path id h = visits-zero known zero path id refl
visits-empty known (suc depth) path id h = visits-suc known depth path id [] h

entry-leaves : (known : List Object) (depth : ℕ) (path : Bytes) (e : TreeEntry) → IsName e.name
    → leaves_of known (visits known depth (joined_path path e.name) e.id) ≡ map (under (joined_path path e.name)) (leaves_in known depth e.id)
    → leaves_of known (entry_visits known depth path e) ≡ map (under path) (entry_leaves known (leaves_in known depth) e)
entry-leaves known depth path e n rec = by (is_leaf known e) refl
  where
    row : FileRow
    row = row_at (joined_path path e.name) e

    below : Bool → List FileRow
    below t = if t then visits known depth (joined_path path e.name) e.id else []

    none : (t : Bool) → is_directory e.mode ≡ t → is_leaf known e ≡ true → below t ≡ []
    none false d l = refl
    none true d l = visits-empty known depth (joined_path path e.name) e.id (no-entries (tree_at known e.id) (sym (ap (λ (t : Bool). not t || has_no_entries (tree_at known e.id)) d) ∙ l))

    by : (r : Bool) → is_leaf known e ≡ r → map leaf_of (if r then row ∷ filter (is_row known) (below (is_directory e.mode)) else filter (is_row known) (below (is_directory e.mode)))
        ≡ map (under path) (if r then leaf_at e ∷ [] else map (put_name e.name) (leaves_in known depth e.id))
    by true l =
        ap (λ (vs : List FileRow). map leaf_of (row ∷ filter (is_row known) vs)) (none (is_directory e.mode) refl l)
        ∙ (λ k. record { names = joined-parts path e.name n k; mode = e.mode; id = e.id; content = [] } ∷ [])
    by false l =
        ap (λ (t : Bool). map leaf_of (filter (is_row known) (below t))) (leaf-or-dir known e l).0
        ∙ rec ∙ under-name path e.name (leaves_in known depth e.id) n

entries-leaves : (known : List Object) (depth : ℕ) (path : Bytes) (entries : List TreeEntry) → ((e : TreeEntry) → In e entries → IsName e.name)
    → ((p : Bytes) (id : Id) → leaves_of known (visits known depth p id) ≡ map (under p) (leaves_in known depth id))
    → leaves_of known (entries_visits known depth path entries) ≡ map (under path) (flat_map (entry_leaves known (leaves_in known depth)) entries)
entries-leaves known depth path [] names rec = refl
entries-leaves known depth path (e ∷ entries) names rec =
    leaves_of-append known (entry_visits known depth path e) (entries_visits known depth path entries)
    ∙ (λ k. entry-leaves known depth path e (names e (inl refl)) (rec (joined_path path e.name) e.id) k ++ entries-leaves known depth path entries (λ f i. names f (inr i)) rec k)
    ∙ sym (map-append (under path) (entry_leaves known (leaves_in known depth) e) (flat_map (entry_leaves known (leaves_in known depth)) entries))

visit-leaves : (known : List Object) → AreObjects known → (depth : ℕ) (path : Bytes) (id : Id) → leaves_of known (visits known depth path id) ≡ map (under path) (leaves_in known depth id)
visit-leaves known are zero path id = ap (leaves_of known) (visits-zero known zero path id refl)
visit-leaves known are (suc depth) path id = by (λ p i. visit-leaves known are depth p i) (tree_at known id) refl
  where
    by : ((p : Bytes) (i : Id) → leaves_of known (visits known depth p i) ≡ map (under p) (leaves_in known depth i)) → (o : Option (List TreeEntry)) → tree_at known id ≡ o
        → leaves_of known (visits known (suc depth) path id) ≡ map (under path) (leaves_in known (suc depth) id)
    by rec None h = ap (leaves_of known) (visits-none known (suc depth) path id h) ∙ sym (ap (map (under path)) (leaves-none known depth id h))
    by rec (Some entries) h =
        ap (leaves_of known) (visits-suc known depth path id entries h)
        ∙ entries-leaves known depth path entries (λ e i. name-of entries e (tree_at-tree known id entries are h) i) rec
        ∙ sym (ap (map (under path)) (leaves-some known depth id entries h))

under-none : (leaves : List Leaf) → map (under []) leaves ≡ leaves
under-none [] = refl
under-none (leaf ∷ leaves) = (λ k. leaf ∷ under-none leaves k)

pub walk-leaves : (known : List Object) (root : Id) → AreObjects known → map leaf_of (met_rows known root) ≡ leaves_in known 257 root
walk-leaves known root are = visit-leaves known are 257 [] root ∙ under-none (leaves_in known 257 root)

-- ---- a tree that is whole down to a depth: its subtrees are known

pub sound-at : (known : List Object) (depth : ℕ) (id : Id) (entries : List TreeEntry) → Sound known depth id entries → tree_at known id ≡ Some entries
sound-at known zero id entries s = absurd s
sound-at known (suc depth) id entries s = s.0

-- leaves of one first name, of which there is one
pub record Named (name : Bytes) (leaves : List Leaf) : Type 0 where
  pub leaf : Leaf
  pub group : List Leaf
  pub are : leaves ≡ leaf ∷ group
  pub first : HasFirst name leaf
  pub more : Each (HasFirst name) group

firsts : (name : Bytes) (leaves : List Leaf) → Each (HasFirst name) (map (put_name name) leaves)
firsts name [] = tt
firsts name (leaf ∷ leaves) = (refl, firsts name leaves)

named-leaf : (known : List Object) (below : Id → List Leaf) (e : TreeEntry) → is_leaf known e ≡ true → Named e.name (entry_leaves known below e)
named-leaf known below e l = record { leaf = leaf_at e; group = []; are = ap (λ (t : Bool). if t then leaf_at e ∷ [] else map (put_name e.name) (below e.id)) l; first = refl; more = tt }

named-dir : (known : List Object) (below : Id → List Leaf) (e : TreeEntry) (leaf : Leaf) (group : List Leaf) → is_leaf known e ≡ false → below e.id ≡ leaf ∷ group → Named e.name (entry_leaves known below e)
named-dir known below e leaf group l some = record {
  leaf = put_name e.name leaf;
  group = map (put_name e.name) group;
  are = ap (λ (t : Bool). if t then leaf_at e ∷ [] else map (put_name e.name) (below e.id)) l ∙ ap (map (put_name e.name)) some;
  first = refl;
  more = firsts e.name group;
}

-- a whole tree with entries has a file
abbrev Some_of : List Leaf → Type 0
Some_of leaves = (leaf : Leaf) × (group : List Leaf) × (leaves ≡ leaf ∷ group)

named-entry : (known : List Object) (depth : ℕ) (e : TreeEntry) → Below (Sound known depth) e → ((id : Id) (entries : List TreeEntry) → Sound known depth id entries → entries ≢ [] → Some_of (leaves_in known depth id))
    → Named e.name (entry_leaves known (leaves_in known depth) e)
named-entry known depth e b rec = by (is_leaf known e) refl
  where
    by : (t : Bool) → is_leaf known e ≡ t → Named e.name (entry_leaves known (leaves_in known depth) e)
    by true t = named-leaf known (leaves_in known depth) e t
    by false t =
        let d = leaf-or-dir known e t in
        let s = b d.0 in
        let r = rec e.id s.0 s.1 (λ q. some-entries (ap (λ (es : List TreeEntry). has_no_entries (Some es)) (sym q) ∙ ap has_no_entries (sym (sound-at known depth e.id s.0 s.1)) ∙ d.1)) in
        named-dir known (leaves_in known depth) e r.0 r.1 t r.2
      where
        some-entries : true ≡ false → ⊥
        some-entries q = cc

some-leaves : (known : List Object) (depth : ℕ) (id : Id) (entries : List TreeEntry) → Sound known depth id entries → entries ≢ [] → Some_of (leaves_in known depth id)
some-leaves known zero id entries s some = absurd s
some-leaves known (suc depth) id [] s some = absurd (some refl)
some-leaves known (suc depth) id (e ∷ entries) s some =
    let n = named-entry known depth e s.1.0 (some-leaves known depth) in
    (n.leaf, n.group ++ flat_map (entry_leaves known (leaves_in known depth)) entries, leaves-some known depth id (e ∷ entries) s.0 ∙ ap (λ (l : List Leaf). l ++ flat_map (entry_leaves known (leaves_in known depth)) entries) n.are)

pub named : (known : List Object) (depth : ℕ) (e : TreeEntry) → Below (Sound known depth) e → Named e.name (entry_leaves known (leaves_in known depth) e)
named known depth e b = named-entry known depth e b (some-leaves known depth)

-- ---- each leaf has a name

abbrev pub HasName : Leaf → Type 0
HasName leaf = (name : Bytes) × (names : List Bytes) × (leaf.names ≡ name ∷ names)

put-named : (name : Bytes) (leaves : List Leaf) → Each HasName (map (put_name name) leaves)
put-named name [] = tt
put-named name (leaf ∷ leaves) = ((name, leaf.names, refl), put-named name leaves)

entries-named : (known : List Object) (below : Id → List Leaf) (entries : List TreeEntry) → Each HasName (flat_map (entry_leaves known below) entries)
entries-named known below [] = tt
entries-named known below (e ∷ entries) = Each-append HasName (entry_leaves known below e) (flat_map (entry_leaves known below) entries) (by (is_leaf known e)) (entries-named known below entries)
  where
    by : (t : Bool) → Each HasName (if t then leaf_at e ∷ [] else map (put_name e.name) (below e.id))
    by true = ((e.name, [], refl), tt)
    by false = put-named e.name (below e.id)

pub leaves-named : (known : List Object) (depth : ℕ) (id : Id) → Each HasName (leaves_in known depth id)
leaves-named known zero id = tt
leaves-named known (suc depth) id = by (tree_at known id)
  where
    by : (o : Option (List TreeEntry)) → Each HasName (elim o as (λ _. List Leaf) [ None ↦ [] | Some entries ↦ flat_map (entry_leaves known (leaves_in known depth)) entries ])
    by None = tt
    by (Some entries) = entries-named known (leaves_in known depth) entries

-- below a name stands what it was put before
cut-put : (name : Bytes) (leaf : Leaf) → HasName leaf → cut_name name (put_name name leaf) (name ∷ leaf.names) ≡ Some leaf
cut-put name leaf h =
    ap (λ (names : List Bytes). cut_name name (put_name name leaf) (name ∷ names)) h.2
    ∙ ap (λ (t : Bool). if t then Some (record { names = h.0 ∷ h.1; mode = leaf.mode; id = leaf.id; content = leaf.content }) else None) (same name)
    ∙ ap (λ (names : List Bytes). Some (record { names = names; mode = leaf.mode; id = leaf.id; content = leaf.content })) (sym h.2)

pub below-put : (name : Bytes) (leaves : List Leaf) → Each HasName leaves → leaves_below name (map (put_name name) leaves) ≡ leaves
below-put name [] h = refl
below-put name (leaf ∷ leaves) h = (λ k. cons_option (cut-put name leaf h.0 k) (below-put name leaves h.1 k))

none-put : (name : Bytes) (leaves : List Leaf) → Each HasName leaves → leaf_named name (map (put_name name) leaves) ≡ None
none-put name [] h = refl
none-put name (leaf ∷ leaves) h =
    ap (λ (names : List Bytes). if is_named name (name ∷ names) then Some (put_name name leaf) else leaf_named name (map (put_name name) leaves)) h.0.2
    ∙ none-put name leaves h.1

-- ---- the entries of a whole tree are those of its leaves

-- the first names of leaves are those of the entries
pub of-names : (known : List Object) (depth : ℕ) (entries : List TreeEntry) → Each (Below (Sound known depth)) entries → (name : Bytes) → ((e : TreeEntry) → In e entries → name ≢ e.name)
    → Each (NotFirst name) (flat_map (entry_leaves known (leaves_in known depth)) entries)
of-names known depth [] all name others = tt
of-names known depth (e ∷ entries) all name others =
    let n = named known depth e all.0 in
    Each-append (NotFirst name) (entry_leaves known (leaves_in known depth) e) (flat_map (entry_leaves known (leaves_in known depth)) entries)
    (subst (Each (NotFirst name)) (sym n.are) (not-first e.name name n.leaf (others e (inl refl)) n.first, all-not e.name name n.group (others e (inl refl)) n.more))
    (of-names known depth entries all.1 name (λ f i. others f (inr i)))
  where
    not-first : (m name : Bytes) (leaf : Leaf) → name ≢ m → HasFirst m leaf → NotFirst name leaf
    not-first m name leaf ne h g = ne (sym (some_is {x = m} {y = name} (sym h ∙ g)))

    all-not : (m name : Bytes) (leaves : List Leaf) → name ≢ m → Each (HasFirst m) leaves → Each (NotFirst name) leaves
    all-not m name [] ne h = tt
    all-not m name (leaf ∷ leaves) ne h = (not-first m name leaf ne h.0, all-not m name leaves ne h.1)

-- a name stands in no later entry
pub distinct-later : (e : TreeEntry) (entries : List TreeEntry) → has_distinct (map (λ e. e.name) (e ∷ entries)) ≡ true → (f : TreeEntry) → In f entries → e.name ≢ f.name
distinct-later e entries h f i q =
    let none = not_true (list_any (bytes_eq e.name) (map (λ e. e.name) entries)) (both (not (list_any (bytes_eq e.name) (map (λ e. e.name) entries))) (has_distinct (map (λ e. e.name) entries)) h).0 in
    clash (sym (any entries f i q) ∙ none)
  where
    any : (es : List TreeEntry) (f : TreeEntry) → In f es → e.name ≡ f.name → list_any (bytes_eq e.name) (map (λ e. e.name) es) ≡ true
    any [] f i q = absurd i
    any (g ∷ es) f i q = elim i [
      | inl p ↦ ap (λ (t : Bool). t || list_any (bytes_eq e.name) (map (λ e. e.name) es)) ((bytes_eq-Decides e.name g.name).1 (q ∙ ap (λ (x : TreeEntry). x.name) p))
      | inr j ↦ ap (λ (t : Bool). bytes_eq e.name g.name || t) (any es f j q) ∙ or_true (bytes_eq e.name g.name)
    ]

module _ (known : List Object) (are : AreObjects known) where
  -- what the trees of a level below are
  pub record Level (depth : ℕ) : Type 0 where
    pub shape : (id : Id) (entries : List TreeEntry) → Sound known depth id entries → shape_entries depth (leaves_in known depth id) ≡ entries
    pub objects : (id : Id) (entries : List TreeEntry) → Sound known depth id entries → Each (IsKnown known) (filter is_tree (shape_objects depth (leaves_in known depth id)))

  entry-is : (depth : ℕ) → Level depth → (e : TreeEntry) → Below (Sound known depth) e → entry_of depth (entry_leaves known (leaves_in known depth) e) e.name ≡ e
  entry-is depth level e b = by (is_leaf known e) refl
    where
      file : leaf_named e.name (leaf_at e ∷ []) ≡ Some (leaf_at e)
      file = ap (λ (t : Bool). if t then Some (leaf_at e) else None) (same e.name)

      by : (t : Bool) → is_leaf known e ≡ t → entry_of depth (if t then leaf_at e ∷ [] else map (put_name e.name) (leaves_in known depth e.id)) e.name ≡ e
      by true t = ap (λ (o : Option Leaf). entry_by depth e.name o (leaves_below e.name (leaf_at e ∷ []))) file
      by false l =
          let t = (leaf-or-dir known e l).0 in
          let s = b t in
          let h = held known e.id s.0 are (sound-at known depth e.id s.0 s.1) in
          (λ k. entry_by depth e.name (none-put e.name (leaves_in known depth e.id) (leaves-named known depth e.id) k) (below-put e.name (leaves_in known depth e.id) (leaves-named known depth e.id) k))
          ∙ (λ k. record { mode = sym (dir-mode e.mode t) k; name = e.name; id = (ap (λ (es : List TreeEntry). object_id tree (tree_text es)) (level.shape e.id s.0 s.1) ∙ sym h.is_id) k })

  one-name : (depth : ℕ) (e : TreeEntry) (entries : List TreeEntry) → Each (Below (Sound known depth)) (e ∷ entries) → has_distinct (map (λ e. e.name) (e ∷ entries)) ≡ true → (n : Named e.name (entry_leaves known (leaves_in known depth) e))
      → OneName e.name n.leaf n.group (flat_map (entry_leaves known (leaves_in known depth)) entries)
  one-name depth e entries all d n = record {
    first = n.first;
    more = n.more;
    others = of-names known depth entries all.1 e.name (distinct-later e entries d);
  }

  distinct-rest : (e : TreeEntry) (entries : List TreeEntry) → has_distinct (map (λ e. e.name) (e ∷ entries)) ≡ true → has_distinct (map (λ e. e.name) entries) ≡ true
  distinct-rest e entries d = (both (not (list_any (bytes_eq e.name) (map (λ e. e.name) entries))) (has_distinct (map (λ e. e.name) entries)) d).1

  entries-are : (depth : ℕ) → Level depth → (entries : List TreeEntry) → Each (Below (Sound known depth)) entries → has_distinct (map (λ e. e.name) entries) ≡ true
      → entries_in depth (flat_map (entry_leaves known (leaves_in known depth)) entries) ≡ entries
  entries-are depth level [] all d = refl
  entries-are depth level (e ∷ entries) all d =
      let n = named known depth e all.0 in
      let rest : List Leaf = flat_map (entry_leaves known (leaves_in known depth)) entries in
      ap (λ (l : List Leaf). entries_in depth (l ++ rest)) n.are
      ∙ entries-step depth e.name n.leaf n.group rest (one-name depth e entries all d n)
      ∙ (λ k. (ap (λ (l : List Leaf). entry_of depth l e.name) (sym n.are) ∙ entry-is depth level e all.0) k ∷ entries-are depth level entries all.1 (distinct-rest e entries d) k)

  -- the tree of no rows, where it is there
  no-rows : (depth : ℕ) (id : Id) → tree_at known id ≡ Some [] → Each (IsKnown known) (filter is_tree (shape_objects depth []))
  unfolding shape_objects shape_entries
  no-rows zero id h = tt
  no-rows (suc depth) id h = ((held known id [] are h).known_as, tt)

  entry-trees : (depth : ℕ) → Level depth → (e : TreeEntry) → Below (Sound known depth) e → Each (IsKnown known) (filter is_tree (trees_below depth (entry_leaves known (leaves_in known depth) e) e))
  entry-trees depth level e b = by (is_directory e.mode) refl
    where
      inside : (u : Bool) → is_directory e.mode ≡ true → is_leaf known e ≡ u → Each (IsKnown known) (filter is_tree (shape_objects depth (leaves_below e.name (if u then leaf_at e ∷ [] else map (put_name e.name) (leaves_in known depth e.id)))))
      inside true t l = no-rows depth e.id (no-entries (tree_at known e.id) (sym (ap (λ (d : Bool). not d || has_no_entries (tree_at known e.id)) t) ∙ l))
      inside false t l =
          let s = b t in
          subst (λ (l : List Leaf). Each (IsKnown known) (filter is_tree (shape_objects depth l))) (sym (below-put e.name (leaves_in known depth e.id) (leaves-named known depth e.id))) (level.objects e.id s.0 s.1)

      by : (t : Bool) → is_directory e.mode ≡ t
          → Each (IsKnown known) (filter is_tree (if t then shape_objects depth (leaves_below e.name (entry_leaves known (leaves_in known depth) e)) else leaf_object (leaf_named e.name (entry_leaves known (leaves_in known depth) e))))
      by true t = inside (is_leaf known e) t refl
      by false t = subst (Each (IsKnown known)) (sym (no-tree (leaf_named e.name (entry_leaves known (leaves_in known depth) e)))) tt

  trees-known : (depth : ℕ) → Level depth → (entries : List TreeEntry) → Each (Below (Sound known depth)) entries → has_distinct (map (λ e. e.name) entries) ≡ true
      → Each (IsKnown known) (trees_in depth (flat_map (entry_leaves known (leaves_in known depth)) entries))
  trees-known depth level [] all d = tt
  trees-known depth level (e ∷ entries) all d =
      let n = named known depth e all.0 in
      let rest : List Leaf = flat_map (entry_leaves known (leaves_in known depth)) entries in
      let is : trees_in depth (entry_leaves known (leaves_in known depth) e ++ rest) ≡ filter is_tree (trees_below depth (entry_leaves known (leaves_in known depth) e) e) ++ trees_in depth rest =
      ap (λ (l : List Leaf). trees_in depth (l ++ rest)) n.are
      ∙ trees-step depth e.name n.leaf n.group rest (one-name depth e entries all d n)
      ∙ ap (λ (l : List Leaf). filter is_tree (trees_below depth l (entry_of depth l e.name)) ++ trees_in depth rest) (sym n.are)
      ∙ ap (λ (x : TreeEntry). filter is_tree (trees_below depth (entry_leaves known (leaves_in known depth) e) x) ++ trees_in depth rest) (entry-is depth level e all.0) in
      subst (Each (IsKnown known)) (sym is)
      (Each-append (IsKnown known) (filter is_tree (trees_below depth (entry_leaves known (leaves_in known depth) e) e)) (trees_in depth rest) (entry-trees depth level e all.0) (trees-known depth level entries all.1 (distinct-rest e entries d)))

  shape-step : (depth : ℕ) → Level depth → (id : Id) (entries : List TreeEntry) → Sound known (suc depth) id entries → shape_entries (suc depth) (leaves_in known (suc depth) id) ≡ entries
  unfolding shape_entries
  shape-step depth level id entries s =
      let is_tree_of = tree_at-tree known id entries are s.0 in
      ap (in_order is_entry_below) (ap (entries_in depth) (leaves-some known depth id entries s.0) ∙ entries-are depth level entries s.1 is_tree_of.2)
      ∙ in_order-rising is_entry_below (λ a b h. is_below-one_way (sort_name a.mode a.name) (sort_name b.mode b.name) h) entries is_tree_of.1

  objects-step : (depth : ℕ) → Level depth → (id : Id) (entries : List TreeEntry) → Sound known (suc depth) id entries → Each (IsKnown known) (filter is_tree (shape_objects (suc depth) (leaves_in known (suc depth) id)))
  unfolding shape_objects
  objects-step depth level id entries s =
      let leaves : List Leaf = flat_map (entry_leaves known (leaves_in known depth)) entries in
      let at : leaves_in known (suc depth) id ≡ leaves = leaves-some known depth id entries s.0 in
      let shape : shape_entries (suc depth) (leaves_in known (suc depth) id) ≡ entries = shape-step depth level id entries s in
      let in_them : entries_in depth leaves ≡ entries = entries-are depth level entries s.1 (tree_at-tree known id entries are s.0).2 in
      let is : filter is_tree (shape_objects (suc depth) (leaves_in known (suc depth) id)) ≡ trees_in depth leaves ++ object_of tree (tree_text entries) ∷ [] =
      ap (λ (es : List TreeEntry). filter is_tree (flat_map (trees_below depth (leaves_in known (suc depth) id)) es ++ object_of tree (tree_text es) ∷ [])) shape
      ∙ filter-append is_tree (flat_map (trees_below depth (leaves_in known (suc depth) id)) entries) (object_of tree (tree_text entries) ∷ [])
      ∙ (λ k. filter is_tree (flat_map (trees_below depth (at k)) (sym in_them k)) ++ object_of tree (tree_text entries) ∷ []) in
      subst (Each (IsKnown known)) (sym is)
      (Each-append (IsKnown known) (trees_in depth leaves) (object_of tree (tree_text entries) ∷ []) (trees-known depth level entries s.1 (tree_at-tree known id entries are s.0).2) ((held known id entries are s.0).known_as, tt))

  pub level : (depth : ℕ) → Level depth
  level zero = record { shape = λ id entries s. absurd s; objects = λ id entries s. absurd s }
  level (suc depth) = record { shape = shape-step depth (level depth); objects = objects-step depth (level depth) }
