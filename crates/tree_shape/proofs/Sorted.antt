-- The entries of rows are in Git's order.
use Rattle.std.proofs.Common.{◌≡◌, ◌≢◌, ℕ, suc, Bool, true, false, not, ◌&&◌, List, [], ◌∷◌, ◌++◌, map, Option, Some, None, refl, sym, ap, subst, ◌∙◌, append_assoc, inl, inr, ◌⊎◌}
use Rattle.std.specs.Prelude.{filter, if◌then◌else◌, bytes_eq}
use Rattle.std.specs.List.{flat_map, filter_map, cons_option}
use Rattle.std.proofs.lemmas.List.{append-nil}
use Rattle.std.proofs.lemmas.List.Elements.{filter-append}
use Rattle.std.proofs.lemmas.Slice.Eq.{bytes_eq-Decides}
use Rattle.std.specs.Cmp.Lexicographic.{slice_cmp}
use Rattle.std.specs.Ordering.{nat_cmp, is_lt, ordering_reverse}
use Rattle.std.specs.declared.cmp.Ordering.{Ordering}
use Rattle.std.specs.declared.cmp.Ordering.TheVariants.{Less, Equal, Greater}
use Rattle.std.proofs.lemmas.Cmp.{nat_list_cmp_total}
use Rattle.std.proofs.lemmas.Map.Lookups.{exact_bytes}
use Rattle.text_model.proofs.Options.{some_is}
use Rattle.text_model.specs.Lists.{In, Each, rises, first_of_each}
use Rattle.text_model.specs.Text.{Bytes, is_below, has_byte}
use Rattle.text_model.specs.Id.{tree, object_id}
use Rattle.text_model.specs.Path.{components}
use Rattle.git_model.specs.Tree.{is_directory, TreeEntry, tree_text, sort_name, is_entry_below}
use Rattle.git_model.specs.Object.{object_of}
use Rattle.git_model.specs.Unfold.{FileRow}
use Rattle.tree_shape.specs.Orders.{met_path}
use Rattle.tree_shape.proofs.Unfolding.{met-front}
use Rattle.git_model.specs.Shape.{Leaf, leaf_of, first_name_of, first_names, leaf_named, is_named, leaves_below, shape_entries, shape_objects}
use Rattle.tree_shape.specs.Shapes.{entry_of, entries_in, is_tree, trees_below, trees_in, id_of_rows, trees_of_rows, Before, IsFile, Good}
use Rattle.tree_shape.proofs.Elements.{of-filter}
use Rattle.tree_shape.proofs.Below.{below-apart, below-more, has-slash, same-dir}
use Rattle.tree_shape.proofs.Leaves.{HasFirst, entry_by, entry_of-name, in_order-rising, of-first_of_each}
use Rattle.tree_shape.proofs.Rows.{clash, shape, goes_on, ends, either, one, first, second, good-file, first-is, first-same, not-before, not-after, components-some}
use Rattle.text_model.proofs.OrderLemmas.{is_below-irreflexive, is_below-one_way}
use Rattle.text_model.proofs.Elements.{each_in}

-- ---- the entry of a name, and the rows of that name

-- the path of a row, as it counts in the order of a walk, is the sort name of the entry of its first name, with more behind that of a directory
record Stands (e : TreeEntry) (path : Bytes) : Type 0 where
  more : Bytes
  is : path ≡ sort_name e.mode e.name ++ more
  flat : is_directory e.mode ≡ false → more ≡ []

-- the row that has the one name
named-row : (n : Bytes) (rows : List FileRow) (leaf : Leaf) → leaf_named n (map leaf_of rows) ≡ Some leaf → (a : FileRow) × In a rows × (leaf ≡ leaf_of a) × (is_named n (components a.path) ≡ true)
named-row n [] leaf h = absurd cc
named-row n (a ∷ rows) leaf h = by (is_named n (components a.path)) refl h (named-row n rows leaf)
  where
    by : (t : Bool) → is_named n (components a.path) ≡ t → (if t then Some (leaf_of a) else leaf_named n (map leaf_of rows)) ≡ Some leaf
        → (leaf_named n (map leaf_of rows) ≡ Some leaf → (b : FileRow) × In b rows × (leaf ≡ leaf_of b) × (is_named n (components b.path) ≡ true))
        → (b : FileRow) × In b (a ∷ rows) × (leaf ≡ leaf_of b) × (is_named n (components b.path) ≡ true)
    by true e h rec = (a, inl refl, sym (some_is {x = leaf_of a} {y = leaf} h), e)
    by false e h rec = let r = rec h in (r.0, inr r.1, r.2, r.3)

not-named : (n : Bytes) (rows : List FileRow) → leaf_named n (map leaf_of rows) ≡ None → (a : FileRow) → In a rows → is_named n (components a.path) ≡ false
not-named n [] h a i = absurd i
not-named n (b ∷ rows) h a i = by (is_named n (components b.path)) refl h (λ q j. not-named n rows q a j)
  where
    by : (t : Bool) → is_named n (components b.path) ≡ t → (if t then Some (leaf_of b) else leaf_named n (map leaf_of rows)) ≡ None
        → (leaf_named n (map leaf_of rows) ≡ None → In a rows → is_named n (components a.path) ≡ false) → is_named n (components a.path) ≡ false
    by true e h rec = absurd cc
    by false e h rec = elim i [ inl q ↦ ap (λ (x : FileRow). is_named n (components x.path)) q ∙ e | inr j ↦ rec h j ]

-- a path of one name
named-path : (n : Bytes) (a : FileRow) → is_named n (components a.path) ≡ true → a.path ≡ n
named-path n a h = elim (shape a.path) [
  | goes_on m rest d ↦
      let c = components-some rest in
      absurd (clash (sym h ∙ ap (is_named n) (d.parts ∙ ap (λ (cs : List Bytes). m ∷ cs) c.2)))
  | ends f ↦ (bytes_eq-Decides a.path n).0 (sym (ap (is_named n) f.parts) ∙ h)
]

stands : (depth : ℕ) (rows : List FileRow) → Good rows → (n : Bytes) (a : FileRow) → In a rows → HasFirst n (leaf_of a) → Stands (entry_of depth (map leaf_of rows) n) (met_path a)
stands depth rows g n a i h = by (leaf_named n (map leaf_of rows)) refl
  where
    file : (leaf : Leaf) → leaf_named n (map leaf_of rows) ≡ Some leaf → (leaf.mode ≡ a.mode) × (a.path ≡ n)
    file leaf e =
        let r = named-row n rows leaf e in
        let path : r.0.path ≡ n = named-path n r.0 r.3 in
        let same : r.0 ≡ a = elim (shape a.path) [
          | goes_on m rest d ↦
              let is : m ≡ n = first-same a m n (components rest) d.parts h in
              let long : a.path ≡ n ++ 47 ∷ rest = d.is ∙ ap (λ (x : Bytes). x ++ 47 ∷ rest) is in
              elim (either rows g r.0 a r.1 i) [
                | one q ↦ q
                | first b ↦ absurd (not-before n rest r.0 a path long b)
                | second b ↦ absurd (not-after n rest r.0 a path long b)
              ]
          | ends f ↦
              let here : a.path ≡ n = first-same a a.path n [] f.parts h in
              elim (either rows g r.0 a r.1 i) [
                | one q ↦ q
                | first b ↦ absurd (b.other (path ∙ sym here))
                | second b ↦ absurd (b.other (here ∙ sym path))
              ]
        ] in
        (ap (λ (l : Leaf). l.mode) r.2 ∙ ap (λ (x : FileRow). x.mode) same, ap (λ (x : FileRow). x.path) (sym same) ∙ path)

    dir : leaf_named n (map leaf_of rows) ≡ None → (rest : Bytes) × (a.path ≡ (n ++ 47 ∷ []) ++ rest)
    dir e = elim (shape a.path) [
      | goes_on m rest d ↦
          let is : m ≡ n = first-same a m n (components rest) d.parts h in
          (rest, d.is ∙ ap (λ (x : Bytes). x ++ 47 ∷ rest) is ∙ sym (append_assoc n (47 ∷ []) rest))
      | ends f ↦
          let is : a.path ≡ n = first-same a a.path n [] f.parts h in
          absurd (clash (sym (ap (is_named n) f.parts ∙ (bytes_eq-Decides a.path n).1 is) ∙ not-named n rows e a i))
    ]

    by : (o : Option Leaf) → leaf_named n (map leaf_of rows) ≡ o → Stands (entry_of depth (map leaf_of rows) n) (met_path a)
    by (Some leaf) e =
        let f = file leaf e in
        let P : Option Leaf → Type 0 = λ o. Stands (entry_by depth n o (leaves_below n (map leaf_of rows))) (met_path a) in
        subst P (sym e) (record {
          more = [];
          is = (λ k. sort_name (sym f.0 k) (f.1 k)) ∙ sym (append-nil (sort_name leaf.mode n));
          flat = λ _. refl;
        })
    by None e =
        let d = dir e in
        let P : Option Leaf → Type 0 = λ o. Stands (entry_by depth n o (leaves_below n (map leaf_of rows))) (met_path a) in
        subst P (sym e) (record { more = sort_name a.mode d.0; is = ap (sort_name a.mode) d.1 ∙ met-front (n ++ 47 ∷ []) a.mode d.0; flat = λ q. absurd (clash q) })

-- ---- the order of entries

-- one of three
three : (xs ys : Bytes) → (is_below xs ys ≡ true) ⊎ ((xs ≡ ys) ⊎ (is_below ys xs ≡ true))
three xs ys = by (slice_cmp nat_cmp xs ys) refl
  where
    by : (o : Ordering) → slice_cmp nat_cmp xs ys ≡ o → (is_below xs ys ≡ true) ⊎ ((xs ≡ ys) ⊎ (is_below ys xs ≡ true))
    by Less e = inl (ap is_lt e)
    by Equal e = inr (inl (exact_bytes xs ys e))
    by Greater e = inr (inr (ap is_lt (nat_list_cmp_total.antisymm ys xs ∙ ap ordering_reverse e)))

-- an entry below another keeps below it what stands behind both
keeps : (e f : TreeEntry) (x y : Bytes) → has_byte 47 e.name ≡ false → has_byte 47 f.name ≡ false → is_entry_below e f ≡ true → Stands e x → Stands f y → is_below x y ≡ true
keeps e f x y m n h u v = ap (λ (z : Bytes). is_below z y) u.is ∙ ap (λ (z : Bytes). is_below (sort_name e.mode e.name ++ u.more) z) v.is ∙ by (is_directory e.mode) refl
  where
    apart : (t : Bool) → is_directory f.mode ≡ t → is_directory e.mode ≡ true → (r : Bytes) → sort_name f.mode f.name ≡ sort_name e.mode e.name ++ r → ⊥
    apart false d g r q =
        let plain : f.name ≡ (e.name ++ 47 ∷ []) ++ r = sym (ap (λ (b : Bool). if b then f.name ++ 47 ∷ [] else f.name) d) ∙ q ∙ ap (λ (b : Bool). (if b then e.name ++ 47 ∷ [] else e.name) ++ r) g in
        clash (sym (has-slash e.name r) ∙ sym (ap (has_byte 47) plain) ∙ n)
    apart true d g r q =
        let dirs : f.name ++ 47 ∷ [] ≡ (e.name ++ 47 ∷ []) ++ r = sym (ap (λ (b : Bool). if b then f.name ++ 47 ∷ [] else f.name) d) ∙ q ∙ ap (λ (b : Bool). (if b then e.name ++ 47 ∷ [] else e.name) ++ r) g in
        let equal : sort_name e.mode e.name ≡ sort_name f.mode f.name =
        ap (λ (b : Bool). if b then e.name ++ 47 ∷ [] else e.name) (g ∙ sym d) ∙ ap (λ (z : Bytes). if is_directory f.mode then z ++ 47 ∷ [] else z) (same-dir e.name f.name r m n dirs) in
        clash (sym h ∙ ap (λ (z : Bytes). is_below z (sort_name f.mode f.name)) equal ∙ is_below-irreflexive (sort_name f.mode f.name))

    by : (t : Bool) → is_directory e.mode ≡ t → is_below (sort_name e.mode e.name ++ u.more) (sort_name f.mode f.name ++ v.more) ≡ true
    by true d = below-apart (sort_name e.mode e.name) (sort_name f.mode f.name) u.more v.more h (λ r q. apart (is_directory f.mode) refl d r q)
    by false d =
        ap (λ (z : Bytes). is_below z (sort_name f.mode f.name ++ v.more)) (ap (λ (s : Bytes). sort_name e.mode e.name ++ s) (u.flat d) ∙ append-nil (sort_name e.mode e.name))
        ∙ below-more (sort_name e.mode e.name) (sort_name f.mode f.name) v.more h

-- names with one sort name are one
pub same-sort : (e f : TreeEntry) → has_byte 47 e.name ≡ false → has_byte 47 f.name ≡ false → sort_name e.mode e.name ≡ sort_name f.mode f.name → e.name ≡ f.name
same-sort e f m n h = by (is_directory e.mode) (is_directory f.mode) h
  where
    by : (s t : Bool) → (if s then e.name ++ 47 ∷ [] else e.name) ≡ (if t then f.name ++ 47 ∷ [] else f.name) → e.name ≡ f.name
    by true true q = sym (same-dir f.name e.name [] n m (q ∙ sym (append-nil (f.name ++ 47 ∷ []))))
    by true false q = absurd (clash (sym (has-slash e.name []) ∙ ap (has_byte 47) (append-nil (e.name ++ 47 ∷ []) ∙ q) ∙ n))
    by false true q = absurd (clash (sym (has-slash f.name []) ∙ ap (has_byte 47) (append-nil (f.name ++ 47 ∷ []) ∙ sym q) ∙ m))
    by false false q = q

-- of two rows with other first names, the entry of the one that stands before is below
entry-below : (e f : TreeEntry) (x y : Bytes) → has_byte 47 e.name ≡ false → has_byte 47 f.name ≡ false → e.name ≢ f.name → Stands e x → Stands f y → is_below x y ≡ true → is_entry_below e f ≡ true
entry-below e f x y m n ne u v h = elim (three (sort_name e.mode e.name) (sort_name f.mode f.name)) [
  | inl below ↦ below
  | inr more ↦ elim more [
    | inl equal ↦ absurd (ne (same-sort e f m n equal))
    | inr above ↦ absurd (clash (sym (keeps f e y x n m above v u) ∙ is_below-one_way x y h))
  ]
]

-- ---- the entries of all names

-- a name comes from a row
name-row : (rows : List FileRow) (n : Bytes) → In n (filter_map first_name_of (map leaf_of rows)) → (a : FileRow) × In a rows × HasFirst n (leaf_of a)
name-row [] n h = absurd h
name-row (a ∷ rows) n h =
    let c = components-some a.path in
    elim (subst (λ (o : Option Bytes). In n (cons_option o (filter_map first_name_of (map leaf_of rows)))) (first-is a c.0 c.1 c.2) h) [
      | inl q ↦ (a, inl refl, first-is a c.0 c.1 c.2 ∙ ap (λ (x : Bytes). Some x) (sym q))
      | inr j ↦ let r = name-row rows n j in (r.0, inr r.1, r.2)
    ]

plain-first : (a : FileRow) (n : Bytes) → IsFile a → HasFirst n (leaf_of a) → has_byte 47 n ≡ false
plain-first a n f h =
    let c = components-some a.path in
    let is : c.0 ≡ n = first-same a c.0 n c.1 c.2 h in
    sym (ap (has_byte 47) is) ∙ (subst (λ (cs : List Bytes). Each (λ m. (m ≢ []) × (has_byte 47 m ≡ false)) cs) c.2 f.names).0.1

module _ (depth : ℕ) (all : List FileRow) (good : Good all) where
  abbrev the : Bytes → TreeEntry
  the n = entry_of depth (map leaf_of all) n

  -- each is below all that follow
  abbrev Up : List TreeEntry → Type 0
  Up [] = Unit {0}
  Up (e ∷ es) = Each (λ f. is_entry_below e f ≡ true) es × Up es

  Up-rises : (es : List TreeEntry) → Up es → rises is_entry_below es ≡ true
  Up-rises [] h = refl
  Up-rises (e ∷ []) h = refl
  Up-rises (e ∷ f ∷ es) h = ap (λ (b : Bool). b && rises is_entry_below (f ∷ es)) h.0.0 ∙ Up-rises (f ∷ es) h.1

  Up-filter : (p : Bytes → Bool) (ns : List Bytes) → Up (map the ns) → Up (map the (filter p ns))
  Up-filter p [] h = tt
  Up-filter p (n ∷ ns) h = by (p n) (Up-filter p ns h.1)
    where
      by : (t : Bool) → Up (map the (filter p ns)) → Up (map the (if t then n ∷ filter p ns else filter p ns))
      by true r = (each-map (filter p ns) (λ m i. each-from-map ns m h.0 (of-filter p m ns i).0), r)
        where
          each-map : (ms : List Bytes) → ((m : Bytes) → In m ms → is_entry_below (the n) (the m) ≡ true) → Each (λ f. is_entry_below (the n) f ≡ true) (map the ms)
          each-map [] k = tt
          each-map (m ∷ ms) k = (k m (inl refl), each-map ms (λ x i. k x (inr i)))

          each-from-map : (ms : List Bytes) (m : Bytes) → Each (λ f. is_entry_below (the n) f ≡ true) (map the ms) → In m ms → is_entry_below (the n) (the m) ≡ true
          each-from-map [] m k i = absurd i
          each-from-map (x ∷ ms) m k i = elim i [ inl q ↦ ap (λ (z : Bytes). is_entry_below (the n) (the z)) q ∙ k.0 | inr j ↦ each-from-map ms m k.1 j ]
      by false r = r

  each-map : (n : Bytes) (ms : List Bytes) → ((m : Bytes) → In m ms → is_entry_below (the n) (the m) ≡ true) → Each (λ f. is_entry_below (the n) f ≡ true) (map the ms)
  each-map n [] k = tt
  each-map n (m ∷ ms) k = (k m (inl refl), each-map n ms (λ x i. k x (inr i)))

  up : (rows : List FileRow) → ((a : FileRow) → In a rows → In a all) → Good rows → Up (map the (first_names (map leaf_of rows)))
  up [] in_all g = tt
  up (a ∷ rows) in_all g =
      let c = components-some a.path in
      let has : HasFirst c.0 (leaf_of a) = first-is a c.0 c.1 c.2 in
      let names : List Bytes = first_names (map leaf_of rows) in
      subst (λ (o : Option Bytes). Up (map the (first_of_each bytes_eq (cons_option o (filter_map first_name_of (map leaf_of rows)))))) (sym has) (
        each-map c.0 (filter (λ y. not (bytes_eq c.0 y)) names) (λ m i.
            let f = of-filter (λ y. not (bytes_eq c.0 y)) m names i in
            let r = name-row rows m (of-first_of_each (filter_map first_name_of (map leaf_of rows)) m f.0) in
            let ne : c.0 ≢ m = λ q. clash (sym f.1 ∙ ap not ((bytes_eq-Decides c.0 m).1 q)) in
            entry-below (the c.0) (the m) (met_path a) (met_path r.0)
            (ap (has_byte 47) (entry_of-name depth (map leaf_of all) c.0) ∙ plain-first a c.0 g.0 has)
            (ap (has_byte 47) (entry_of-name depth (map leaf_of all) m) ∙ plain-first r.0 m (good-file rows g.2 r.0 r.1) r.2)
            (λ q. ne (sym (entry_of-name depth (map leaf_of all) c.0) ∙ q ∙ entry_of-name depth (map leaf_of all) m))
            (stands depth all good c.0 a (in_all a (inl refl)) has) (stands depth all good m r.0 (in_all r.0 (inr r.1)) r.2)
            (each_in (Before a) rows r.0 g.1 r.1).below),
        Up-filter (λ y. not (bytes_eq c.0 y)) names (up rows (λ b i. in_all b (inr i)) g.2),
      )

  pub entries-rise : rises is_entry_below (entries_in depth (map leaf_of all)) ≡ true
  entries-rise = Up-rises (entries_in depth (map leaf_of all)) (up all (λ a i. i) good)

  pub shape-is : shape_entries (suc depth) (map leaf_of all) ≡ entries_in depth (map leaf_of all)
  unfolding shape_entries
  shape-is = in_order-rising is_entry_below (λ a b h. is_below-one_way (sort_name a.mode a.name) (sort_name b.mode b.name) h) (entries_in depth (map leaf_of all)) entries-rise

  pub id-is : id_of_rows (suc depth) all ≡ object_id tree (tree_text (entries_in depth (map leaf_of all)))
  id-is = ap (λ (es : List TreeEntry). object_id tree (tree_text es)) shape-is

  pub trees-are : trees_of_rows (suc depth) all ≡ trees_in depth (map leaf_of all) ++ object_of tree (tree_text (entries_in depth (map leaf_of all))) ∷ []
  unfolding shape_objects
  trees-are =
      ap (λ (es : List TreeEntry). filter is_tree (flat_map (trees_below depth (map leaf_of all)) es ++ object_of tree (tree_text es) ∷ [])) shape-is
      ∙ filter-append is_tree (flat_map (trees_below depth (map leaf_of all)) (entries_in depth (map leaf_of all))) (object_of tree (tree_text (entries_in depth (map leaf_of all))) ∷ [])
