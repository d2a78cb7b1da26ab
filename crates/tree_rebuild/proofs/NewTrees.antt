-- The new trees of rows, by their leaves in the order of a walk.
use Rattle.std.proofs.Common.{◌≡◌, ◌≢◌, ℕ, zero, suc, Bool, true, false, not, ◌&&◌, ◌||◌, List, [], ◌∷◌, ◌++◌, map, Option, Some, None, refl, sym, ap, subst, ◌∙◌, inl, inr, ◌⊎◌}
use Rattle.std.specs.Prelude.{filter, if◌then◌else◌, bytes_eq}
use Rattle.std.specs.List.{flat_map, filter_map}
use Rattle.std.proofs.lemmas.Slice.Eq.{bytes_eq-Decides}
use Rattle.std.proofs.lemmas.Bool.{and_from, or_left, or_right, or_cases}
use Rattle.text_model.specs.Lists.{In, Each}
use Rattle.text_model.specs.Text.{Bytes, is_below}
use Rattle.text_model.specs.Id.{Id, tree}
use Rattle.text_model.specs.Path.{components, lies_below}
use Rattle.text_model.proofs.TestLemmas.{both, bytes_eq-self}
use Rattle.git_model.specs.Tree.{Mode, mode_text, is_directory, TreeEntry, tree_text, is_entry_below}
use Rattle.git_model.specs.Object.{Object, object_of, AreObjects}
use Rattle.git_model.specs.Unfold.{FileRow, joined_path, met_rows, tree_rows, by_walk, is_path_below}
use Rattle.git_model.specs.Shape.{Leaf, leaf_of, leaves_below, first_names, first_name_of, shape_entries, PlacedTree, placed_trees, is_in_directory, same_row, same_rows, is_kept, new_trees, first_clash}
use Rattle.text_model.proofs.Elements.{each_in as each-of, each_from as each-by, each_in, each_from}
use Rattle.git_model.proofs.SortLemmas.{Ascends, ascends-one, order-ascends, rises-ascends, in-order, of-order}
use Rattle.tree_shape.specs.Orders.{met_path, Same}
use Rattle.tree_shape.specs.Sets.{IsFileRow, IsFiles}
use Rattle.tree_shape.specs.Wholes.{leaves_in}
use Rattle.tree_shape.specs.Shapes.{entry_of}
use Rattle.tree_shape.proofs.Elements.{in-filter, of-filter}
use Rattle.tree_shape.proofs.Names.{IsName, components-append, components-some, same-components}
use Rattle.tree_shape.proofs.FileSets.{lies-true, bool-same, fit-file}
use Rattle.tree_shape.proofs.Leaves.{of-names, entry_of-name, of-first_of_each}
use Rattle.tree_shape.proofs.Rows.{longer-lies}
use Rattle.tree_shape.proofs.AnyOrder.{alike, Apart, below-same, below-apart, of-below, of-first, leaves-same, leaves-apart}
use Rattle.tree_shape.proofs.WalkOrder.{walk-ascends, walk-same, one-each}
use Rattle.tree_shape.proofs.Unfolding.{met-ascends, met-distinct}
use Rattle.tree_shape.proofs.Rebuilding.{front, joined-front, walk-leaves}
use Rattle.tree_rebuild.specs.News.{same_leaves, lies_in, is_leaf_in, leaves_in_directory, new_in}
use Rattle.tree_shape.proofs.Rows.{clash}
use Rattle.tree_rebuild.proofs.SameLeaves.{mode-one, leaves-one, leaves-self}
use Rattle.tree_rebuild.proofs.OnlyNew.{Tells, TellsBelow, placed-new}

-- ---- a row lies in a directory where its names do

lies-more : (n : Bytes) (lead : List Bytes) (mode : Mode) (m : Bytes) (rest : List Bytes) → lies_in (n ∷ lead) mode ((n ∷ lead) ++ m ∷ rest) ≡ true
lies-more n [] mode m rest = ap (λ (t : Bool). t && true) (bytes_eq-self n)
lies-more n (k ∷ lead) mode m rest = ap (λ (t : Bool). t && lies_in (k ∷ lead) mode ((k ∷ lead) ++ m ∷ rest)) (bytes_eq-self n) ∙ lies-more k lead mode m rest

lies-self : (n : Bytes) (lead : List Bytes) (mode : Mode) → is_directory mode ≡ true → lies_in (n ∷ lead) mode (n ∷ lead) ≡ true
lies-self n [] mode d = and_from (bytes_eq n n) (is_directory mode) (bytes_eq-self n) d
lies-self n (k ∷ lead) mode d = and_from (bytes_eq n n) (lies_in (k ∷ lead) mode (k ∷ lead)) (bytes_eq-self n) (lies-self k lead mode d)

-- names that lie in a directory
abbrev Parts : List Bytes → Mode → List Bytes → Type 0
Parts lead mode names = ((m : Bytes) × (rest : List Bytes) × (names ≡ lead ++ m ∷ rest)) ⊎ ((names ≡ lead) × (is_directory mode ≡ true))

parts-more : (x n : Bytes) (lead : List Bytes) (mode : Mode) (names : List Bytes) → x ≡ n → Parts lead mode names → Parts (n ∷ lead) mode (x ∷ names)
parts-more x n lead mode names e (inl p) = inl (p.0, p.1, (λ k. e k ∷ p.2 k))
parts-more x n lead mode names e (inr p) = inr ((λ k. e k ∷ p.0 k), p.1)

lies-parts : (n : Bytes) (lead : List Bytes) (mode : Mode) (names : List Bytes) → lies_in (n ∷ lead) mode names ≡ true → Parts (n ∷ lead) mode names
lies-parts n [] mode [] h = absurd (clash (sym h))
lies-parts n [] mode (x ∷ []) h = let p = both (bytes_eq x n) (is_directory mode) h in parts-more x n [] mode [] ((bytes_eq-Decides x n).0 p.0) (inr (refl, p.1))
lies-parts n [] mode (x ∷ y ∷ names) h = let p = both (bytes_eq x n) true h in parts-more x n [] mode (y ∷ names) ((bytes_eq-Decides x n).0 p.0) (inl (y, names, refl))
lies-parts n (k ∷ lead) mode [] h = absurd (clash (sym h))
lies-parts n (k ∷ lead) mode (x ∷ names) h = let p = both (bytes_eq x n) (lies_in (k ∷ lead) mode names) h in parts-more x n (k ∷ lead) mode names ((bytes_eq-Decides x n).0 p.0) (lies-parts k lead mode names p.1)

-- the path of a directory that isn't the root
in-path : (path : Bytes) (n : Bytes) (lead : List Bytes) → components path ≡ n ∷ lead → (row : FileRow)
    → (lies_below row.path path || bytes_eq row.path path && is_directory row.mode) ≡ lies_in (n ∷ lead) row.mode (components row.path)
in-path path n lead parts row = bool-same (lies_below row.path path || bytes_eq row.path path && is_directory row.mode) (lies_in (n ∷ lead) row.mode (components row.path)) to from
  where
    to : (lies_below row.path path || bytes_eq row.path path && is_directory row.mode) ≡ true → lies_in (n ∷ lead) row.mode (components row.path) ≡ true
    to h = elim (or_cases (lies_below row.path path) (bytes_eq row.path path && is_directory row.mode) h) [
      | inl l ↦
          let t = lies-true row.path path l in
          let c = some (components t.0) (components-some t.0) in
          ap (lies_in (n ∷ lead) row.mode) (ap components t.1 ∙ components-append path t.0 ∙ (λ k. parts k ++ c.2 k)) ∙ lies-more n lead row.mode c.0 c.1
      | inr e ↦
          let p = both (bytes_eq row.path path) (is_directory row.mode) e in
          ap (lies_in (n ∷ lead) row.mode) (ap components ((bytes_eq-Decides row.path path).0 p.0) ∙ parts) ∙ lies-self n lead row.mode p.1
    ]
      where
        some : (xs : List Bytes) → xs ≢ [] → (x : Bytes) × (rest : List Bytes) × (xs ≡ x ∷ rest)
        some [] h = absurd (h refl)
        some (x ∷ xs) h = (x, xs, refl)

    from : lies_in (n ∷ lead) row.mode (components row.path) ≡ true → (lies_below row.path path || bytes_eq row.path path && is_directory row.mode) ≡ true
    from h = elim (lies-parts n lead row.mode (components row.path) h) [
      | inl p ↦ or_left (lies_below row.path path) (bytes_eq row.path path && is_directory row.mode) (longer-lies path row.path p.0 p.1 (p.2 ∙ ap (λ (l : List Bytes). l ++ p.0 ∷ p.1) (sym parts)))
      | inr p ↦
          or_right (lies_below row.path path) (bytes_eq row.path path && is_directory row.mode)
          (and_from (bytes_eq row.path path) (is_directory row.mode) ((bytes_eq-Decides row.path path).1 (same-components row.path path (p.0 ∙ sym parts))) p.1)
    ]

in-directory : (path : Bytes) (row : FileRow) → is_in_directory path row ≡ is_leaf_in (front path) (leaf_of row)
in-directory [] row = refl
in-directory (b ∷ path) row = by (components (b ∷ path)) refl
  where
    by : (names : List Bytes) → components (b ∷ path) ≡ names → (lies_below row.path (b ∷ path) || bytes_eq row.path (b ∷ path) && is_directory row.mode) ≡ lies_in (components (b ∷ path)) row.mode (components row.path)
    by [] e = absurd (components-some (b ∷ path) e)
    by (n ∷ lead) e = in-path (b ∷ path) n lead e row ∙ ap (λ (l : List Bytes). lies_in l row.mode (components row.path)) (sym e)

rows-in : (path : Bytes) (rows : List FileRow) → map leaf_of (filter (is_in_directory path) rows) ≡ leaves_in_directory (front path) (map leaf_of rows)
rows-in path [] = refl
rows-in path (row ∷ rows) = by (is_in_directory path row) (is_leaf_in (front path) (leaf_of row)) (in-directory path row) (rows-in path rows)
  where
    by : (t u : Bool) → t ≡ u → map leaf_of (filter (is_in_directory path) rows) ≡ leaves_in_directory (front path) (map leaf_of rows)
        → map leaf_of (if t then row ∷ filter (is_in_directory path) rows else filter (is_in_directory path) rows) ≡ (if u then leaf_of row ∷ leaves_in_directory (front path) (map leaf_of rows) else leaves_in_directory (front path) (map leaf_of rows))
    by true true q rec = (λ k. leaf_of row ∷ rec k)
    by true false q rec = absurd (clash q)
    by false true q rec = absurd (clash (sym q))
    by false false q rec = rec

-- ---- tests of rows say whether they are the same

row-one : (a b : FileRow) → same_row a b ≡ true → a ≡ b
row-one a b h =
    let p = both (bytes_eq a.path b.path && bytes_eq (mode_text a.mode) (mode_text b.mode)) (bytes_eq a.id b.id) h in
    let q = both (bytes_eq a.path b.path) (bytes_eq (mode_text a.mode) (mode_text b.mode)) p.0 in
    (λ k. record {
      path = (bytes_eq-Decides a.path b.path).0 q.0 k;
      mode = mode-one a.mode b.mode ((bytes_eq-Decides (mode_text a.mode) (mode_text b.mode)).0 q.1) k;
      id = (bytes_eq-Decides a.id b.id).0 p.1 k;
    })

row-self : (a : FileRow) → same_row a a ≡ true
row-self a =
    and_from (bytes_eq a.path a.path && bytes_eq (mode_text a.mode) (mode_text a.mode)) (bytes_eq a.id a.id)
    (and_from (bytes_eq a.path a.path) (bytes_eq (mode_text a.mode) (mode_text a.mode)) (bytes_eq-self a.path) (bytes_eq-self (mode_text a.mode))) (bytes_eq-self a.id)

rows-one : (xs ys : List FileRow) → same_rows xs ys ≡ true → xs ≡ ys
rows-one [] [] h = refl
rows-one [] (y ∷ ys) h = absurd (clash (sym h))
rows-one (x ∷ xs) [] h = absurd (clash (sym h))
rows-one (x ∷ xs) (y ∷ ys) h = let p = both (same_row x y) (same_rows xs ys) h in (λ k. row-one x y p.0 k ∷ rows-one xs ys p.1 k)

rows-self : (xs : List FileRow) → same_rows xs xs ≡ true
rows-self [] = refl
rows-self (x ∷ xs) = and_from (same_row x x) (same_rows xs xs) (row-self x) (rows-self xs)

same-rows : (xs ys : List FileRow) → xs ≡ ys → same_rows xs ys ≡ true
same-rows xs ys e = subst (λ (l : List FileRow). same_rows xs l ≡ true) e (rows-self xs)

leaf-row : (a b : FileRow) → leaf_of a ≡ leaf_of b → a ≡ b
leaf-row a b e = (λ k. record { path = same-components a.path b.path (ap (λ (l : Leaf). l.names) e) k; mode = (e k).mode; id = (e k).id })

leaves-rows : (xs ys : List FileRow) → map leaf_of xs ≡ map leaf_of ys → xs ≡ ys
leaves-rows [] [] e = refl
leaves-rows [] (y ∷ ys) e = absurd (no-cons e)
  where
    no-cons : [] ≡ leaf_of y ∷ map leaf_of ys → ⊥
    no-cons q = cc
leaves-rows (x ∷ xs) [] e = absurd (no-cons e)
  where
    no-cons : leaf_of x ∷ map leaf_of xs ≡ [] → ⊥
    no-cons q = cc
leaves-rows (x ∷ xs) (y ∷ ys) e = let p = parts (leaf_of x) (leaf_of y) (map leaf_of xs) (map leaf_of ys) e in (λ k. leaf-row x y p.0 k ∷ leaves-rows xs ys p.1 k)
  where
    parts : (a b : Leaf) (as' bs : List Leaf) → a ∷ as' ≡ b ∷ bs → (a ≡ b) × (as' ≡ bs)
    parts a b as' bs q = (cc, cc)

-- the same rows have the same leaves
tests-same : (xs ys : List FileRow) → same_rows xs ys ≡ same_leaves (map leaf_of xs) (map leaf_of ys)
tests-same xs ys =
    bool-same (same_rows xs ys) (same_leaves (map leaf_of xs) (map leaf_of ys))
    (λ h. subst (λ (l : List FileRow). same_leaves (map leaf_of xs) (map leaf_of l) ≡ true) (rows-one xs ys h) (leaves-self (map leaf_of xs)))
    (λ h. same-rows xs ys (leaves-rows xs ys (leaves-one (map leaf_of xs) (map leaf_of ys) h)))

-- ---- in any order the same rows of a directory are the same

filter-ascends : (key : FileRow → Bytes) (p : FileRow → Bool) (rows : List FileRow) → Ascends key rows → Ascends key (filter p rows)
filter-ascends key p [] up = tt
filter-ascends key p (r ∷ rows) up = by (p r) (filter-ascends key p rows up.1)
  where
    by : (t : Bool) → Ascends key (filter p rows) → Ascends key (if t then r ∷ filter p rows else filter p rows)
    by true rest = (each-by (λ y. is_below (key r) (key y) ≡ true) (filter p rows) (λ y i. each-of (λ y. is_below (key r) (key y) ≡ true) rows y up.0 (of-filter p y rows i).0), rest)
    by false rest = rest

moved : (p : FileRow → Bool) (xs ys us vs : List FileRow) → Same us xs → Same vs ys → filter p xs ≡ filter p ys → (r : FileRow) → In r (filter p us) → In r (filter p vs)
moved p xs ys us vs s t e r i =
    let a = of-filter p r us i in
    let b = of-filter p r ys (subst (λ (l : List FileRow). In r l) e (in-filter p r xs (s.to r a.0) a.1)) in
    in-filter p r vs (t.from r b.0) b.1

turned : (key : FileRow → Bytes) (p : FileRow → Bool) (xs ys us vs : List FileRow) → Same us xs → Same vs ys → Ascends key us → Ascends key vs → filter p xs ≡ filter p ys → filter p us ≡ filter p vs
turned key p xs ys us vs s t up vp e =
    ascends-one key (filter p us) (filter p vs) (filter-ascends key p us up) (filter-ascends key p vs vp) (moved p xs ys us vs s t e) (moved p ys xs vs us t s (sym e))

same-back : (xs ys : List FileRow) → Same xs ys → Same ys xs
same-back xs ys s = record { to = s.from; from = s.to }

module _ (old rows met walked : List FileRow) (o : Same met old) (r : Same walked rows)
    (old_up : Ascends (λ (x : FileRow). x.path) old) (rows_up : Ascends (λ (x : FileRow). x.path) rows) (met_up : Ascends met_path met) (walked_up : Ascends met_path walked) where
  any-order : (p : FileRow → Bool) → same_rows (filter p old) (filter p rows) ≡ same_rows (filter p met) (filter p walked)
  any-order p =
      bool-same (same_rows (filter p old) (filter p rows)) (same_rows (filter p met) (filter p walked))
      (λ h. same-rows (filter p met) (filter p walked) (turned met_path p old rows met walked o r met_up walked_up (rows-one (filter p old) (filter p rows) h)))
      (λ h. same-rows (filter p old) (filter p rows) (turned (λ (x : FileRow). x.path) p met walked old rows (same-back met old o) (same-back walked rows r) old_up rows_up (rows-one (filter p met) (filter p walked) h)))

  kept-tells : (path : Bytes) → Tells (is_kept old rows) (map leaf_of met) (map leaf_of walked) path (front path)
  kept-tells path made =
      any-order (is_in_directory path) ∙ tests-same (filter (is_in_directory path) met) (filter (is_in_directory path) walked)
      ∙ (λ k. same_leaves (rows-in path met k) (rows-in path walked k))

-- ---- the trees with their places don't depend on the order of leaves

flat-placed : (f g : TreeEntry → List PlacedTree) (es : List TreeEntry) → ((e : TreeEntry) → f e ≡ g e) → flat_map f es ≡ flat_map g es
flat-placed f g [] h = refl
flat-placed f g (e ∷ es) h = (λ k. h e k ++ flat-placed f g es h k)

placed-alike : (depth : ℕ) (path : Bytes) (xs ys : List Leaf) → Same xs ys → Apart xs → placed_trees depth path xs ≡ placed_trees depth path ys
unfolding placed_trees
placed-alike zero path xs ys s a = refl
placed-alike (suc depth) path xs ys s a =
    ap (λ (es : List TreeEntry). flat_map (placed xs) es ++ record { path = path; made = object_of tree (tree_text es) } ∷ []) (alike (suc depth) xs ys s a).entries
    ∙ ap (λ (ts : List PlacedTree). ts ++ record { path = path; made = object_of tree (tree_text (shape_entries (suc depth) ys)) } ∷ [])
    (flat-placed (placed xs) (placed ys) (shape_entries (suc depth) ys) (λ e. by (is_directory e.mode) (placed-alike depth (joined_path path e.name) (leaves_below e.name xs) (leaves_below e.name ys) (below-same e.name xs ys s) (below-apart e.name xs a))))
  where
    placed : List Leaf → TreeEntry → List PlacedTree
    placed leaves e = if is_directory e.mode then placed_trees depth (joined_path path e.name) (leaves_below e.name leaves) else []

    by : {X : Type 0} {us vs : List X} (t : Bool) → us ≡ vs → (if t then us else []) ≡ (if t then vs else [])
    by true h = h
    by false h = refl

-- ---- the names of leaves

abbrev AreNamed : List Leaf → Type 0
AreNamed leaves = (a : Leaf) → In a leaves → Each IsName a.names

below-named : (n : Bytes) (leaves : List Leaf) → AreNamed leaves → AreNamed (leaves_below n leaves)
below-named n leaves h a i = (h (record { names = n ∷ a.names; mode = a.mode; id = a.id; content = a.content }) (of-below n leaves a i).0).1

entry-named : (depth : ℕ) (leaves : List Leaf) → AreNamed leaves → (e : TreeEntry) → In e (shape_entries (suc depth) leaves) → IsName e.name
unfolding shape_entries
entry-named depth leaves h e i =
    let n = of-names (entry_of depth leaves) (first_names leaves) e (of-order is_entry_below e (map (entry_of depth leaves) (first_names leaves)) i) in
    let l = of-first n.0 leaves (of-first_of_each (filter_map first_name_of leaves) n.0 n.1) in
    let is : n.0 ≡ e.name = sym (ap (λ (x : TreeEntry). x.name) n.2 ∙ entry_of-name depth leaves n.0) in
    subst IsName is (head n.0 l.0.names l.2 (h l.0 l.1))
  where
    head : (n : Bytes) (names : List Bytes) → (elim names as (λ _. Option Bytes) [ [] ↦ None | name ∷ more ↦ Some name ]) ≡ Some n → Each IsName names → IsName n
    head n [] q h = absurd cc
    head n (m ∷ names) q h = let is : m ≡ n = cc in subst IsName is h.0

tells-below : (kept : PlacedTree → Bool) (old new : List Leaf) → ((path : Bytes) → Tells kept old new path (front path)) → (depth : ℕ) (path : Bytes) (lead : List Bytes) (leaves : List Leaf) → front path ≡ lead → AreNamed leaves
    → TellsBelow kept old new depth path lead leaves
tells-below kept old new tells zero path lead leaves f h = tt
tells-below kept old new tells (suc depth) path lead leaves f h = λ e i.
    let n : front (joined_path path e.name) ≡ lead ++ e.name ∷ [] = joined-front path e.name (entry-named depth leaves h e i) ∙ ap (λ (l : List Bytes). l ++ e.name ∷ []) f in (
      subst (Tells kept old new (joined_path path e.name)) n (tells (joined_path path e.name)),
      tells-below kept old new tells depth (joined_path path e.name) (lead ++ e.name ∷ []) (leaves_below e.name leaves) n (below-named e.name leaves h),
    )

row-named : (rows : List FileRow) → IsFiles rows → (xs : List FileRow) → ((x : FileRow) → In x xs → In x rows) → AreNamed (map leaf_of xs)
row-named rows f [] among a i = absurd i
row-named rows f (x ∷ xs) among a (inl q) =
    let is = each_in IsFileRow rows x f.each (among x (inl refl)) in
    subst (λ (l : Leaf). Each IsName l.names) (sym q) (each_from IsName (components x.path) (λ n i.
    let p = each_in _ (components x.path) n (fit-file x is.fit is.empty).names i in
    record { some = p.0; plain = p.1 }))
row-named rows f (x ∷ xs) among a (inr j) = row-named rows f xs (λ y i. among y (inr i)) a j

-- ---- the new trees

all-in-root : (leaves : List Leaf) → leaves_in_directory [] leaves ≡ leaves
all-in-root [] = refl
all-in-root (l ∷ leaves) = (λ k. l ∷ all-in-root leaves k)

pub new-trees : (known : List Object) (root : Id) (rows : List FileRow) → AreObjects known → IsFiles rows → first_clash rows ≡ None
    → new_trees (tree_rows known root) rows ≡ (if same_leaves (leaves_in known 257 root) (map leaf_of (by_walk rows)) then [] else new_in 257 (leaves_in known 257 root) (map leaf_of (by_walk rows)))
unfolding new_trees
new-trees known root rows are f none =
    ap (λ (ts : List PlacedTree). map (λ (t : PlacedTree). t.made) (filter (λ (t : PlacedTree). not (is_kept old rows t)) ts))
    (placed-alike 257 [] (map leaf_of rows) (map leaf_of walked) (leaves-same rows walked (same-back walked rows (walk-same rows))) (leaves-apart rows (one-each rows f.in_order)))
    ∙ placed-new (is_kept old rows) (map leaf_of met) (map leaf_of walked) 257 [] [] (tells [])
    (tells-below (is_kept old rows) (map leaf_of met) (map leaf_of walked) tells 257 [] [] (map leaf_of walked) refl (row-named rows f walked (walk-same rows).to))
    ∙ (λ k. if same_leaves (all-in-root (map leaf_of met) k) (all-in-root (map leaf_of walked) k) then [] else new_in 257 (map leaf_of met) (map leaf_of walked))
    ∙ (λ k. if same_leaves (walk-leaves known root are k) (map leaf_of walked) then [] else new_in 257 (walk-leaves known root are k) (map leaf_of walked))
  where
    old : List FileRow
    old = tree_rows known root

    met : List FileRow
    met = met_rows known root

    walked : List FileRow
    walked = by_walk rows

    old-same : Same met old
    old-same = record { to = λ x i. in-order is_path_below x met i; from = λ x i. of-order is_path_below x met i }

    tells : (path : Bytes) → Tells (is_kept old rows) (map leaf_of met) (map leaf_of walked) path (front path)
    tells = kept-tells old rows met walked old-same (walk-same rows)
        (order-ascends (λ (x : FileRow). x.path) met (met-distinct known root are)) (rises-ascends (λ (x : FileRow). x.path) rows f.in_order) (met-ascends known root are) (walk-ascends rows f none)
