-- A walk through the tree of rows that are there meets these rows, and nothing ends it.
use Rattle.std.proofs.Common.{◌≡◌, ◌≢◌, ◌≤◌, ◌+◌, ℕ, zero, suc, Bool, true, false, not, List, [], ◌∷◌, ◌++◌, map, Some, None, refl, sym, ap, subst, ◌∙◌, append_assoc, inl, inr, arith}
use Rattle.std.specs.Prelude.{◌||◌, filter, if◌then◌else◌, nat_lt}
use Rattle.std.specs.List.{sum_by}
use Rattle.std.proofs.lemmas.List.Sums.{sum_by-cons}
use Rattle.std.proofs.lemmas.Bool.Decides.{nat_tests}
use Rattle.text_model.specs.Lists.{In, Each, in_order, with_inserted}
use Rattle.text_model.specs.Text.{Bytes}
use Rattle.text_model.specs.Id.{Id}
use Rattle.text_model.specs.Path.{components, is_fit_path}
use Rattle.text_model.proofs.EachLemmas.{Each-weaker}
use Rattle.text_model.proofs.Elements.{each_in, each_from}
use Rattle.git_model.specs.Tree.{is_directory, TreeEntry}
use Rattle.git_model.specs.Object.{Object, tree_at, AreObjects}
use Rattle.git_model.specs.Unfold.{FileRow, joined_path, visits, visit_fault, first_visit_fault, has_no_entries, is_row, is_object_there, row_size, rows_limit, walk, walk_fault, met_rows, tree_rows, by_walk, by_paths, is_met_before}
use Rattle.git_model.proofs.SortLemmas.{of-order}
use Rattle.git_model.specs.Shape.{Leaf, leaf_of, root_of}
use Rattle.git_model.proofs.ObjectLemmas.{tree_at-tree}
use Rattle.tree_shape.specs.Laws.{AreKnown, AreWalkable}
use Rattle.tree_shape.specs.Sets.{IsFileRow}
use Rattle.tree_shape.specs.Shapes.{entries_in, id_of_rows, trees_of_rows, Good}
use Rattle.tree_shape.specs.Walks.{row_at, entry_visits, size_after}
use Rattle.tree_shape.proofs.Elements.{in-flat, of-flat, in-filter}
use Rattle.tree_shape.proofs.FitPieces.{fit-pieces}
use Rattle.tree_shape.proofs.Names.{IsName, joined-some, same-components}
use Rattle.tree_shape.proofs.WalkLemmas.{next, fault-cons, walk-fault}
use Rattle.tree_shape.proofs.VisitLemmas.{row-none, dir-none, dir-there}
use Rattle.tree_shape.proofs.Unfolding.{visits-suc, name-of, fit-short}
use Rattle.tree_shape.proofs.WalkOrder.{walk-good, walk-back, shorts-none, root-is, trees-is}
use Rattle.tree_shape.specs.Wholes.{Below, Sound, is_leaf}
use Rattle.tree_shape.proofs.Rebuilding.{sound-at, walk-leaves}
use Rattle.tree_shape.proofs.Growing.{IsDeep, leaves, growing}

-- ---- rows are known by their leaves

same-leaf : (r s : FileRow) → leaf_of r ≡ leaf_of s → r ≡ s
same-leaf r s h =
    let parts : components r.path ≡ components s.path = ap (λ (l : Leaf). l.names) h in
    let mode : r.mode ≡ s.mode = ap (λ (l : Leaf). l.mode) h in
    let id : r.id ≡ s.id = ap (λ (l : Leaf). l.id) h in
    (λ k. record { path = same-components r.path s.path parts k; mode = mode k; id = id k })

same-leaves : (rs ss : List FileRow) → map leaf_of rs ≡ map leaf_of ss → rs ≡ ss
same-leaves [] [] h = refl
same-leaves [] (s ∷ ss) h = absurd cc
same-leaves (r ∷ rs) [] h = absurd cc
same-leaves (r ∷ rs) (s ∷ ss) h =
    let head : leaf_of r ≡ leaf_of s = cc in
    let tail : map leaf_of rs ≡ map leaf_of ss = cc in
    (λ k. same-leaf r s head k ∷ same-leaves rs ss tail k)

-- ---- what a walk through a whole tree meets at a directory

-- a row behind a path
record Behind (known : List Object) (vs : List FileRow) (path : Bytes) : Type 0 where
  row : FileRow
  rest : Bytes
  in_them : In row vs
  is_one : is_row known row ≡ true
  is : row.path ≡ path ++ 47 ∷ rest

joined-behind : (path name : Bytes) → path ≢ [] → joined_path path name ≡ path ++ 47 ∷ name
joined-behind [] name h = absurd (h refl)
joined-behind (b ∷ path) name h = refl

-- an entry that is no row is a directory with entries
dir-filled : (known : List Object) (e : TreeEntry) (entries : List TreeEntry) → is_leaf known e ≡ false → tree_at known e.id ≡ Some entries → (is_directory e.mode ≡ true) × (entries ≢ [])
dir-filled known e entries l at = by (is_directory e.mode) l
  where
    clash : true ≡ false → ⊥
    clash q = cc

    by : (t : Bool) → (not t || has_no_entries (tree_at known e.id)) ≡ false → (t ≡ true) × (entries ≢ [])
    by true h = (refl, (λ q. clash (sym (ap has_no_entries at ∙ ap (λ (es : List TreeEntry). has_no_entries (Some es)) q) ∙ h)))
    by false h = absurd (clash h)

module _ (known : List Object) (are : AreObjects known) where
  name : (id : Id) (entries : List TreeEntry) (e : TreeEntry) → tree_at known id ≡ Some entries → In e entries → IsName e.name
  name id entries e h i = name-of entries e (tree_at-tree known id entries are h) i

  visited : (depth : ℕ) (path : Bytes) (id : Id) (entries : List TreeEntry) (e : TreeEntry) (v : FileRow) → tree_at known id ≡ Some entries → In e entries → In v (entry_visits known depth path e) → In v (visits known (suc depth) path id)
  visited depth path id entries e v h i j = subst (λ (vs : List FileRow). In v vs) (sym (visits-suc known depth path id entries h)) (in-flat (entry_visits known depth path) entries e v i j)

  -- an entry that is no row goes on
  dir-only : (e : TreeEntry) → is_leaf known e ≡ false → is_directory e.mode ≡ true
  dir-only e l = by (is_directory e.mode) l
    where
      by : (t : Bool) → (not t || has_no_entries (tree_at known e.id)) ≡ false → t ≡ true
      by true h = refl
      by false h = absurd cc

  -- below a whole tree with entries lies a row
  row-below : (depth : ℕ) (path : Bytes) (id : Id) (entries : List TreeEntry) → path ≢ [] → entries ≢ [] → Sound known depth id entries → Behind known (visits known depth path id) path
  row-below zero path id entries p some s = absurd s
  row-below (suc depth) path id [] p some s = absurd (some refl)
  row-below (suc depth) path id (e ∷ entries) p some s = by (λ q i es a b c. row-below depth q i es a b c) (is_leaf known e) refl
    where
      joined : joined_path path e.name ≢ []
      joined = joined-some path e.name (name id (e ∷ entries) e s.0 (inl refl)).some

      by : ((q : Bytes) (i : Id) (es : List TreeEntry) → q ≢ [] → es ≢ [] → Sound known depth i es → Behind known (visits known depth q i) q) → (t : Bool) → is_leaf known e ≡ t → Behind known (visits known (suc depth) path id) path
      by rec true t = record {
        row = row_at (joined_path path e.name) e;
        rest = e.name;
        in_them = visited depth path id (e ∷ entries) e (row_at (joined_path path e.name) e) s.0 (inl refl) (inl refl);
        is_one = t;
        is = joined-behind path e.name p;
      }
      by rec false t =
          let d = dir-only e t in
          let sub = s.1.0 d in
          let b = rec (joined_path path e.name) e.id sub.0 joined (dir-filled known e sub.0 t (sound-at known depth e.id sub.0 sub.1)).1 sub.1 in
          record {
            row = b.row;
            rest = e.name ++ 47 ∷ b.rest;
            in_them = visited depth path id (e ∷ entries) e b.row s.0 (inl refl) (inr (subst (λ (u : Bool). In b.row (if u then visits known depth (joined_path path e.name) e.id else [])) (sym d) b.in_them));
            is_one = b.is_one;
            is = b.is ∙ ap (λ (x : Bytes). x ++ 47 ∷ b.rest) (joined-behind path e.name p) ∙ append_assoc path (47 ∷ e.name) (47 ∷ b.rest);
          }

  -- a directory on the walk that is no row has a tree, and below it lies a row
  record Inside (vs : List FileRow) (v : FileRow) : Type 0 where
    subtree : List TreeEntry
    is : tree_at known v.id ≡ Some subtree
    behind : Behind known vs v.path

  wider : (vs ws : List FileRow) (v : FileRow) → ((w : FileRow) → In w vs → In w ws) → Inside vs v → Inside ws v
  wider vs ws v f i = record {
    subtree = i.subtree;
    is = i.is;
    behind = record { row = i.behind.row; rest = i.behind.rest; in_them = f i.behind.row i.behind.in_them; is_one = i.behind.is_one; is = i.behind.is };
  }

  inside : (depth : ℕ) (path : Bytes) (id : Id) (entries : List TreeEntry) → Sound known depth id entries → (v : FileRow) → In v (visits known depth path id) → is_row known v ≡ false → Inside (visits known depth path id) v
  inside zero path id entries s v i d = absurd s
  inside (suc depth) path id entries s v i d = by (λ q j es t k. inside depth q j es t v k d)
    where
      by : ((q : Bytes) (j : Id) (es : List TreeEntry) → Sound known depth j es → In v (visits known depth q j) → Inside (visits known depth q j) v) → Inside (visits known (suc depth) path id) v
      by rec =
          let from = of-flat (entry_visits known depth path) entries v (subst (λ (vs : List FileRow). In v vs) (visits-suc known depth path id entries s.0) i) in
          let e = from.0 in
          let b : Below (Sound known depth) e = each_in (Below (Sound known depth)) entries e s.1 from.1 in
          elim from.2 [
            | inl q ↦
                let l : is_leaf known e ≡ false = sym (ap (is_row known) q) ∙ d in
                let dir : is_directory e.mode ≡ true = dir-only e l in
                let sub = b dir in
                let at = sound-at known depth e.id sub.0 sub.1 in
                let f = row-below depth (joined_path path e.name) e.id sub.0 (joined-some path e.name (name id entries e s.0 from.1).some) (dir-filled known e sub.0 l at).1 sub.1 in
                subst (Inside (visits known (suc depth) path id)) (sym q) (record {
                  subtree = sub.0;
                  is = at;
                  behind = record {
                    row = f.row;
                    rest = f.rest;
                    in_them = visited depth path id entries e f.row s.0 from.1 (inr (subst (λ (u : Bool). In f.row (if u then visits known depth (joined_path path e.name) e.id else [])) (sym dir) f.in_them));
                    is_one = f.is_one;
                    is = f.is;
                  };
                })
            | inr j ↦ deeper e from.1 b (is_directory e.mode) refl j rec
          ]
        where
          deeper : (e : TreeEntry) → In e entries → Below (Sound known depth) e → (t : Bool) → is_directory e.mode ≡ t → In v (if t then visits known depth (joined_path path e.name) e.id else [])
              → ((q : Bytes) (j : Id) (es : List TreeEntry) → Sound known depth j es → In v (visits known depth q j) → Inside (visits known depth q j) v) → Inside (visits known (suc depth) path id) v
          deeper e k b false t j rec = absurd j
          deeper e k b true t j rec =
              let sub = b t in
              wider (visits known depth (joined_path path e.name) e.id) (visits known (suc depth) path id) v
              (λ w l. visited depth path id entries e w s.0 k (inr (subst (λ (u : Bool). In w (if u then visits known depth (joined_path path e.name) e.id else [])) (sym t) l)))
              (rec (joined_path path e.name) e.id sub.0 sub.1 j)

-- ---- visits of which none is refused

size-up : (known : List Object) (size : ℕ) (vs : List FileRow) → size ≤ size_after known size vs
size-up known size [] = omega arith
size-up known size (v ∷ vs) = by (is_row known v) (size-up known (size + row_size v) vs) (size-up known size vs)
  where
    by : (t : Bool) → size + row_size v ≤ size_after known (size + row_size v) vs → size ≤ size_after known size vs → size ≤ size_after known (if t then size + row_size v else size) vs
    by true h k = omega (arith, h)
    by false h k = k

size-sum : (known : List Object) (size : ℕ) (vs : List FileRow) → size_after known size vs ≡ size + sum_by row_size (filter (is_row known) vs)
size-sum known size [] = omega arith
size-sum known size (v ∷ vs) = by (is_row known v) (size-sum known (size + row_size v) vs) (size-sum known size vs)
  where
    by : (t : Bool) → size_after known (size + row_size v) vs ≡ (size + row_size v) + sum_by row_size (filter (is_row known) vs) → size_after known size vs ≡ size + sum_by row_size (filter (is_row known) vs)
        → size_after known (if t then size + row_size v else size) vs ≡ size + sum_by row_size (if t then v ∷ filter (is_row known) vs else filter (is_row known) vs)
    by true h k = omega (arith, h, sum_by-cons row_size v (filter (is_row known) vs))
    by false h k = k

-- the order of rows does not change the sum of their sizes
sum-inserted : (below : FileRow → FileRow → Bool) (row : FileRow) (rows : List FileRow) → sum_by row_size (with_inserted below row rows) ≡ row_size row + sum_by row_size rows
sum-inserted below row [] = sum_by-cons row_size row []
sum-inserted below row (r ∷ rows) = by (below r row) (sum-inserted below row rows)
  where
    by : (t : Bool) → sum_by row_size (with_inserted below row rows) ≡ row_size row + sum_by row_size rows → sum_by row_size (if t then r ∷ with_inserted below row rows else row ∷ r ∷ rows) ≡ row_size row + sum_by row_size (r ∷ rows)
    by true h = omega (arith, h, sum_by-cons row_size r (with_inserted below row rows), sum_by-cons row_size r rows)
    by false h = sum_by-cons row_size row (r ∷ rows)

pub sum-order : (below : FileRow → FileRow → Bool) (rows : List FileRow) → sum_by row_size (in_order below rows) ≡ sum_by row_size rows
sum-order below [] = refl
sum-order below (r ∷ rows) = sum-inserted below r (in_order below rows) ∙ ap (λ (n : ℕ). row_size r + n) (sum-order below rows) ∙ sym (sum_by-cons row_size r rows)

record Passing (known : List Object) (v : FileRow) : Type 0 where
  rows : is_row known v ≡ true → (size : ℕ) → size + row_size v ≤ rows_limit → visit_fault known size v ≡ None
  dirs : is_row known v ≡ false → (size : ℕ) → visit_fault known size v ≡ None

none-refused : (known : List Object) (size : ℕ) (vs : List FileRow) → Each (Passing known) vs → size_after known size vs ≤ rows_limit → first_visit_fault known size vs ≡ None
unfolding first_visit_fault
none-refused known size [] p le = refl
none-refused known size (v ∷ vs) p le = by (is_row known v) refl (λ n h. none-refused known n vs p.1 h) le
  where
    pass : (n : ℕ) → visit_fault known size v ≡ None → n ≡ next known size v → first_visit_fault known n vs ≡ None → first_visit_fault known size (v ∷ vs) ≡ None
    pass n h e r = fault-cons known size v vs ∙ rw h (ap (λ (k : ℕ). first_visit_fault known k vs) (sym e) ∙ r)

    by : (t : Bool) → is_row known v ≡ t → ((n : ℕ) → size_after known n vs ≤ rows_limit → first_visit_fault known n vs ≡ None) → size_after known (if t then size + row_size v else size) vs ≤ rows_limit → first_visit_fault known size (v ∷ vs) ≡ None
    by true t rec h = pass (size + row_size v) (p.0.rows t size (omega (arith, h, size-up known (size + row_size v) vs))) (sym (ap (λ (b : Bool). if b then size + row_size v else size) t)) (rec (size + row_size v) h)
    by false t rec h = pass size (p.0.dirs t size) (sym (ap (λ (b : Bool). if b then size + row_size v else size) t)) (rec size h)

row-or-dir : (known : List Object) (v : FileRow) → is_row known v ≡ false → is_directory v.mode ≡ true
row-or-dir known v h = by (is_directory v.mode) h
  where
    by : (t : Bool) → (not t || has_no_entries (tree_at known v.id)) ≡ false → t ≡ true
    by true h = refl
    by false h = absurd cc

within : (size n : ℕ) → size + n ≤ rows_limit → nat_lt rows_limit (size + n) ≡ false
within size n h = grind (arith, h, nat_tests)

-- ---- the whole

deep-rows : (rows : List FileRow) → Each IsFileRow rows → Each (IsDeep 256) rows
deep-rows rows f = Each-weaker IsFileRow (IsDeep 256) (λ r is. fit-short r.path is.fit) rows f

module _ (known : List Object) (rows : List FileRow) (w : AreWalkable known rows) where
  abbrev walked : List FileRow
  walked = by_walk rows

  files : Each IsFileRow walked
  files = each_from IsFileRow walked (λ r i. each_in IsFileRow rows r w.files.each (of-order is_met_before r rows i))

  good : Good walked
  good = walk-good rows w.files w.apart

  held : AreKnown known (trees_of_rows 257 walked)
  held = subst (AreKnown known) (sym (ap (trees_of_rows 257) (sym (shorts-none walked)) ∙ trees-is rows w.files)) w.trees

  root_is : root_of rows ≡ id_of_rows 257 walked
  root_is = sym (ap (id_of_rows 257) (sym (shorts-none walked)) ∙ root-is rows w.files)

  whole : Sound known 257 (id_of_rows 257 walked) (entries_in 256 (leaves walked))
  whole = (growing known 256).sound walked good files (deep-rows walked files) held

  met-again : met_rows known (root_of rows) ≡ walked
  met-again = ap (met_rows known) root_is
      ∙ same-leaves (met_rows known (id_of_rows 257 walked)) walked
      (walk-leaves known (id_of_rows 257 walked) w.objects ∙ (growing known 256).leaves_are walked good files (deep-rows walked files) held)

  pub rows-again : tree_rows known (root_of rows) ≡ rows
  rows-again = ap by_paths met-again ∙ walk-back rows w.files w.apart

  among : (x : FileRow) → In x (walk known (id_of_rows 257 walked)) → is_row known x ≡ true → In x rows
  among x j r = of-order is_met_before x rows (subst (λ (rs : List FileRow). In x rs) (ap (met_rows known) (sym root_is) ∙ met-again) (in-filter (is_row known) x (walk known (id_of_rows 257 walked)) j r))

  passing : (v : FileRow) → In v (walk known (id_of_rows 257 walked)) → Passing known v
  passing v i = record {
    rows = λ r size le.
        let j = among v i r in
        let f = each_in IsFileRow rows v w.files.each j in
        row-none known size v f.fit (each_in (λ row. is_object_there known row ≡ true) rows v w.objects_there j) (within size (row_size v) le);
    dirs = λ r size.
        let n = inside known w.objects 257 [] (id_of_rows 257 walked) (entries_in 256 (leaves walked)) whole v i r in
        let f = each_in IsFileRow rows n.behind.row w.files.each (among n.behind.row n.behind.in_them n.behind.is_one) in
        let fit = (fit-pieces v.path n.behind.rest (sym (ap is_fit_path n.behind.is) ∙ f.fit)).first in
        dir-none known size v fit (dir-there known v n.subtree (row-or-dir known v r) n.is) r;
  }

  pub no-fault : walk_fault known (root_of rows) ≡ None
  no-fault =
      let small : size_after known 0 (walk known (id_of_rows 257 walked)) ≤ rows_limit =
      omega (arith, w.within, size-sum known 0 (walk known (id_of_rows 257 walked)), ap (λ (rs : List FileRow). sum_by row_size rs) (ap (met_rows known) (sym root_is) ∙ met-again), sum-order is_met_before rows) in
      ap (walk_fault known) root_is ∙ walk-fault known (id_of_rows 257 walked) (entries_in 256 (leaves walked)) whole.0
      ∙ none-refused known 0 (walk known (id_of_rows 257 walked)) (each_from (Passing known) (walk known (id_of_rows 257 walked)) (λ v i. passing v i)) small
