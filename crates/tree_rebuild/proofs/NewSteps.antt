-- The new trees of rows, one entry after the other.
use Rattle.text_model.proofs.Options.{some_is}
use Rattle.std.proofs.Common.{◌≡◌, ◌≢◌, ◌<◌, ◌+◌, ◌-◌, ℕ, zero, suc, Bool, true, false, not, ◌&&◌, List, [], ◌∷◌, ◌++◌, length, take, drop, map, Option, Some, None, refl, sym, ap, subst, ◌∙◌, append-nil, append_assoc, arith}
use Rattle.std.specs.Prelude.{filter, if◌then◌else◌, slice_get}
use Rattle.std.specs.List.{flat_map, prefix_len}
use Rattle.std.proofs.lemmas.List.{map-append, take-map, drop-map, take-append-drop}
use Rattle.std.proofs.lemmas.List.Elements.{filter-append}
use Rattle.text_model.specs.Lists.{Each}
use Rattle.text_model.specs.Text.{Bytes}
use Rattle.text_model.specs.Id.{Id, tree, object_id}
use Rattle.text_model.specs.Cuts.{cut_of}
use Rattle.text_model.proofs.TestLemmas.{bytes_eq-self}
use Rattle.git_model.specs.Tree.{is_directory, TreeEntry, tree_text}
use Rattle.git_model.specs.Object.{Object, object_of}
use Rattle.git_model.specs.Unfold.{FileRow}
use Rattle.git_model.specs.Shape.{Leaf, leaf_of, first_names, leaves_below, shape_entries, shape_objects}
use Rattle.tree_shape.specs.Shapes.{short, shorts, Good, is_in, entry_of, entries_in, trees_of_rows}
use Rattle.tree_shape.specs.Wholes.{put_name}
use Rattle.tree_shape.proofs.Leaves.{HasFirst, NotFirst, OneName, entries-step, flat-other, of-names, first_names-other, entry_of-name, entry_by, other}
use Rattle.tree_shape.proofs.Leaves as leaves
use Rattle.tree_shape.proofs.Rows.{Splits, deep, in-is, dir-one, file-one, flat, no-file, components-some, shorter}
use Rattle.tree_shape.proofs.Turns.{prefix-all, prefix-stops, shorts-more, some-first}
use Rattle.tree_shape.proofs.PutRows.{file-entry}
use Rattle.tree_shape.proofs.VisitLemmas.{dir-mode}
use Rattle.tree_shape.proofs.Sorted.{shape-is}
use Rattle.tree_shape.proofs.Rebuilding.{HasName, below-put}
use Rattle.tree_rebuild.specs.News.{same_leaves, ends_in, lies_in, is_leaf_in, leaves_in_directory, new_of, new_in, has_group, new_group, empty_leaf, has_empty, new_row}
use Rattle.tree_rebuild.proofs.SameSteps.{named-leaves}
use Rattle.tree_rebuild.proofs.OldLeaves.{in-same}

-- ---- leaves of one name, and those behind them

first-not : (m n : Bytes) (leaf : Leaf) → n ≢ m → HasFirst n leaf → is_leaf_in (m ∷ []) leaf ≡ false
first-not m n leaf ne h = by leaf.names h
  where
    by : (names : List Bytes) → (elim names as (λ _. Option Bytes) [ [] ↦ None | x ∷ more ↦ Some x ]) ≡ Some n → lies_in (m ∷ []) leaf.mode names ≡ false
    by [] h = refl
    by (x ∷ names) h = ap (λ (t : Bool). t && ends_in leaf.mode names) (other x m (λ q. ne (sym (some_is {x = x} {y = n} h) ∙ q)))

not-first : (n : Bytes) (leaf : Leaf) → NotFirst n leaf → is_leaf_in (n ∷ []) leaf ≡ false
not-first n leaf h = by leaf.names h
  where
    by : (names : List Bytes) → ((elim names as (λ _. Option Bytes) [ [] ↦ None | x ∷ more ↦ Some x ]) ≡ Some n → ⊥) → lies_in (n ∷ []) leaf.mode names ≡ false
    by [] h = refl
    by (x ∷ names) h = ap (λ (t : Bool). t && ends_in leaf.mode names) (other x n (λ q. h (ap (λ (m : Bytes). Some m) q)))

filter-no : (p : Leaf → Bool) (leaves : List Leaf) → Each (λ l. p l ≡ false) leaves → filter p leaves ≡ []
filter-no p [] h = refl
filter-no p (l ∷ leaves) h = ap (λ (t : Bool). if t then l ∷ filter p leaves else filter p leaves) h.0 ∙ filter-no p leaves h.1

all-first : (m n : Bytes) (leaves : List Leaf) → n ≢ m → Each (HasFirst n) leaves → Each (λ l. is_leaf_in (m ∷ []) l ≡ false) leaves
all-first m n [] ne h = tt
all-first m n (l ∷ leaves) ne h = (first-not m n l ne h.0, all-first m n leaves ne h.1)

all-not : (n : Bytes) (leaves : List Leaf) → Each (NotFirst n) leaves → Each (λ l. is_leaf_in (n ∷ []) l ≡ false) leaves
all-not n [] h = tt
all-not n (l ∷ leaves) h = (not-first n l h.0, all-not n leaves h.1)

in-others : (m n : Bytes) (group rest : List Leaf) → n ≢ m → Each (HasFirst n) group → leaves_in_directory (m ∷ []) (group ++ rest) ≡ leaves_in_directory (m ∷ []) rest
in-others m n group rest ne h = filter-append (is_leaf_in (m ∷ [])) group rest ∙ ap (λ (l : List Leaf). l ++ leaves_in_directory (m ∷ []) rest) (filter-no (is_leaf_in (m ∷ [])) group (all-first m n group ne h))

in-own : (n : Bytes) (group rest : List Leaf) → Each (NotFirst n) rest → leaves_in_directory (n ∷ []) (group ++ rest) ≡ leaves_in_directory (n ∷ []) group
in-own n group rest h =
    filter-append (is_leaf_in (n ∷ [])) group rest ∙ ap (λ (l : List Leaf). leaves_in_directory (n ∷ []) group ++ l) (filter-no (is_leaf_in (n ∷ [])) rest (all-not n rest h))
    ∙ append-nil (leaves_in_directory (n ∷ []) group)

-- the new trees of an entry, by the leaves in it and those below it
abbrev new_by : (List Leaf → List Leaf → List Object) → List Leaf → TreeEntry → List Leaf → List Leaf → List Object
new_by below old e inside under = if is_directory e.mode && not (same_leaves (leaves_in_directory (e.name ∷ []) old) inside) then below (leaves_below e.name old) under else []

module _ (depth : ℕ) (old : List Leaf) where
  abbrev pub of_entry : List Leaf → TreeEntry → List Object
  of_entry new e = new_of (new_in depth) old new e

  -- those of all entries
  abbrev pub new_entries : List Leaf → List Object
  new_entries new = flat_map (of_entry new) (entries_in depth new)

  new-other : (n : Bytes) (leaf : Leaf) (group rest : List Leaf) → OneName n leaf group rest → (e : TreeEntry) → n ≢ e.name → of_entry (leaf ∷ (group ++ rest)) e ≡ of_entry rest e
  new-other n leaf group rest one e ne =
      (λ k. new_by (new_in depth) old e (in-others e.name n (leaf ∷ group) rest ne (one.first, one.more) k) (leaves.below-other e.name n (leaf ∷ group) rest ne (one.first, one.more) k))

  new-same : (n : Bytes) (leaf : Leaf) (group rest : List Leaf) → OneName n leaf group rest → (e : TreeEntry) → n ≡ e.name → of_entry (leaf ∷ (group ++ rest)) e ≡ of_entry (leaf ∷ group) e
  new-same n leaf group rest one e is =
      let P : Bytes → Type 0 = λ m. ((if is_directory e.mode && not (same_leaves (leaves_in_directory (m ∷ []) old) (leaves_in_directory (m ∷ []) (leaf ∷ (group ++ rest)))) then new_in depth (leaves_below m old) (leaves_below m (leaf ∷ (group ++ rest))) else [])
      ≡ (if is_directory e.mode && not (same_leaves (leaves_in_directory (m ∷ []) old) (leaves_in_directory (m ∷ []) (leaf ∷ group))) then new_in depth (leaves_below m old) (leaves_below m (leaf ∷ group)) else [])) in
      subst P is (λ k. if is_directory e.mode && not (same_leaves (leaves_in_directory (n ∷ []) old) (in-own n (leaf ∷ group) rest one.others k)) then new_in depth (leaves_below n old) (leaves.below-same n (leaf ∷ group) rest one.others k) else [])

  new-step : (n : Bytes) (leaf : Leaf) (group rest : List Leaf) → OneName n leaf group rest → new_entries (leaf ∷ (group ++ rest)) ≡ of_entry (leaf ∷ group) (entry_of depth (leaf ∷ group) n) ++ new_entries rest
  new-step n leaf group rest one =
      ap (flat_map (of_entry (leaf ∷ (group ++ rest)))) (entries-step depth n leaf group rest one)
      ∙ (λ k. new-same n leaf group rest one (entry_of depth (leaf ∷ group) n) (sym (entry_of-name depth (leaf ∷ group) n)) k
      ++ flat-other (of_entry (leaf ∷ (group ++ rest))) (of_entry rest) (entries_in depth rest)
      (λ e i.
      let o = of-names (entry_of depth rest) (first_names rest) e i in
      new-other n leaf group rest one e
      (λ s. first_names-other n rest one.others o.0 o.1 (s ∙ ap (λ (x : TreeEntry). x.name) o.2 ∙ entry_of-name depth rest o.0))) k)

  turned : (t : Bool) (os : List Object) → (if not t then os else []) ≡ (if t then [] else os)
  turned true os = refl
  turned false os = refl

  -- the entry of a directory
  dir-entry : (name : Bytes) (a : FileRow) (rows : List FileRow) (group : List Leaf) → Each (λ t. is_in name t ≡ true) (a ∷ rows) → map leaf_of (a ∷ rows) ≡ map (put_name name) group → Each HasName group
      → of_entry (map leaf_of (a ∷ rows)) (entry_of depth (map leaf_of (a ∷ rows)) name) ≡ new_group depth old name group
  dir-entry name a rows group all is names =
      ap (of_entry (map leaf_of (a ∷ rows))) (λ k. entry_by depth name (no-file name (a ∷ rows) all k) (leaves_below name (map leaf_of (a ∷ rows))))
      ∙ (λ k. if not (same_leaves (leaves_in_directory (name ∷ []) old) (leaves_in_directory (name ∷ []) (is k))) then new_in depth (leaves_below name old) (leaves_below name (is k)) else [])
      ∙ (λ k. if not (same_leaves (leaves_in_directory (name ∷ []) old) (inside k)) then new_in depth (leaves_below name old) (below-put name group names k) else [])
      ∙ turned (has_group name old group) (new_in depth (leaves_below name old) group)
    where
      inside : leaves_in_directory (name ∷ []) (map (put_name name) group) ≡ map (put_name name) group
      inside = ap (leaves_in_directory (name ∷ [])) (sym (append-nil (map (put_name name) group))) ∙ in-same name group [] names ∙ append-nil (map (put_name name) group)

  -- the new trees of no rows
  new-none : (d : ℕ) (xs : List Leaf) → new_in d xs [] ≡ trees_of_rows d []
  unfolding new_in shape_entries shape_objects
  new-none zero xs = refl
  new-none (suc d) xs = refl

  -- the entry of a row of one name
  row-entry : (a : FileRow) → cut_of 47 a.path ≡ None → (is_directory a.mode ≡ true → a.id ≡ object_id tree []) → of_entry (leaf_of a ∷ []) (entry_of depth (leaf_of a ∷ []) a.path) ≡ new_row depth old a.path a
  row-entry a c empty = ap (of_entry (leaf_of a ∷ [])) (file-entry depth a (flat a.path c)) ∙ by (is_directory a.mode) refl
    where
      one : is_directory a.mode ≡ true → leaf_of a ≡ empty_leaf a.path
      one d = (λ k. record { names = (flat a.path c).parts k; mode = dir-mode a.mode d k; id = empty d k; content = [] })

      inside : leaves_in_directory (a.path ∷ []) (empty_leaf a.path ∷ []) ≡ empty_leaf a.path ∷ []
      inside = ap (λ (t : Bool). if t && true then empty_leaf a.path ∷ [] else []) (bytes_eq-self a.path)

      by : (t : Bool) → is_directory a.mode ≡ t → (if t && not (same_leaves (leaves_in_directory (a.path ∷ []) old) (leaves_in_directory (a.path ∷ []) (leaf_of a ∷ []))) then new_in depth (leaves_below a.path old) (leaves_below a.path (leaf_of a ∷ [])) else [])
          ≡ (if t && not (has_empty a.path old) then trees_of_rows depth [] else [])
      by false t = refl
      by true t =
          (λ k. if not (same_leaves (leaves_in_directory (a.path ∷ []) old) (leaves_in_directory (a.path ∷ []) (one t k ∷ []))) then new_in depth (leaves_below a.path old) (leaves_below a.path (one t k ∷ [])) else [])
          ∙ (λ k. if not (same_leaves (leaves_in_directory (a.path ∷ []) old) (inside k)) then new-none depth (leaves_below a.path old) k else [])

  -- ---- a turn of the loop

  all-named : (rows : List FileRow) → Each HasName (map leaf_of rows)
  all-named [] = tt
  all-named (row ∷ rows) = (components-some row.path, all-named rows)

  pub group-new : (skip : ℕ) (name after : Bytes) (rows front back : List FileRow) (first : FileRow) (count : ℕ) → Some first ≡ slice_get rows 0
      → Some (name, after) ≡ cut_of 47 (drop skip first.path) → count ≡ prefix_len (is_in name) (shorts skip rows) → front ≡ take count rows → back ≡ drop count rows → Good (shorts skip rows)
      → new_entries (map leaf_of (shorts skip rows)) ≡ new_group depth old name (map leaf_of (shorts (skip + length name + 1) front)) ++ new_entries (map leaf_of (shorts skip back))
  group-new skip name after [] front back first count f c n p q g = absurd (none f)
    where
      none : Some first ≡ None → ⊥
      none e = cc
  group-new skip name after (r ∷ rows) front back first count f c n p q g =
      let is : first ≡ r = some-first first r f in
      let d = deep (short skip r).path name after (sym (c ∙ ap (λ (x : FileRow). cut_of 47 (drop skip x.path)) is)) in
      let yes_in : is_in name (short skip r) ≡ true = in-is name after (short skip r) d.plain d.is in
      let m : ℕ = prefix_len (is_in name) (shorts skip rows) in
      let one : count ≡ suc m = omega (arith, n ∙ ap (λ (b : Bool). if b then 1 + m else 0) yes_in) in
      let front_is : front ≡ r ∷ take m rows = p ∙ ap (λ (k : ℕ). take k (r ∷ rows)) one in
      let back_is : back ≡ drop m rows = q ∙ ap (λ (k : ℕ). drop k (r ∷ rows)) one in
      let G : List FileRow = shorts skip (take m rows) in
      let R : List FileRow = shorts skip (drop m rows) in
      let whole : shorts skip rows ≡ G ++ R = ap (shorts skip) (sym (take-append-drop m rows)) ∙ map-append (short skip) (take m rows) (drop m rows) in
      let good : Good (short skip r ∷ (G ++ R)) = subst (λ (s : List FileRow). Good (short skip r ∷ s)) whole g in
      let splits : Splits name (short skip r) G R = record {
        all = (yes_in, subst (λ (s : List FileRow). Each (λ t. is_in name t ≡ true) s) (take-map (short skip) m rows) (prefix-all (is_in name) (shorts skip rows)));
        stops = λ t more e. prefix-stops (is_in name) (shorts skip rows) t more (drop-map (short skip) m rows ∙ e);
      } in
      let under : map leaf_of (shorts (skip + length name + 1) front) ≡ map leaf_of (map (shorter name) (short skip r ∷ G)) =
      ap (map leaf_of) (shorts-more skip name front ∙ ap (λ (s : List FileRow). map (shorter name) (shorts skip s)) front_is) in
      ap (λ (s : List FileRow). new_entries (map leaf_of (short skip r ∷ s))) whole
      ∙ ap (λ (l : List Leaf). new_entries (leaf_of (short skip r) ∷ l)) (map-append leaf_of G R)
      ∙ new-step name (leaf_of (short skip r)) (map leaf_of G) (map leaf_of R) (dir-one name (short skip r) G R good splits)
      ∙ (λ k. (dir-entry name (short skip r) G (map leaf_of (map (shorter name) (short skip r ∷ G))) splits.all (named-leaves name (short skip r ∷ G) splits.all) (all-named (map (shorter name) (short skip r ∷ G)))
      ∙ ap (new_group depth old name) (sym under)) k ++ new_entries (map leaf_of (shorts skip (sym back_is k))))

  pub row-new : (skip : ℕ) (rows back : List FileRow) (first : FileRow) → Some first ≡ slice_get rows 0 → None ≡ cut_of 47 (drop skip first.path) → back ≡ drop 1 rows → Good (shorts skip rows)
      → new_entries (map leaf_of (shorts skip rows)) ≡ new_row depth old (drop skip first.path) first ++ new_entries (map leaf_of (shorts skip back))
  row-new skip [] back first f c q g = absurd (none f)
    where
      none : Some first ≡ None → ⊥
      none e = cc
  row-new skip (r ∷ rows) back first f c q g =
      let is : first ≡ r = some-first first r f in
      let e : cut_of 47 (short skip r).path ≡ None = sym (c ∙ ap (λ (x : FileRow). cut_of 47 (drop skip x.path)) is) in
      new-step (short skip r).path (leaf_of (short skip r)) [] (map leaf_of (shorts skip rows)) (file-one (short skip r) (shorts skip rows) g e)
      ∙ (λ k. (row-entry (short skip r) e g.0.empty ∙ ap (λ (x : FileRow). new_row depth old (drop skip x.path) x) (sym is)) k ++ new_entries (map leaf_of (shorts skip (sym q k))))

new-is : (d : ℕ) (old : List Leaf) (rows : List FileRow) → Good rows → new_in (suc d) old (map leaf_of rows) ≡ new_entries d old (map leaf_of rows) ++ object_of tree (tree_text (entries_in d (map leaf_of rows))) ∷ []
unfolding new_in
new-is d old rows good = ap (λ (es : List TreeEntry). flat_map (of_entry d old (map leaf_of rows)) es ++ object_of tree (tree_text es) ∷ []) (shape-is d rows good)

-- the tree itself comes last
pub finish-new : (depth : ℕ) (old : List Leaf) (rows : List FileRow) (text : Bytes) (made before new : List Object) (id : Id) → Good rows → 0 < depth
    → text ≡ tree_text (entries_in (depth - 1) (map leaf_of rows)) → made ≡ before ++ new_entries (depth - 1) old (map leaf_of rows)
    → (id ≡ object_id tree text) × (new ≡ made ++ object_of tree text ∷ []) → new ≡ before ++ new_in depth old (map leaf_of rows)
finish-new depth old rows text made before new id good pos t m h =
    let up : suc (depth - 1) ≡ depth = omega (arith, pos) in
    subst (λ (d : ℕ). new ≡ before ++ new_in d old (map leaf_of rows)) up (
    h.1 ∙ (λ k. m k ++ object_of tree (t k) ∷ [])
    ∙ append_assoc before (new_entries (depth - 1) old (map leaf_of rows)) (object_of tree (tree_text (entries_in (depth - 1) (map leaf_of rows))) ∷ [])
    ∙ ap (λ (os : List Object). before ++ os) (sym (new-is (depth - 1) old rows good)))

pub new-zero : (levels : ℕ) (old new : List Leaf) → levels ≡ 0 → new_in levels old new ≡ []
unfolding new_in
new-zero levels old new e = ap (λ (d : ℕ). new_in d old new) e

-- a directory that was cut from the first row has rows
pub group-some : (skip : ℕ) (name after : Bytes) (rows front : List FileRow) (first : FileRow) (count : ℕ) → Some first ≡ slice_get rows 0
    → Some (name, after) ≡ cut_of 47 (drop skip first.path) → count ≡ prefix_len (is_in name) (shorts skip rows) → front ≡ take count rows → 0 < length front
group-some skip name after [] front first count f c n p = absurd (none f)
  where
    none : Some first ≡ None → ⊥
    none e = cc
group-some skip name after (r ∷ rows) front first count f c n p =
    let d = deep (short skip r).path name after (sym (c ∙ ap (λ (x : FileRow). cut_of 47 (drop skip x.path)) (some-first first r f))) in
    let yes_in : is_in name (short skip r) ≡ true = in-is name after (short skip r) d.plain d.is in
    let m : ℕ = prefix_len (is_in name) (shorts skip rows) in
    let one : count ≡ suc m = omega (arith, n ∙ ap (λ (b : Bool). if b then 1 + m else 0) yes_in) in
    let front_is : front ≡ r ∷ take m rows = p ∙ ap (λ (k : ℕ). take k (r ∷ rows)) one in
    omega (arith, ap (λ (l : List FileRow). length l) front_is)

pub none-rows : (depth : ℕ) (old : List Leaf) (made before : List Object) (all : List Object) → made ++ new_entries depth old [] ≡ before ++ all → made ≡ before ++ all
none-rows depth old made before all h = sym (append-nil made) ∙ h
