-- The trees of files that are there are whole, and have the files' leaves.
use Rattle.std.proofs.Common.{◌≡◌, ◌≢◌, ◌≤◌, ℕ, zero, suc, Bool, true, false, List, [], ◌∷◌, ◌++◌, length, take, drop, map, Option, Some, None, refl, sym, ap, subst, ◌∙◌, inl, inr, arith}
use Rattle.std.specs.Prelude.{if◌then◌else◌, bytes_eq, IsTrue}
use Rattle.std.specs.List.{flat_map, list_any, prefix_len}
use Rattle.std.proofs.lemmas.List.{map-append, take-append-drop, length-drop}
use Rattle.text_model.specs.Cuts.{cut_of}
use Rattle.text_model.specs.Lists.{In, Each}
use Rattle.text_model.specs.Text.{Bytes, IsBytes}
use Rattle.text_model.specs.Id.{Id, IsId, tree, object_id}
use Rattle.text_model.specs.Path.{components, is_fit_path, is_fit_name}
use Rattle.text_model.proofs.ByteLemmas.{IsBytes-front, IsBytes-rest}
use Rattle.text_model.proofs.EachLemmas.{Each-front, Each-rest}
use Rattle.text_model.proofs.LackLemmas.{has_byte-lacks}
use Rattle.text_model.proofs.Digests.{IsId-object_id}
use Rattle.git_model.specs.Tree.{Directory, is_directory, TreeEntry, IsTree, tree_text, has_distinct}
use Rattle.git_model.specs.Object.{Object, object_of, object_at, entries_of, tree_at}
use Rattle.git_model.specs.Unfold.{FileRow, has_no_entries}
use Rattle.git_model.specs.Shape.{Leaf, leaf_of, first_names, shape_entries, shape_objects}
use Rattle.git_model.proofs.TreeTextLemmas.{tree_entries-text}
use Rattle.tree_shape.specs.Laws.{IsKnown, AreKnown}
use Rattle.tree_shape.specs.Sets.{IsFileRow}
use Rattle.tree_shape.specs.Shapes.{entry_of, entries_in, trees_in, id_of_rows, trees_of_rows, Good, is_in}
use Rattle.tree_shape.proofs.FitPieces.{fit-pieces, fit-name}
use Rattle.tree_shape.proofs.Leaves.{NotFirst, entry_of-name, first_names-other, other}
use Rattle.tree_shape.proofs.PutRows.{entries-dir, trees-dir, entries-file, trees-file, trees-empty}
use Rattle.tree_shape.proofs.Unfolding.{text-none}
use Rattle.tree_shape.proofs.Unfolding.{row-of-last}
use Rattle.tree_shape.specs.Wholes.{put_name, leaf_at, is_leaf, entry_leaves, leaves_in, Below, Sound}
use Rattle.tree_shape.proofs.Rebuilding.{file-leaf, leaves-some}
use Rattle.tree_shape.proofs.Rows.{clash, deep, flat, is-in, in-is, Splits, file-one, dir-one, good-rest, good-front, shorter, shorter-path, shorter-good}
use Rattle.tree_shape.proofs.Sorted.{entries-rise, id-is, trees-are}
use Rattle.tree_shape.proofs.Turns.{prefix-all, prefix-stops}

abbrev pub leaves : List FileRow → List Leaf
leaves rows = map leaf_of rows

-- ---- what an entry of a tree is

abbrev pub IsEntry : TreeEntry → Type 0
IsEntry e = IsTrue (is_fit_name e.name) × IsBytes e.name × IsId e.id

abbrev pub names : List TreeEntry → List Bytes
names entries = map (λ e. e.name) entries

-- the names of entries are the first names of the leaves
names-are : (depth : ℕ) (all : List Leaf) (ns : List Bytes) → names (map (entry_of depth all) ns) ≡ ns
names-are depth all [] = refl
names-are depth all (n ∷ ns) = (λ k. entry_of-name depth all n k ∷ names-are depth all ns k)

none-same : (n : Bytes) (ns : List Bytes) → ((m : Bytes) → In m ns → n ≢ m) → list_any (bytes_eq n) ns ≡ false
none-same n [] h = refl
none-same n (m ∷ ns) h = rw (other n m (h m (inl refl)), none-same n ns (λ x i. h x (inr i))) refl

-- a name that no row has first stands before those of the rows
pub distinct-more : (depth : ℕ) (n : Bytes) (rest : List Leaf) → Each (NotFirst n) rest → has_distinct (names (entries_in depth rest)) ≡ true → has_distinct (n ∷ names (entries_in depth rest)) ≡ true
distinct-more depth n rest h d =
    let none : list_any (bytes_eq n) (names (entries_in depth rest)) ≡ false =
    ap (list_any (bytes_eq n)) (names-are depth rest (first_names rest)) ∙ none-same n (first_names rest) (first_names-other n rest h) in
    rw (none, d) refl

-- ---- rows without the name of their directory

abbrev pub IsDeep : ℕ → FileRow → Type 0
IsDeep depth row = length (components row.path) ≤ depth

pub shorter-row : (name : Bytes) (row : FileRow) → is_in name row ≡ true → IsFileRow row → IsFileRow (shorter name row)
shorter-row name row i f =
    let u = is-in name row i in
    let pieces = fit-pieces name u.0 (sym (ap is_fit_path u.1.is) ∙ f.fit) in
    record {
      fit = ap is_fit_path (shorter-path name row u) ∙ pieces.second;
      bytes = subst IsBytes (sym (shorter-path name row u)) (IsBytes-rest name (47 ∷ u.0) (subst IsBytes u.1.is f.bytes)).1;
      empty = f.empty;
      id = f.id;
    }

shorter-deep : (name : Bytes) (depth : ℕ) (row : FileRow) → is_in name row ≡ true → IsDeep (suc depth) row → IsDeep depth (shorter name row)
shorter-deep name depth row i d =
    let u = is-in name row i in
    omega (arith, d, ap (λ (c : List Bytes). length c) u.1.parts, ap (λ (p : Bytes). length (components p)) (shorter-path name row u))

put-shorter : (name : Bytes) (row : FileRow) → is_in name row ≡ true → put_name name (leaf_of (shorter name row)) ≡ leaf_of row
put-shorter name row i =
    let u = is-in name row i in
    (λ k. record { names = (ap (λ (p : Bytes). name ∷ components p) (shorter-path name row u) ∙ sym u.1.parts) k; mode = row.mode; id = row.id; content = [] })

pub all-shorter : (P Q : FileRow → Type 0) (name : Bytes) (group : List FileRow) → ((row : FileRow) → is_in name row ≡ true → P row → Q (shorter name row)) → Each (λ t. is_in name t ≡ true) group → Each P group → Each Q (map (shorter name) group)
all-shorter P Q name [] f i h = tt
all-shorter P Q name (t ∷ group) f i h = (f t i.0 h.0, all-shorter P Q name group f i.1 h.1)

put-all : (name : Bytes) (group : List FileRow) → Each (λ t. is_in name t ≡ true) group → map (put_name name) (leaves (map (shorter name) group)) ≡ leaves group
put-all name [] i = refl
put-all name (t ∷ group) i = (λ k. put-shorter name t i.0 k ∷ put-all name group i.1 k)

-- ---- the first rows of one directory

pub record Cut (name : Bytes) (a : FileRow) (rows : List FileRow) : Type 0 where
  pub group : List FileRow
  pub rest : List FileRow
  pub whole : rows ≡ group ++ rest
  pub splits : Splits name a group rest
  pub shorter_rest : length rest ≤ length rows

pub cut-group : (name : Bytes) (a : FileRow) (rows : List FileRow) → is_in name a ≡ true → Cut name a rows
cut-group name a rows i =
    let m : ℕ = prefix_len (is_in name) rows in
    record {
      group = take m rows;
      rest = drop m rows;
      whole = sym (take-append-drop m rows);
      splits = record { all = (i, prefix-all (is_in name) rows); stops = λ q more e. prefix-stops (is_in name) rows q more e };
      shorter_rest = omega (arith, length-drop m rows);
    }

module _ (known : List Object) where
  -- the trees of a level: each is whole and has the leaves of its rows
  pub record Level (depth : ℕ) : Type 0 where
    pub sound : (rows : List FileRow) → Good rows → Each IsFileRow rows → Each (IsDeep depth) rows → AreKnown known (trees_of_rows (suc depth) rows)
        → Sound known (suc depth) (id_of_rows (suc depth) rows) (entries_in depth (leaves rows))
    pub leaves_are : (rows : List FileRow) → Good rows → Each IsFileRow rows → Each (IsDeep depth) rows → AreKnown known (trees_of_rows (suc depth) rows)
        → leaves_in known (suc depth) (id_of_rows (suc depth) rows) ≡ leaves rows

  -- what the entries of rows are
  record Part (depth : ℕ) (entries : List TreeEntry) (all : List Leaf) : Type 0 where
    each : Each IsEntry entries
    distinct : has_distinct (names entries) ≡ true
    below : Each (Below (Sound known depth)) entries
    leaves_are : flat_map (entry_leaves known (leaves_in known depth)) entries ≡ all

  abbrev Lower : ℕ → Type 0
  Lower depth = (less : ℕ) → depth ≡ suc less → Level less

  -- an entry before others
  part-more : (depth : ℕ) (e : TreeEntry) (rest : List FileRow) (front : List Leaf) → IsEntry e → Each (NotFirst e.name) (leaves rest) → Below (Sound known depth) e → entry_leaves known (leaves_in known depth) e ≡ front
      → Part depth (entries_in depth (leaves rest)) (leaves rest) → Part depth (e ∷ entries_in depth (leaves rest)) (front ++ leaves rest)
  part-more depth e rest front is others b l p = record {
    each = (is, p.each);
    distinct = distinct-more depth e.name (leaves rest) others p.distinct;
    below = (b, p.below);
    leaves_are = (λ k. l k ++ p.leaves_are k);
  }

  -- a row of one name
  one-part : (depth : ℕ) (a : FileRow) (rows : List FileRow) → Good (a ∷ rows) → IsFileRow a → cut_of 47 a.path ≡ None → is_leaf known (record { mode = a.mode; name = a.path; id = a.id }) ≡ true
      → Below (Sound known depth) (record { mode = a.mode; name = a.path; id = a.id })
      → Part depth (entries_in depth (leaves rows)) (leaves rows) → Part depth (entries_in depth (leaves (a ∷ rows))) (leaves (a ∷ rows))
  one-part depth a rows g f e l b p =
      let fl = flat a.path e in
      let entry : TreeEntry = record { mode = a.mode; name = a.path; id = a.id } in
      subst (λ (es : List TreeEntry). Part depth es (leaves (a ∷ rows))) (sym (entries-file depth a rows g e))
      (part-more depth entry rows (leaf_of a ∷ []) (fit-name a.path f.fit (has_byte-lacks 47 a.path fl.plain), f.bytes, f.id) (file-one a rows g e).others b
      (ap (λ (t : Bool). if t then leaf_at entry ∷ [] else map (put_name a.path) (leaves_in known depth a.id)) l ∙ (λ k. record { names = sym fl.parts k; mode = a.mode; id = a.id; content = [] } ∷ [])) p)

  file-part : (depth : ℕ) (a : FileRow) (rows : List FileRow) → Good (a ∷ rows) → IsFileRow a → cut_of 47 a.path ≡ None → is_directory a.mode ≡ false → Part depth (entries_in depth (leaves rows)) (leaves rows) → Part depth (entries_in depth (leaves (a ∷ rows))) (leaves (a ∷ rows))
  file-part depth a rows g f e file p = one-part depth a rows g f e (file-leaf known (record { mode = a.mode; name = a.path; id = a.id }) file) (λ d. absurd (clash (sym d ∙ file))) p

  -- an empty subtree is there
  empty-tree : (less : ℕ) → AreKnown known (trees_of_rows (suc less) []) → tree_at known (object_id tree []) ≡ Some []
  unfolding shape_objects shape_entries
  empty-tree less k =
      let own : object_at known (object_id tree (tree_text [])) ≡ Some (object_of tree (tree_text [])) = k.0 in
      ap (λ (text : Bytes). tree_at known (object_id tree text)) (sym text-none) ∙ ap entries_of own ∙ ap (λ (es : List TreeEntry). Some es) (tree_entries-text (tree_text []) [] ((tt, refl, refl), refl))

  empty-part : (depth : ℕ) (a : FileRow) (rows : List FileRow) → Good (a ∷ rows) → IsFileRow a → IsDeep depth a → cut_of 47 a.path ≡ None → is_directory a.mode ≡ true → AreKnown known (trees_of_rows depth [])
      → Part depth (entries_in depth (leaves rows)) (leaves rows) → Part depth (entries_in depth (leaves (a ∷ rows))) (leaves (a ∷ rows))
  empty-part zero a rows g f deep e d k p = absurd (omega (arith, deep, ap (λ (c : List Bytes). length c) (flat a.path e).parts))
  empty-part (suc less) a rows g f deep e d k p =
      let at : tree_at known a.id ≡ Some [] = ap (tree_at known) (f.empty d) ∙ empty-tree less k in
      one-part (suc less) a rows g f e (row-of-last known a (inr at)) (λ _. ([], (at, tt))) p

  some-entries : (entries : List TreeEntry) → entries ≢ [] → has_no_entries (Some entries) ≡ false
  some-entries [] some = absurd (some refl)
  some-entries (e ∷ entries) some = refl

  no-leaves : (depth : ℕ) (id : Id) (l : Leaf) (ls : List Leaf) → tree_at known id ≡ Some [] → leaves_in known (suc depth) id ≡ l ∷ ls → ⊥
  no-leaves depth id l ls at h = none (sym (leaves-some known depth id [] at) ∙ h)
    where
      none : [] ≡ l ∷ ls → ⊥
      none q = cc

  dir-part : (depth : ℕ) → Level depth → (name after : Bytes) (a : FileRow) (group rest : List FileRow) → Good (a ∷ (group ++ rest)) → Splits name a group rest → cut_of 47 a.path ≡ Some (name, after) → Each IsFileRow (a ∷ group) → Each (IsDeep (suc depth)) (a ∷ group)
      → AreKnown known (trees_of_rows (suc depth) (map (shorter name) (a ∷ group))) → Part (suc depth) (entries_in (suc depth) (leaves rest)) (leaves rest) → Part (suc depth) (entries_in (suc depth) (leaves (a ∷ (group ++ rest)))) (leaves (a ∷ group) ++ leaves rest)
  dir-part depth level name after a group rest g s c f d k p =
      let below : List FileRow = map (shorter name) (a ∷ group) in
      let id : Id = id_of_rows (suc depth) below in
      let good : Good below = shorter-good name (a ∷ group) s.all (good-front (a ∷ group) rest g) in
      let rows : Each IsFileRow below = all-shorter IsFileRow IsFileRow name (a ∷ group) (shorter-row name) s.all f in
      let deep_rows : Each (IsDeep depth) below = all-shorter (IsDeep (suc depth)) (IsDeep depth) name (a ∷ group) (shorter-deep name depth) s.all d in
      let sub : Sound known (suc depth) id (entries_in depth (leaves below)) = level.sound below good rows deep_rows k in
      let all : leaves_in known (suc depth) id ≡ leaves below = level.leaves_are below good rows deep_rows k in
      let w = deep a.path name after c in
      let fit = fit-pieces name after (sym (ap is_fit_path w.is) ∙ f.0.fit) in
      let entry : TreeEntry = record { mode = Directory; name = name; id = id } in
      subst (λ (es : List TreeEntry). Part (suc depth) es (leaves (a ∷ group) ++ leaves rest)) (sym (entries-dir (suc depth) name a group rest g s))
      (part-more (suc depth) entry rest (leaves (a ∷ group))
      (fit-name name fit.first (has_byte-lacks 47 name w.plain), IsBytes-front name (47 ∷ after) (subst IsBytes w.is f.0.bytes), IsId-object_id tree _)
      (dir-one name a group rest g s).others
      (λ _. (entries_in depth (leaves below), sub))
      (ap (λ (t : Bool). if t then leaf_at entry ∷ [] else map (put_name name) (leaves_in known (suc depth) id)) (ap has_no_entries sub.0 ∙ some-entries (entries_in depth (leaves below)) (λ q. no-leaves depth id (leaf_of (shorter name a)) (leaves (map (shorter name) group)) (sub.0 ∙ ap (λ (es : List TreeEntry). Some es) q) all))
      ∙ ap (map (put_name name)) all ∙ put-all name (a ∷ group) s.all) p)

  part : (depth : ℕ) → Lower depth → (fuel : ℕ) (rows : List FileRow) → length rows ≤ fuel → Good rows → Each IsFileRow rows → Each (IsDeep depth) rows → AreKnown known (trees_in depth (leaves rows)) → Part depth (entries_in depth (leaves rows)) (leaves rows)
  part depth lower fuel [] le g f d k = record { each = tt; distinct = refl; below = tt; leaves_are = refl }
  part depth lower zero (a ∷ rows) le g f d k = absurd (omega (arith, le))
  part depth lower (suc fuel) (a ∷ rows) le g f d k = by (λ rest shorter g2 f2 d2 k2. part depth lower fuel rest shorter g2 f2 d2 k2) (cut_of 47 a.path) refl
    where
      dirs : (depth : ℕ) → Lower depth → (name after : Bytes) → cut_of 47 a.path ≡ Some (name, after) → Good (a ∷ rows) → Each IsFileRow (a ∷ rows) → Each (IsDeep depth) (a ∷ rows) → AreKnown known (trees_in depth (leaves (a ∷ rows)))
          → ((rest : List FileRow) → length rest ≤ length rows → Good rest → Each IsFileRow rest → Each (IsDeep depth) rest → AreKnown known (trees_in depth (leaves rest)) → Part depth (entries_in depth (leaves rest)) (leaves rest))
          → Part depth (entries_in depth (leaves (a ∷ rows))) (leaves (a ∷ rows))
      dirs zero lower name after e g f d k rec =
          let w = deep a.path name after e in
          absurd (omega (arith, d.0, ap (λ (c : List Bytes). length c) w.parts))
      dirs (suc depth) lower name after e g f d k rec =
          let w = deep a.path name after e in
          let c = cut-group name a rows (in-is name after a w.plain w.is) in
          let g2 : Good (a ∷ (c.group ++ c.rest)) = subst (λ (r : List FileRow). Good (a ∷ r)) c.whole g in
          let f2 : Each IsFileRow ((a ∷ c.group) ++ c.rest) = subst (λ (r : List FileRow). Each IsFileRow (a ∷ r)) c.whole f in
          let d2 : Each (IsDeep (suc depth)) ((a ∷ c.group) ++ c.rest) = subst (λ (r : List FileRow). Each (IsDeep (suc depth)) (a ∷ r)) c.whole d in
          let k2 : AreKnown known (trees_of_rows (suc depth) (map (shorter name) (a ∷ c.group)) ++ trees_in (suc depth) (leaves c.rest)) =
          subst (λ (os : List Object). AreKnown known os) (ap (λ (r : List FileRow). trees_in (suc depth) (leaves (a ∷ r))) c.whole ∙ trees-dir (suc depth) name a c.group c.rest g2 c.splits) k in
          let rest = rec c.rest c.shorter_rest (good-rest (a ∷ c.group) c.rest g2) (Each-rest IsFileRow (a ∷ c.group) c.rest f2) (Each-rest (IsDeep (suc depth)) (a ∷ c.group) c.rest d2)
          (Each-rest (IsKnown known) (trees_of_rows (suc depth) (map (shorter name) (a ∷ c.group))) (trees_in (suc depth) (leaves c.rest)) k2) in
          let p = dir-part depth (lower depth refl) name after a c.group c.rest g2 c.splits e (Each-front IsFileRow (a ∷ c.group) c.rest f2) (Each-front (IsDeep (suc depth)) (a ∷ c.group) c.rest d2)
          (Each-front (IsKnown known) (trees_of_rows (suc depth) (map (shorter name) (a ∷ c.group))) (trees_in (suc depth) (leaves c.rest)) k2) rest in
          subst (λ (r : List FileRow). Part (suc depth) (entries_in (suc depth) (leaves (a ∷ r))) (leaves (a ∷ r))) (sym c.whole)
          (subst (λ (l : List Leaf). Part (suc depth) (entries_in (suc depth) (leaves (a ∷ (c.group ++ c.rest)))) l) (sym (map-append leaf_of (a ∷ c.group) c.rest)) p)

      by : ((rest : List FileRow) → length rest ≤ fuel → Good rest → Each IsFileRow rest → Each (IsDeep depth) rest → AreKnown known (trees_in depth (leaves rest)) → Part depth (entries_in depth (leaves rest)) (leaves rest))
          → (o : Option (Bytes × Bytes)) → cut_of 47 a.path ≡ o → Part depth (entries_in depth (leaves (a ∷ rows))) (leaves (a ∷ rows))
      by rec None e = one (is_directory a.mode) refl
        where
          one : (t : Bool) → is_directory a.mode ≡ t → Part depth (entries_in depth (leaves (a ∷ rows))) (leaves (a ∷ rows))
          one false t = file-part depth a rows g f.0 e t (rec rows (omega (arith, le)) g.2 f.1 d.1 (subst (λ (os : List Object). AreKnown known os) (trees-file depth a rows g e t) k))
          one true t =
              let k2 : AreKnown known (trees_of_rows depth [] ++ trees_in depth (leaves rows)) = subst (λ (os : List Object). AreKnown known os) (trees-empty depth a rows g e t) k in
              empty-part depth a rows g f.0 d.0 e t (Each-front (IsKnown known) (trees_of_rows depth []) (trees_in depth (leaves rows)) k2)
              (rec rows (omega (arith, le)) g.2 f.1 d.1 (Each-rest (IsKnown known) (trees_of_rows depth []) (trees_in depth (leaves rows)) k2))
      by rec (Some q) e = dirs depth lower q.0 q.1 e g f d k (λ rest shorter g2 f2 d2 k2. rec rest (omega (arith, le, shorter)) g2 f2 d2 k2)

  -- the entries of rows are those of a tree, and the tree is there
  record At (depth : ℕ) (rows : List FileRow) : Type 0 where
    part_of : Part depth (entries_in depth (leaves rows)) (leaves rows)
    at : tree_at known (id_of_rows (suc depth) rows) ≡ Some (entries_in depth (leaves rows))

  there-at : (depth : ℕ) → Lower depth → (rows : List FileRow) → Good rows → Each IsFileRow rows → Each (IsDeep depth) rows → AreKnown known (trees_of_rows (suc depth) rows) → At depth rows
  there-at depth lower rows g f d k =
      let entries : List TreeEntry = entries_in depth (leaves rows) in
      let k2 : AreKnown known (trees_in depth (leaves rows) ++ object_of tree (tree_text entries) ∷ []) = subst (λ (os : List Object). AreKnown known os) (trees-are depth rows g) k in
      let p = part depth lower (length rows) rows (omega arith) g f d (Each-front (IsKnown known) (trees_in depth (leaves rows)) (object_of tree (tree_text entries) ∷ []) k2) in
      let own : object_at known (object_id tree (tree_text entries)) ≡ Some (object_of tree (tree_text entries)) = (Each-rest (IsKnown known) (trees_in depth (leaves rows)) (object_of tree (tree_text entries) ∷ []) k2).0 in
      let is : IsTree entries = (p.each, entries-rise depth rows g, p.distinct) in
      record {
        part_of = p;
        at = ap (tree_at known) (id-is depth rows g) ∙ ap entries_of own ∙ ap (λ (es : List TreeEntry). Some es) (tree_entries-text (tree_text entries) entries (is, refl));
      }

  step : (depth : ℕ) → Lower depth → Level depth
  step depth lower = record {
    sound = λ rows g f d k. let t = there-at depth lower rows g f d k in (t.at, t.part_of.below);
    leaves_are = λ rows g f d k.
        let t = there-at depth lower rows g f d k in
        leaves-some known depth (id_of_rows (suc depth) rows) (entries_in depth (leaves rows)) t.at ∙ t.part_of.leaves_are;
  }

  pub growing : (depth : ℕ) → Level depth
  growing zero = step zero (λ less e. absurd (omega (arith, e)))
  growing (suc depth) = step (suc depth) (λ less e. let same : depth ≡ less = omega (arith, e) in subst Level same (growing depth))
