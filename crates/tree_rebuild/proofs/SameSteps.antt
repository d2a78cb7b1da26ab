-- Whether a tree has exactly these rows: one entry after the other.
use Rattle.std.proofs.Common.{◌≡◌, ◌≢◌, ◌<◌, ◌+◌, ℕ, zero, suc, Bool, true, false, not, ◌&&◌, List, [], ◌∷◌, ◌++◌, length, take, drop, get_or, map, Option, Some, None, refl, sym, ap, subst, ◌∙◌, arith}
use Rattle.std.specs.Prelude.{if◌then◌else◌, bytes_eq}
use Rattle.std.specs.List.{flat_map, prefix_len}
use Rattle.std.proofs.lemmas.List.{map-append, take-map, drop-map, take-append-drop}
use Rattle.std.proofs.lemmas.Slice.Eq.{bytes_eq-Decides}
use Rattle.std.proofs.Math.Seq.{drop-cons}
use Rattle.text_model.specs.Lists.{Each}
use Rattle.text_model.specs.Text.{Bytes}
use Rattle.text_model.specs.Path.{components}
use Rattle.text_model.specs.Cuts.{cut_of, Lacks}
use Rattle.text_model.proofs.TestLemmas.{bytes_eq-self}
use Rattle.git_model.specs.Tree.{TreeEntry, has_distinct}
use Rattle.git_model.specs.Object.{Object}
use Rattle.git_model.specs.Unfold.{FileRow}
use Rattle.git_model.specs.Shape.{Leaf, leaf_of}
use Rattle.tree_shape.specs.Shapes.{short, shorts, is_in}
use Rattle.tree_shape.specs.Wholes.{put_name, leaf_at, is_leaf, entry_leaves, leaves_in, Below, Sound, tree_leaves}
use Rattle.tree_shape.proofs.Names.{components-one, IsName, same-components}
use Rattle.tree_shape.proofs.Leaves.{NotFirst}
use Rattle.tree_shape.proofs.Rows.{deep, flat, in-is, is-in, shape, goes_on, ends, shorter, shorter-path, components-some}
use Rattle.tree_shape.proofs.Turns.{prefix-all, prefix-stops, shorts-more}
use Rattle.tree_shape.proofs.Rebuilding.{HasName, named, leaves-named, of-names, distinct-later}
use Rattle.tree_rebuild.specs.News.{same_leaves, same_leaf}
use Rattle.tree_shape.proofs.Rows.{clash}
use Rattle.tree_rebuild.proofs.SameLeaves.{leaf-other, leaf-self, leaves-put, Stops, parts-same}
use Rattle.tree_rebuild.proofs.Kept.{sound-leaves}

-- the name comes first, and more names behind it
abbrev deeper : Bytes → List Bytes → Bool
deeper name [] = false
deeper name (x ∷ []) = false
deeper name (x ∷ y ∷ names) = bytes_eq x name

abbrev is_deeper : Bytes → Leaf → Bool
is_deeper name leaf = deeper name leaf.names

stops-all : (name : Bytes) (leaves : List Leaf) → Each (NotFirst name) leaves → Stops (is_deeper name) leaves
stops-all name [] h = tt
stops-all name (leaf ∷ leaves) h = by leaf.names h.0
  where
    by : (names : List Bytes) → ((elim names as (λ _. Option Bytes) [ [] ↦ None | x ∷ more ↦ Some x ]) ≡ Some name → ⊥) → deeper name names ≡ false
    by [] h = refl
    by (x ∷ []) h = refl
    by (x ∷ y ∷ names) h = test (bytes_eq x name) refl
      where
        test : (t : Bool) → bytes_eq x name ≡ t → bytes_eq x name ≡ false
        test true t = absurd (h (ap (λ (m : Bytes). Some m) ((bytes_eq-Decides x name).0 t)))
        test false t = t

-- a row that isn't in the directory
out-deeper : (name : Bytes) (row : FileRow) → is_in name row ≡ false → deeper name (components row.path) ≡ false
out-deeper name row h = elim (shape row.path) [
  | ends f ↦ ap (deeper name) f.parts
  | goes_on m rest d ↦
      let c = components-some rest in
      ap (deeper name) (d.parts ∙ ap (λ (ns : List Bytes). m ∷ ns) c.2) ∙ test m rest d.plain d.is (bytes_eq m name) refl
]
  where
    test : (m rest : Bytes) → Lacks 47 m → row.path ≡ m ++ 47 ∷ rest → (t : Bool) → bytes_eq m name ≡ t → bytes_eq m name ≡ false
    test m rest plain is true t = absurd (clash (sym (in-is m rest row plain is) ∙ ap (λ (n : Bytes). is_in n row) ((bytes_eq-Decides m name).0 t) ∙ h))
    test m rest plain is false t = t

in-deeper : (name : Bytes) (row : FileRow) → is_in name row ≡ true → deeper name (components row.path) ≡ true
in-deeper name row h =
    let u = is-in name row h in
    let c = components-some u.0 in
    ap (deeper name) (u.1.parts ∙ ap (λ (ns : List Bytes). name ∷ ns) c.2) ∙ bytes_eq-self name

in-all : (name : Bytes) (rows : List FileRow) → Each (λ t. is_in name t ≡ true) rows → Each (λ l. is_deeper name l ≡ true) (map leaf_of rows)
in-all name [] h = tt
in-all name (row ∷ rows) h = (in-deeper name row h.0, in-all name rows h.1)

put-all : (name : Bytes) (leaves : List Leaf) → Each HasName leaves → Each (λ l. is_deeper name l ≡ true) (map (put_name name) leaves)
put-all name [] h = tt
put-all name (leaf ∷ leaves) h = (ap (λ (ns : List Bytes). deeper name (name ∷ ns)) h.0.2 ∙ bytes_eq-self name, put-all name leaves h.1)

stops-rows : (name : Bytes) (rows : List FileRow) → ((q : FileRow) (more : List FileRow) → rows ≡ q ∷ more → is_in name q ≡ false) → Stops (is_deeper name) (map leaf_of rows)
stops-rows name [] h = tt
stops-rows name (q ∷ rows) h = out-deeper name q (h q rows refl)

pub named-leaves : (name : Bytes) (group : List FileRow) → Each (λ t. is_in name t ≡ true) group → map leaf_of group ≡ map (put_name name) (map leaf_of (map (shorter name) group))
named-leaves name [] all = refl
named-leaves name (t ∷ group) all =
    let u = is-in name t all.0 in
    let names : components t.path ≡ name ∷ components (shorter name t).path = u.1.parts ∙ ap (λ (p : Bytes). name ∷ components p) (sym (shorter-path name t u)) in
    (λ k. record { names = names k; mode = t.mode; id = t.id; content = [] } ∷ named-leaves name group all.1 k)

-- the rows in the directory, and those behind them
pub record IsGroup (skip : ℕ) (name : Bytes) (rows group back : List FileRow) : Type 0 where
  pub parts : map leaf_of (shorts skip rows) ≡ map (put_name name) (map leaf_of (shorts (skip + length name + 1) group)) ++ map leaf_of (shorts skip back)
  pub deep : Each (λ l. is_deeper name l ≡ true) (map (put_name name) (map leaf_of (shorts (skip + length name + 1) group)))
  pub stops : Stops (is_deeper name) (map leaf_of (shorts skip back))

pub is-group : (skip : ℕ) (name : Bytes) (rows group back : List FileRow) (count : ℕ) → count ≡ prefix_len (is_in name) (shorts skip rows) → group ≡ take count rows → back ≡ drop count rows → IsGroup skip name rows group back
is-group skip name rows group back count n g b =
    let short_group : shorts skip group ≡ take (prefix_len (is_in name) (shorts skip rows)) (shorts skip rows) =
    ap (shorts skip) (g ∙ ap (λ (k : ℕ). take k rows) n) ∙ sym (take-map (short skip) (prefix_len (is_in name) (shorts skip rows)) rows) in
    let short_back : shorts skip back ≡ drop (prefix_len (is_in name) (shorts skip rows)) (shorts skip rows) =
    ap (shorts skip) (b ∙ ap (λ (k : ℕ). drop k rows) n) ∙ sym (drop-map (short skip) (prefix_len (is_in name) (shorts skip rows)) rows) in
    let all : Each (λ t. is_in name t ≡ true) (shorts skip group) = subst (Each (λ t. is_in name t ≡ true)) (sym short_group) (prefix-all (is_in name) (shorts skip rows)) in
    let leaves : map leaf_of (shorts skip group) ≡ map (put_name name) (map leaf_of (shorts (skip + length name + 1) group)) =
    named-leaves name (shorts skip group) all ∙ ap (λ (l : List FileRow). map (put_name name) (map leaf_of l)) (sym (shorts-more skip name group)) in
    record {
      parts =
          ap (λ (l : List FileRow). map leaf_of (shorts skip l)) (sym (take-append-drop count rows) ∙ (λ k. sym g k ++ sym b k))
          ∙ ap (map leaf_of) (map-append (short skip) group back) ∙ map-append leaf_of (shorts skip group) (shorts skip back)
          ∙ ap (λ (l : List Leaf). l ++ map leaf_of (shorts skip back)) leaves;
      deep = subst (Each (λ l. is_deeper name l ≡ true)) leaves (in-all name (shorts skip group) all);
      stops = stops-rows name (shorts skip back) (λ q more e. prefix-stops (is_in name) (shorts skip rows) q more (sym short_back ∙ e));
    }

module _ (known : List Object) (n skip : ℕ) where
  abbrev of : TreeEntry → List Leaf
  of e = entry_leaves known (leaves_in known n) e

  abbrev leaves : List TreeEntry → List Leaf
  leaves es = flat_map of es

  abbrev rows_leaves : List FileRow → List Leaf
  rows_leaves rows = map leaf_of (shorts skip rows)

  -- the entries have the rows
  abbrev pub Has : List TreeEntry → List FileRow → Bool
  Has es rows = same_leaves (leaves es) (rows_leaves rows)

  as-leaf : (e : TreeEntry) (es : List TreeEntry) (rows : List FileRow) → is_leaf known e ≡ true → Has (e ∷ es) rows ≡ same_leaves (leaf_at e ∷ leaves es) (rows_leaves rows)
  as-leaf e es rows l = ap (λ (t : Bool). same_leaves ((if t then leaf_at e ∷ [] else map (put_name e.name) (leaves_in known n e.id)) ++ leaves es) (rows_leaves rows)) l

  pub none-left : (e : TreeEntry) (es : List TreeEntry) → Below (Sound known n) e → Has (e ∷ es) [] ≡ false
  none-left e es b = let m = named known n e b in ap (λ (l : List Leaf). same_leaves (l ++ leaves es) []) m.are

  pub leaf-not : (e : TreeEntry) (es : List TreeEntry) (row : FileRow) (rest : List FileRow) → is_leaf known e ≡ true → IsName e.name → (short skip row ≡ record { path = e.name; mode = e.mode; id = e.id } → ⊥) → Has (e ∷ es) (row ∷ rest) ≡ false
  leaf-not e es row rest l name h =
      as-leaf e es (row ∷ rest) l
      ∙ ap (λ (t : Bool). t && same_leaves (leaves es) (rows_leaves rest)) (leaf-other (leaf_at e) (leaf_of (short skip row)) (λ q. h (λ k. record {
        path = same-components (short skip row).path e.name (sym (ap (λ (x : Leaf). x.names) q) ∙ sym (components-one e.name name.plain)) k;
        mode = sym (ap (λ (x : Leaf). x.mode) q) k;
        id = sym (ap (λ (x : Leaf). x.id) q) k;
      })))

  pub leaf-is : (e : TreeEntry) (es : List TreeEntry) (row : FileRow) (rest : List FileRow) → is_leaf known e ≡ true → IsName e.name → short skip row ≡ record { path = e.name; mode = e.mode; id = e.id } → Has (e ∷ es) (row ∷ rest) ≡ Has es rest
  leaf-is e es row rest l name h =
      let one : leaf_of (short skip row) ≡ leaf_at e = ap leaf_of h ∙ (λ k. record { names = components-one e.name name.plain k; mode = e.mode; id = e.id; content = [] }) in
      as-leaf e es (row ∷ rest) l
      ∙ ap (λ (t : Bool). t && same_leaves (leaves es) (rows_leaves rest)) (ap (same_leaf (leaf_at e)) one ∙ leaf-self (leaf_at e))

  -- ---- an entry that isn't a row

  -- its first leaf, with a name behind that of the entry
  record HasDeep (e : TreeEntry) : Type 0 where
    first : Leaf
    more : List Leaf
    name : Bytes
    names : List Bytes
    parts : first.names ≡ e.name ∷ name ∷ names
    are : of e ≡ first ∷ more

  has-deep : (e : TreeEntry) → Below (Sound known n) e → is_leaf known e ≡ false → HasDeep e
  has-deep e b l = from (leaves_in known n e.id) (leaves-named known n e.id) flat_is (named known n e b).are
    where
      flat_is : of e ≡ map (put_name e.name) (leaves_in known n e.id)
      flat_is = ap (λ (t : Bool). if t then leaf_at e ∷ [] else map (put_name e.name) (leaves_in known n e.id)) l

      from : (below : List Leaf) → Each HasName below → of e ≡ map (put_name e.name) below → {x : Leaf} {xs : List Leaf} → of e ≡ x ∷ xs → HasDeep e
      from [] h f q = absurd (no-cons (sym f ∙ q))
        where
          no-cons : {x : Leaf} {xs : List Leaf} → [] ≡ x ∷ xs → ⊥
          no-cons r = cc
      from (y ∷ below) h f q = record { first = put_name e.name y; more = map (put_name e.name) below; name = h.0.0; names = h.0.1; parts = ap (λ (ns : List Bytes). e.name ∷ ns) h.0.2; are = f }

  other-first : (e : TreeEntry) (es : List TreeEntry) (row : FileRow) (rest : List FileRow) → (d : HasDeep e) → ((x y : Bytes) (ns : List Bytes) → components (short skip row).path ≡ x ∷ y ∷ ns → x ≡ e.name → ⊥) → Has (e ∷ es) (row ∷ rest) ≡ false
  other-first e es row rest d h =
      ap (λ (l : List Leaf). same_leaves (l ++ leaves es) (rows_leaves (row ∷ rest))) d.are
      ∙ ap (λ (t : Bool). t && same_leaves (d.more ++ leaves es) (rows_leaves rest)) (leaf-other d.first (leaf_of (short skip row)) (λ q. h e.name d.name d.names (sym (ap (λ (x : Leaf). x.names) q) ∙ d.parts) refl))

  pub dir-flat : (e : TreeEntry) (es : List TreeEntry) (row : FileRow) (rest : List FileRow) → Below (Sound known n) e → is_leaf known e ≡ false → None ≡ cut_of 47 (drop skip row.path) → Has (e ∷ es) (row ∷ rest) ≡ false
  dir-flat e es row rest b l c = other-first e es row rest (has-deep e b l) (λ x y ns q s. two-one x y ns ((short skip row).path) (sym q ∙ (flat (short skip row).path (sym c)).parts))
    where
      two-one : (x y : Bytes) (ns : List Bytes) (p : Bytes) → x ∷ y ∷ ns ≡ p ∷ [] → ⊥
      two-one x y ns p q = cc

  pub dir-other : (e : TreeEntry) (es : List TreeEntry) (row : FileRow) (rest : List FileRow) (name after : Bytes) → Below (Sound known n) e → is_leaf known e ≡ false → Some (name, after) ≡ cut_of 47 (drop skip row.path) → name ≢ e.name → Has (e ∷ es) (row ∷ rest) ≡ false
  dir-other e es row rest name after b l c ne = other-first e es row rest (has-deep e b l) (λ x y ns q s. ne (same x y ns (sym q ∙ (deep (short skip row).path name after (sym c)).parts) ∙ s))
    where
      same : (x y : Bytes) (ns : List Bytes) → x ∷ y ∷ ns ≡ name ∷ components after → name ≡ x
      same x y ns q = cc

  pub dir-same : (e : TreeEntry) (es subtree : List TreeEntry) (rows group back : List FileRow) → Each (Below (Sound known n)) (e ∷ es) → has_distinct (map (λ e. e.name) (e ∷ es)) ≡ true → is_leaf known e ≡ false → Sound known n e.id subtree
      → IsGroup skip e.name rows group back
      → Has (e ∷ es) rows ≡ (same_leaves (tree_leaves known n subtree) (map leaf_of (shorts (skip + length e.name + 1) group)) && Has es back)
  dir-same e es subtree rows group back all d l s g =
      ap (λ (t : Bool). same_leaves ((if t then leaf_at e ∷ [] else map (put_name e.name) (leaves_in known n e.id)) ++ leaves es) (rows_leaves rows)) l
      ∙ ap (same_leaves (map (put_name e.name) (leaves_in known n e.id) ++ leaves es)) g.parts
      ∙ parts-same (is_deeper e.name) (map (put_name e.name) (leaves_in known n e.id)) (map (put_name e.name) (map leaf_of (shorts (skip + length e.name + 1) group))) (leaves es) (rows_leaves back)
      (put-all e.name (leaves_in known n e.id) (leaves-named known n e.id)) g.deep
      (stops-all e.name (leaves es) (of-names known n es all.1 e.name (distinct-later e es d))) g.stops
      ∙ ap (λ (t : Bool). t && Has es back)
      (leaves-put e.name (leaves_in known n e.id) (map leaf_of (shorts (skip + length e.name + 1) group))
      ∙ ap (λ (x : List Leaf). same_leaves x (map leaf_of (shorts (skip + length e.name + 1) group))) (sound-leaves known n e.id subtree s))

-- ---- the entries that are left

pub sound-deep : (known : List Object) (n : ℕ) (id : _) (entries : List TreeEntry) → Sound known n id entries → 0 < n
sound-deep known zero id entries s = absurd s
sound-deep known (suc n) id entries s = omega arith

pub left-entries : (es : List TreeEntry) (i : ℕ) (e : TreeEntry) → i < length es → e ≡ get_or es i e → drop i es ≡ e ∷ drop (i + 1) es
left-entries es i e lt is = let one : suc i ≡ i + 1 = omega arith in drop-cons es i e lt ∙ (λ k. sym is k ∷ drop (one k) es)

pub each-left : (P : TreeEntry → Type 0) (es : List TreeEntry) (i : ℕ) → Each P es → Each P (drop i es)
each-left P es zero h = h
each-left P [] (suc i) h = tt
each-left P (e ∷ es) (suc i) h = each-left P es i h.1

pub distinct-left : (es : List TreeEntry) (i : ℕ) → has_distinct (map (λ e. e.name) es) ≡ true → has_distinct (map (λ e. e.name) (drop i es)) ≡ true
distinct-left es zero h = h
distinct-left [] (suc i) h = refl
distinct-left (e ∷ es) (suc i) h = distinct-left es i (behind (not _) (has_distinct (map (λ e. e.name) es)) h)
  where
    behind : (a b : Bool) → (a && b) ≡ true → b ≡ true
    behind true b h = h
    behind false b h = absurd (clash (sym h))
