-- What a tree has in the directory of a name.
use Rattle.tree_shape.proofs.Rebuilding.{leaves-empty}
use Rattle.std.proofs.Common.{◌≡◌, ◌≢◌, ◌<◌, ◌+◌, ◌-◌, ℕ, Bool, true, false, not, ◌&&◌, ◌||◌, List, [], ◌∷◌, ◌++◌, length, map, Option, Some, None, refl, sym, ap, subst, ◌∙◌, append-nil, inl, inr, arith}
use Rattle.std.specs.Prelude.{if◌then◌else◌, bytes_eq}
use Rattle.std.specs.List.{flat_map, cons_option}
use Rattle.std.proofs.lemmas.Slice.Eq.{bytes_eq-Decides}
use Rattle.std.proofs.lemmas.Bool.{and_from}
use Rattle.text_model.specs.Lists.{In, Each}
use Rattle.text_model.specs.Text.{Bytes}
use Rattle.text_model.specs.Id.{tree, object_id}
use Rattle.text_model.proofs.Elements.{each_in}
use Rattle.text_model.proofs.TestLemmas.{bytes_eq-self}
use Rattle.git_model.specs.Tree.{is_directory, TreeEntry, has_distinct}
use Rattle.git_model.specs.Object.{Object, tree_at, AreObjects}
use Rattle.git_model.specs.Unfold.{FileRow, has_no_entries}
use Rattle.git_model.specs.Shape.{Leaf, leaf_of, leaves_below, cut_name}
use Rattle.tree_shape.specs.Wholes.{put_name, leaf_at, is_leaf, entry_leaves, leaves_in, Below, Sound, tree_leaves, AreWhole}
use Rattle.tree_shape.proofs.Leaves.{other}
use Rattle.tree_shape.proofs.VisitLemmas.{dir-mode}
use Rattle.tree_shape.proofs.Unfolding.{no-entries}
use Rattle.tree_shape.proofs.Held.{held}
use Rattle.tree_shape.proofs.Unfolding.{text-none}
use Rattle.tree_shape.proofs.Rebuilding.{HasName, leaf-or-dir, leaves-named, below-put, distinct-later, sound-at}
use Rattle.tree_shape.specs.Shapes.{short, shorts}
use Rattle.tree_shape.proofs.Rows.{components-some}
use Rattle.tree_rebuild.proofs.Kept.{sound-leaves, below-sound}
use Rattle.tree_rebuild.specs.News.{same_leaves, ends_in, leaves_in_directory, has_group, empty_leaf, has_empty}
use Rattle.tree_rebuild.specs.Directories.{LacksDirectory}
use Rattle.tree_shape.proofs.Rows.{clash}
use Rattle.tree_rebuild.proofs.SameLeaves.{leaf-other, leaves-put, leaves-self}

if-false : {X : Type 0} (t : Bool) (x y : List X) → t ≡ false → (if t then x else y) ≡ y
if-false t x y h = ap (λ (b : Bool). if b then x else y) h

and_false : (a b : Bool) → (a ≡ true → b ≡ true → ⊥) → (a && b) ≡ false
and_false true true h = absurd (h refl refl)
and_false true false h = refl
and_false false b h = refl

-- ---- the leaves of another name

in-other : (m n : Bytes) (leaves rest : List Leaf) → m ≢ n → leaves_in_directory (n ∷ []) (map (put_name m) leaves ++ rest) ≡ leaves_in_directory (n ∷ []) rest
in-other m n [] rest ne = refl
in-other m n (leaf ∷ leaves) rest ne =
    ap (λ (t : Bool). if t && ends_in leaf.mode leaf.names then put_name m leaf ∷ leaves_in_directory (n ∷ []) (map (put_name m) leaves ++ rest) else leaves_in_directory (n ∷ []) (map (put_name m) leaves ++ rest)) (other m n ne)
    ∙ in-other m n leaves rest ne

below-other : (m n : Bytes) (leaves rest : List Leaf) → m ≢ n → leaves_below n (map (put_name m) leaves ++ rest) ≡ leaves_below n rest
below-other m n [] rest ne = refl
below-other m n (leaf ∷ leaves) rest ne = ap (λ (o : Option Leaf). cons_option o (leaves_below n (map (put_name m) leaves ++ rest))) (none leaf.names) ∙ below-other m n leaves rest ne
  where
    none : (names : List Bytes) → cut_name n (put_name m leaf) (m ∷ names) ≡ None
    none [] = refl
    none (k ∷ names) = ap (λ (t : Bool). if t then Some (record { names = k ∷ names; mode = leaf.mode; id = leaf.id; content = leaf.content }) else None) (other m n ne)

-- ---- the leaves of the name

pub in-same : (n : Bytes) (leaves rest : List Leaf) → Each HasName leaves → leaves_in_directory (n ∷ []) (map (put_name n) leaves ++ rest) ≡ map (put_name n) leaves ++ leaves_in_directory (n ∷ []) rest
in-same n [] rest h = refl
in-same n (leaf ∷ leaves) rest h =
    ap (λ (t : Bool). if t then put_name n leaf ∷ leaves_in_directory (n ∷ []) (map (put_name n) leaves ++ rest) else leaves_in_directory (n ∷ []) (map (put_name n) leaves ++ rest))
    (and_from (bytes_eq n n) (ends_in leaf.mode leaf.names) (bytes_eq-self n) (ap (ends_in leaf.mode) h.0.2))
    ∙ (λ k. put_name n leaf ∷ in-same n leaves rest h.1 k)

below-append : (n : Bytes) (front back : List Leaf) → leaves_below n (front ++ back) ≡ leaves_below n front ++ leaves_below n back
below-append n [] back = refl
below-append n (leaf ∷ front) back = by (cut_name n leaf leaf.names) (below-append n front back)
  where
    by : (o : Option Leaf) → leaves_below n (front ++ back) ≡ leaves_below n front ++ leaves_below n back → cons_option o (leaves_below n (front ++ back)) ≡ cons_option o (leaves_below n front) ++ leaves_below n back
    by None h = h
    by (Some x) h = (λ k. x ∷ h k)

module _ (known : List Object) (n : ℕ) where
  abbrev of : TreeEntry → List Leaf
  of e = entry_leaves known (leaves_in known n) e

  abbrev leaves : List TreeEntry → List Leaf
  leaves es = flat_map of es

  -- an entry that isn't the directory of the name
  head-in : (f : TreeEntry) (name : Bytes) (rest : List Leaf) → (is_directory f.mode ≡ true → f.name ≡ name → ⊥) → leaves_in_directory (name ∷ []) (of f ++ rest) ≡ leaves_in_directory (name ∷ []) rest
  head-in f name rest lacks = by (is_leaf known f) refl
    where
      by : (t : Bool) → is_leaf known f ≡ t → leaves_in_directory (name ∷ []) ((if t then leaf_at f ∷ [] else map (put_name f.name) (leaves_in known n f.id)) ++ rest) ≡ leaves_in_directory (name ∷ []) rest
      by true t = if-false (bytes_eq f.name name && is_directory f.mode) (leaf_at f ∷ leaves_in_directory (name ∷ []) rest) (leaves_in_directory (name ∷ []) rest)
          (and_false (bytes_eq f.name name) (is_directory f.mode) (λ e d. lacks d ((bytes_eq-Decides f.name name).0 e)))
      by false t = in-other f.name name (leaves_in known n f.id) rest (lacks (leaf-or-dir known f t).0)

  head-below : (f : TreeEntry) (name : Bytes) (rest : List Leaf) → (is_directory f.mode ≡ true → f.name ≡ name → ⊥) → leaves_below name (of f ++ rest) ≡ leaves_below name rest
  head-below f name rest lacks = by (is_leaf known f) refl
    where
      by : (t : Bool) → is_leaf known f ≡ t → leaves_below name ((if t then leaf_at f ∷ [] else map (put_name f.name) (leaves_in known n f.id)) ++ rest) ≡ leaves_below name rest
      by true t = refl
      by false t = below-other f.name name (leaves_in known n f.id) rest (lacks (leaf-or-dir known f t).0)

  pub none-in : (es : List TreeEntry) (name : Bytes) → LacksDirectory name es → leaves_in_directory (name ∷ []) (leaves es) ≡ []
  none-in [] name lacks = refl
  none-in (f ∷ es) name lacks = head-in f name (leaves es) lacks.0 ∙ none-in es name lacks.1

  pub none-below : (es : List TreeEntry) (name : Bytes) → LacksDirectory name es → leaves_below name (leaves es) ≡ []
  none-below [] name lacks = refl
  none-below (f ∷ es) name lacks = head-below f name (leaves es) lacks.0 ∙ none-below es name lacks.1

  -- the directory of the name
  own-in : (e : TreeEntry) (rest : List Leaf) → is_directory e.mode ≡ true → leaves_in_directory (e.name ∷ []) (of e ++ rest) ≡ of e ++ leaves_in_directory (e.name ∷ []) rest
  own-in e rest d = by (is_leaf known e)
    where
      by : (t : Bool) → leaves_in_directory (e.name ∷ []) ((if t then leaf_at e ∷ [] else map (put_name e.name) (leaves_in known n e.id)) ++ rest)
          ≡ (if t then leaf_at e ∷ [] else map (put_name e.name) (leaves_in known n e.id)) ++ leaves_in_directory (e.name ∷ []) rest
      by true = ap (λ (t : Bool). if t then leaf_at e ∷ leaves_in_directory (e.name ∷ []) rest else leaves_in_directory (e.name ∷ []) rest) (and_from (bytes_eq e.name e.name) (is_directory e.mode) (bytes_eq-self e.name) d)
      by false = in-same e.name (leaves_in known n e.id) rest (leaves-named known n e.id)

  own-below : (e : TreeEntry) → is_directory e.mode ≡ true → leaves_below e.name (of e) ≡ leaves_in known n e.id
  own-below e d = by (is_leaf known e) refl
    where
      by : (t : Bool) → is_leaf known e ≡ t → leaves_below e.name (if t then leaf_at e ∷ [] else map (put_name e.name) (leaves_in known n e.id)) ≡ leaves_in known n e.id
      by true t = sym (leaves-empty known n e.id (no-entries (tree_at known e.id) (sym (ap (λ (b : Bool). not b || has_no_entries (tree_at known e.id)) d) ∙ t)))
      by false t = below-put e.name (leaves_in known n e.id) (leaves-named known n e.id)

  later-none : (e : TreeEntry) (es : List TreeEntry) → has_distinct (map (λ e. e.name) (e ∷ es)) ≡ true → LacksDirectory e.name es
  later-none e es d = from es (λ f i. distinct-later e es d f i)
    where
      from : (fs : List TreeEntry) → ((f : TreeEntry) → In f fs → e.name ≢ f.name) → LacksDirectory e.name fs
      from [] h = tt
      from (f ∷ fs) h = ((λ t q. h f (inl refl) (sym q)), from fs (λ g i. h g (inr i)))

  distinct-rest : (e : TreeEntry) (es : List TreeEntry) → has_distinct (map (λ e. e.name) (e ∷ es)) ≡ true → has_distinct (map (λ e. e.name) es) ≡ true
  distinct-rest e es h = behind (not _) (has_distinct (map (λ e. e.name) es)) h
    where
      behind : (a b : Bool) → (a && b) ≡ true → b ≡ true
      behind true b h = h
      behind false b h = absurd (clash (sym h))

  pub some-in : (es : List TreeEntry) (e : TreeEntry) → has_distinct (map (λ e. e.name) es) ≡ true → In e es → is_directory e.mode ≡ true → leaves_in_directory (e.name ∷ []) (leaves es) ≡ of e
  some-in [] e d i t = absurd i
  some-in (f ∷ es) e d (inl q) t = subst (λ (x : TreeEntry). leaves_in_directory (x.name ∷ []) (of f ++ leaves es) ≡ of x) (sym q)
      (own-in f (leaves es) (subst (λ (x : TreeEntry). is_directory x.mode ≡ true) q t) ∙ ap (λ (l : List Leaf). of f ++ l) (none-in es f.name (later-none f es d)) ∙ append-nil (of f))
  some-in (f ∷ es) e d (inr j) t = head-in f e.name (leaves es) (λ u q. distinct-later f es d e j q) ∙ some-in es e (distinct-rest f es d) j t

  pub some-below : (es : List TreeEntry) (e : TreeEntry) → has_distinct (map (λ e. e.name) es) ≡ true → In e es → is_directory e.mode ≡ true → leaves_below e.name (leaves es) ≡ leaves_in known n e.id
  some-below [] e d i t = absurd i
  some-below (f ∷ es) e d (inl q) t = subst (λ (x : TreeEntry). leaves_below x.name (of f ++ leaves es) ≡ leaves_in known n x.id) (sym q)
      (below-append f.name (of f) (leaves es) ∙ (λ k. own-below f (subst (λ (x : TreeEntry). is_directory x.mode ≡ true) q t) k ++ none-below es f.name (later-none f es d) k) ∙ append-nil (leaves_in known n f.id))
  some-below (f ∷ es) e d (inr j) t = head-below f e.name (leaves es) (λ u q. distinct-later f es d e j q) ∙ some-below es e (distinct-rest f es d) j t

  -- ---- what is the same in the directory of the name

  -- leaves of a directory that has some
  abbrev pub HasSome : List Leaf → Type 0
  HasSome group = (first : Leaf) × (more : List Leaf) × (group ≡ first ∷ more) × HasName first

  pub same-none : (es : List TreeEntry) (name : Bytes) (group : List Leaf) → LacksDirectory name es → HasSome group → has_group name (leaves es) group ≡ false
  same-none es name group lacks some = (λ k. same_leaves (none-in es name lacks k) (map (put_name name) (some.2 k)))

  pub same-some : (es : List TreeEntry) (e : TreeEntry) (group : List Leaf) → has_distinct (map (λ e. e.name) es) ≡ true → In e es → is_directory e.mode ≡ true → HasSome group
      → has_group e.name (leaves es) group ≡ same_leaves (leaves_in known n e.id) group
  same-some es e group d i t some = ap (λ (l : List Leaf). same_leaves l (map (put_name e.name) group)) (some-in es e d i t) ∙ by (is_leaf known e) refl
    where
      by : (u : Bool) → is_leaf known e ≡ u → same_leaves (if u then leaf_at e ∷ [] else map (put_name e.name) (leaves_in known n e.id)) (map (put_name e.name) group) ≡ same_leaves (leaves_in known n e.id) group
      by true u =
          ap (λ (g : List Leaf). same_leaves (leaf_at e ∷ []) (map (put_name e.name) g)) some.2
          ∙ ap (λ (b : Bool). b && same_leaves [] (map (put_name e.name) some.1)) (leaf-other (leaf_at e) (put_name e.name some.0) (λ q. longer (some.3.0) (some.3.1) (ap (λ (l : Leaf). l.names) q ∙ ap (λ (ns : List Bytes). e.name ∷ ns) some.3.2)))
          ∙ (λ k. same_leaves (sym (leaves-empty known n e.id (no-entries (tree_at known e.id) (sym (ap (λ (b : Bool). not b || has_no_entries (tree_at known e.id)) t) ∙ u))) k) (sym some.2 k))
        where
          longer : (m : Bytes) (ms : List Bytes) → e.name ∷ [] ≡ e.name ∷ m ∷ ms → ⊥
          longer m ms q = cc
      by false u = leaves-put e.name (leaves_in known n e.id) group

  -- ---- an empty directory

  pub empty-none : (es : List TreeEntry) (name : Bytes) → LacksDirectory name es → has_empty name (leaves es) ≡ false
  empty-none es name lacks = ap (λ (l : List Leaf). same_leaves l (empty_leaf name ∷ [])) (none-in es name lacks)

  pub empty-some : (es : List TreeEntry) (e : TreeEntry) → AreObjects known → has_distinct (map (λ e. e.name) es) ≡ true → In e es → is_directory e.mode ≡ true
      → has_empty e.name (leaves es) ≡ has_no_entries (tree_at known e.id)
  empty-some es e are d i t = ap (λ (l : List Leaf). same_leaves l (empty_leaf e.name ∷ [])) (some-in es e d i t) ∙ by (has_no_entries (tree_at known e.id)) refl
    where
      -- a directory with leaves below it isn't empty
      deep : (l : List Leaf) → Each HasName l → same_leaves (map (put_name e.name) l) (empty_leaf e.name ∷ []) ≡ false
      deep [] h = refl
      deep (x ∷ l) h = ap (λ (b : Bool). b && same_leaves (map (put_name e.name) l) []) (leaf-other (put_name e.name x) (empty_leaf e.name) (λ q. longer h.0.0 h.0.1 (ap (λ (ns : List Bytes). e.name ∷ ns) (sym h.0.2) ∙ ap (λ (y : Leaf). y.names) q)))
        where
          longer : (m : Bytes) (ms : List Bytes) → e.name ∷ m ∷ ms ≡ e.name ∷ [] → ⊥
          longer m ms q = cc

      by : (u : Bool) → has_no_entries (tree_at known e.id) ≡ u → same_leaves (of e) (empty_leaf e.name ∷ []) ≡ u
      by true u =
          let id : e.id ≡ object_id tree [] = (held known e.id [] are (no-entries (tree_at known e.id) u)).is_id ∙ ap (object_id tree) text-none in
          let leaf : is_leaf known e ≡ true = (λ k. not (t k) || u k) in
          ap (λ (b : Bool). same_leaves (if b then leaf_at e ∷ [] else map (put_name e.name) (leaves_in known n e.id)) (empty_leaf e.name ∷ [])) leaf
          ∙ (λ k. same_leaves (record { names = e.name ∷ []; mode = dir-mode e.mode t k; id = id k; content = [] } ∷ []) (empty_leaf e.name ∷ []))
          ∙ leaves-self (empty_leaf e.name ∷ [])
      by false u =
          let leaf : is_leaf known e ≡ false = (λ k. not (t k) || u k) in
          ap (λ (b : Bool). same_leaves (if b then leaf_at e ∷ [] else map (put_name e.name) (leaves_in known n e.id)) (empty_leaf e.name ∷ [])) leaf
          ∙ deep (leaves_in known n e.id) (leaves-named known n e.id)

-- ---- the subtree of a name

-- an entry that is the directory of a name
pub record IsDirectoryAt (old : List TreeEntry) (e : TreeEntry) (name : Bytes) : Type 0 where
  pub tree : has_distinct (map (λ e. e.name) old) ≡ true
  pub one : In e old
  pub directory : is_directory e.mode ≡ true
  pub named : e.name ≡ name

module _ (known : List Object) (old : List TreeEntry) (e : TreeEntry) (name : Bytes) (at : IsDirectoryAt old e name) where
  pub group-known : (levels : ℕ) (subtree : List TreeEntry) (group : List Leaf) → Sound known levels e.id subtree → HasSome known levels group → has_group name (tree_leaves known (levels + 1) old) group ≡ same_leaves (tree_leaves known levels subtree) group
  group-known levels subtree group s some =
      let less : levels + 1 - 1 ≡ levels = omega arith in
      subst (λ (m : Bytes). has_group m (tree_leaves known (levels + 1) old) group ≡ same_leaves (tree_leaves known levels subtree) group) at.named
      (same-some known (levels + 1 - 1) old e group at.tree at.one at.directory some
      ∙ ap (λ (d : ℕ). same_leaves (leaves_in known d e.id) group) less ∙ ap (λ (l : List Leaf). same_leaves l group) (sound-leaves known levels e.id subtree s))

  pub below-known : (levels : ℕ) (subtree : List TreeEntry) → Sound known (levels - 1) e.id subtree → leaves_below name (tree_leaves known levels old) ≡ tree_leaves known (levels - 1) subtree
  below-known levels subtree s =
      subst (λ (m : Bytes). leaves_below m (tree_leaves known levels old) ≡ tree_leaves known (levels - 1) subtree) at.named
      (some-below known (levels - 1) old e at.tree at.one at.directory ∙ sound-leaves known (levels - 1) e.id subtree s)

  pub empty-known : (levels : ℕ) → AreObjects known → has_empty name (tree_leaves known levels old) ≡ has_no_entries (tree_at known e.id)
  empty-known levels are = subst (λ (m : Bytes). has_empty m (tree_leaves known levels old) ≡ has_no_entries (tree_at known e.id)) at.named (empty-some known (levels - 1) old e are at.tree at.one at.directory)

  pub sound-known : (levels : ℕ) (subtree : List TreeEntry) → AreWhole known levels old → tree_at known e.id ≡ Some subtree → Sound known (levels - 1) e.id subtree
  sound-known levels subtree whole there = below-sound known levels old e subtree whole at.one at.directory there

  pub not-unknown : (levels : ℕ) → AreWhole known levels old → None ≡ tree_at known e.id → ⊥
  not-unknown levels whole h = let s = each_in (Below (Sound known (levels - 1))) old e whole at.one at.directory in no-some s.0 (h ∙ sound-at known (levels - 1) e.id s.0 s.1)
    where
      no-some : (es : List TreeEntry) → None ≡ Some es → ⊥
      no-some es q = cc

-- the leaves of rows that are there
pub some-rows : (known : List Object) (n skip : ℕ) (rows : List FileRow) → 0 < length rows → HasSome known n (map leaf_of (shorts skip rows))
some-rows known n skip [] h = absurd (omega (arith, h))
some-rows known n skip (r ∷ rows) h = let c = components-some (short skip r).path in (leaf_of (short skip r), map leaf_of (shorts skip rows), refl, c)

pub row-not : (d h : Bool) (xs : List Object) → (d && h) ≡ false → (if d && not h then xs else []) ≡ (if d then xs else [])
row-not true true xs q = absurd (clash q)
row-not true false xs q = refl
row-not false h xs q = refl

pub row-has : (d h : Bool) (xs : List Object) → (d && h) ≡ true → (if d && not h then xs else []) ≡ []
row-has true true xs q = refl
row-has true false xs q = absurd (clash (sym q))
row-has false h xs q = refl
