-- Rows in order, one first name after the other.
use Rattle.std.proofs.Common.{◌≡◌, ◌≢◌, ◌+◌, ℕ, suc, Bool, true, false, ◌&&◌, List, [], ◌∷◌, ◌++◌, length, drop, map, Option, Some, None, refl, sym, ap, subst, ◌∙◌, append_assoc, append-nil, inl, inr, ◌⊎◌, arith}
use Rattle.std.specs.Prelude.{if◌then◌else◌, bytes_eq}
use Rattle.std.specs.List.{cons_option, join_with_byte}
use Rattle.std.proofs.lemmas.List.Splits.{join_with_byte-slice_split}
use Rattle.std.proofs.lemmas.Bool.{eq-eqb}
use Rattle.std.proofs.lemmas.Slice.Eq.{bytes_eq-Decides}
use Rattle.std.specs.Ordering.{nat_cmp, is_lt, ordering_then, ordering_reverse}
use Rattle.std.specs.declared.cmp.Ordering.{Ordering}
use Rattle.std.specs.declared.cmp.Ordering.TheVariants.{Less, Equal, Greater}
use Rattle.std.specs.Cmp.Lexicographic.{slice_cmp}
use Rattle.std.proofs.lemmas.Cmp.{nat_cmp_total, ranked, tied_itself}
use Rattle.text_model.proofs.Options.{some_is}
use Rattle.text_model.specs.Lists.{In, Each}
use Rattle.text_model.specs.Text.{Bytes, is_below, has_byte}
use Rattle.text_model.specs.Path.{components, lies_below}
use Rattle.text_model.specs.Cuts.{cut_of, Lacks}
use Rattle.text_model.proofs.CutLemmas.{cut_of-at, cut_of-takes, cut_of-none}
use Rattle.tree_shape.proofs.Names.{components-cut, components-last}
use Rattle.git_model.specs.Tree.{is_directory, sort_name}
use Rattle.git_model.specs.Unfold.{FileRow}
use Rattle.git_model.specs.Shape.{Leaf, leaf_of, leaf_named, is_named, leaves_below, cut_name}
use Rattle.git_model.proofs.NameOrderLemmas.{below-front}
use Rattle.tree_shape.specs.Shapes.{short, Before, IsFile, Good, is_in}
use Rattle.tree_shape.proofs.Leaves.{OneName, HasFirst, NotFirst, same}
use Rattle.text_model.proofs.OrderLemmas.{is_below-irreflexive, is_below-one_way}
use Rattle.text_model.proofs.Elements.{in_left, in_right, each_in, each_from}
use Rattle.tree_shape.specs.Orders.{met_path}
use Rattle.tree_shape.proofs.Unfolding.{met-front}

pub clash : true ≡ false → ⊥
clash q = cc

-- ---- a path by its first name

pub record Deep (path name rest : Bytes) : Type 0 where
  pub is : path ≡ name ++ 47 ∷ rest
  pub plain : Lacks 47 name
  pub parts : components path ≡ name ∷ components rest

pub record Flat (path : Bytes) : Type 0 where
  pub plain : Lacks 47 path
  pub parts : components path ≡ path ∷ []

pub deep : (path name rest : Bytes) → cut_of 47 path ≡ Some (name, rest) → Deep path name rest
deep path name rest e =
    let t = cut_of-takes 47 path name rest e in
    record { is = t.0; plain = t.1; parts = ap components t.0 ∙ components-cut name rest t.1 }

pub flat : (path : Bytes) → cut_of 47 path ≡ None → Flat path
flat path e = let p = cut_of-none 47 path e in record { plain = p; parts = components-last path p }

-- the first name, and the rest where there is one
pub data Shape (path : Bytes) : Type 0 where
  goes_on : (name rest : Bytes) → Deep path name rest → Shape path
  ends : Flat path → Shape path

pub shape : (path : Bytes) → Shape path
shape path = by (cut_of 47 path) refl
  where
    by : (o : Option (Bytes × Bytes)) → cut_of 47 path ≡ o → Shape path
    by None e = ends (flat path e)
    by (Some p) e = goes_on p.0 p.1 (deep path p.0 p.1 e)

pub components-some : (path : Bytes) → (c : Bytes) × (cs : List Bytes) × (components path ≡ c ∷ cs)
components-some path = elim (shape path) [
  | goes_on name rest d ↦ (name, components rest, d.parts)
  | ends f ↦ (path, [], f.parts)
]

-- ---- a path in a directory

pub is-in : (name : Bytes) (row : FileRow) → is_in name row ≡ true → (rest : Bytes) × Deep row.path name rest
is-in name row h = by (cut_of 47 row.path) refl h
  where
    by : (o : Option (Bytes × Bytes)) → cut_of 47 row.path ≡ o → (elim o as (λ _. Bool) [ None ↦ false | Some p ↦ bytes_eq p.0 name ]) ≡ true → (rest : Bytes) × Deep row.path name rest
    by None e i = absurd (clash (sym i))
    by (Some p) e i =
        let equal : p.0 ≡ name = (bytes_eq-Decides p.0 name).0 i in
        (p.1, subst (λ (n : Bytes). Deep row.path n p.1) equal (deep row.path p.0 p.1 e))

pub in-is : (name rest : Bytes) (row : FileRow) → Lacks 47 name → row.path ≡ name ++ 47 ∷ rest → is_in name row ≡ true
in-is name rest row plain e =
    ap (λ (o : Option (Bytes × Bytes)). elim o as (λ _. Bool) [ None ↦ false | Some p ↦ bytes_eq p.0 name ]) (ap (cut_of 47) e ∙ cut_of-at 47 name rest plain) ∙ same name

-- ---- the order of paths with one front

-- what goes on is above
pub above : (xs : Bytes) (y : ℕ) (ys : Bytes) → is_below xs (xs ++ y ∷ ys) ≡ true
above [] y ys = refl
above (x ∷ xs) y ys = ap (λ (o : Ordering). is_lt (ordering_then o (slice_cmp nat_cmp xs (xs ++ y ∷ ys)))) (tied_itself nat_cmp_total x) ∙ above xs y ys

greater : (o p : Ordering) → o ≡ Greater → is_lt (ordering_then o p) ≡ true → ⊥
greater o p e h = clash (sym h ∙ ap (λ (x : Ordering). is_lt (ordering_then x p)) e)

-- between two that begin so each begins so
pub between : (k a q b : Bytes) → is_below (k ++ a) q ≡ true → is_below q (k ++ b) ≡ true → (c : Bytes) × (q ≡ k ++ c)
between [] a q b h i = (q, refl)
between (x ∷ k) a [] b h i = absurd cc
between (x ∷ k) a (y ∷ q) b h i = by (λ u v. between k a q b u v) (nat_cmp x y) refl h i
  where
    by : (is_below (k ++ a) q ≡ true → is_below q (k ++ b) ≡ true → (c : Bytes) × (q ≡ k ++ c)) → (o : Ordering) → nat_cmp x y ≡ o
        → is_lt (ordering_then o (slice_cmp nat_cmp (k ++ a) q)) ≡ true → is_lt (ordering_then (nat_cmp y x) (slice_cmp nat_cmp q (k ++ b))) ≡ true → (c : Bytes) × (y ∷ q ≡ x ∷ (k ++ c))
    by rec Less e h i = absurd (greater (nat_cmp y x) (slice_cmp nat_cmp q (k ++ b)) (nat_cmp_total.antisymm y x ∙ ap ordering_reverse e) i)
    by rec Equal e h i =
        let equal : x ≡ y = ranked x y Equal (sym e) in
        let i' : is_below q (k ++ b) ≡ true = sym (ap (λ (o : Ordering). is_lt (ordering_then o (slice_cmp nat_cmp q (k ++ b)))) (subst (λ (z : ℕ). nat_cmp z x ≡ Equal) equal (tied_itself nat_cmp_total x))) ∙ i in
        let r = rec h i' in
        (r.0, (λ j. sym equal j ∷ r.1 j))
    by rec Greater e h i = absurd cc

-- what goes on from another isn't below it
pub goes-on : (xs more : Bytes) → is_below (xs ++ more) xs ≡ false
goes-on xs [] = ap (λ (x : Bytes). is_below x xs) (append-nil xs) ∙ is_below-irreflexive xs
goes-on xs (y ∷ more) = is_below-one_way xs (xs ++ y ∷ more) (above xs y more)

-- a path that with a slash begins with a name and a slash is the name, or lies below it
pub dir-end : (path name more : Bytes) → path ++ 47 ∷ [] ≡ name ++ 47 ∷ more → (path ≡ name) ⊎ ((rest : Bytes) × (path ≡ name ++ 47 ∷ rest))
dir-end [] [] more h = inl refl
dir-end [] (n ∷ name) more h = absurd (no-more name more cc)
  where
    no-more : (name more : Bytes) → [] ≡ name ++ 47 ∷ more → ⊥
    no-more [] more q = cc
    no-more (n ∷ name) more q = cc
dir-end (p ∷ path) [] more h = let is : p ≡ 47 = cc in inr (path, (λ k. is k ∷ path))
dir-end (p ∷ path) (n ∷ name) more h =
    let head : p ≡ n = cc in
    let tail : path ++ 47 ∷ [] ≡ name ++ 47 ∷ more = cc in
    elim (dir-end path name more tail) [
      | inl q ↦ inl (λ k. head k ∷ q k)
      | inr r ↦ inr (r.0, (λ k. head k ∷ r.1 k))
    ]

-- ---- rows that stand before others

-- what lies in the directory lies below its path
pub in-lies : (name rest : Bytes) → lies_below (name ++ 47 ∷ rest) name ≡ true
in-lies [] rest = refl
in-lies (x ∷ name) rest = ap (λ (b : Bool). b && lies_below (name ++ 47 ∷ rest) name) (eq-eqb x x refl) ∙ in-lies name rest

join-append : (xs : List Bytes) (y : Bytes) (ys : List Bytes) → xs ≢ [] → join_with_byte 47 (xs ++ y ∷ ys) ≡ join_with_byte 47 xs ++ 47 ∷ join_with_byte 47 (y ∷ ys)
join-append [] y ys some = absurd (some refl)
join-append (x ∷ []) y ys some = refl
join-append (x ∷ z ∷ xs) y ys some =
    ap (λ (t : Bytes). x ++ 47 ∷ t) (join-append (z ∷ xs) y ys (λ q. cc))
    ∙ sym (append_assoc x (47 ∷ join_with_byte 47 (z ∷ xs)) (47 ∷ join_with_byte 47 (y ∷ ys)))

-- a path with more components lies below
pub longer-lies : (p q m : Bytes) (more : List Bytes) → components q ≡ components p ++ m ∷ more → lies_below q p ≡ true
longer-lies p q m more e =
    let some : components p ≢ [] = (let c = components-some p in λ h. no-list c.0 c.1 (sym c.2 ∙ h)) in
    let whole : q ≡ p ++ 47 ∷ join_with_byte 47 (m ∷ more) =
    sym (join_with_byte-slice_split 47 q) ∙ ap (join_with_byte 47) e ∙ join-append (components p) m more some ∙ ap (λ (t : Bytes). t ++ 47 ∷ join_with_byte 47 (m ∷ more)) (join_with_byte-slice_split 47 p) in
    ap (λ (t : Bytes). lies_below t p) whole ∙ in-lies p (join_with_byte 47 (m ∷ more))
  where
    no-list : (x : Bytes) (xs : List Bytes) → x ∷ xs ≡ [] → ⊥
    no-list x xs q = cc

lies-front : (k xs ys : Bytes) → lies_below (k ++ xs) (k ++ ys) ≡ lies_below xs ys
lies-front [] xs ys = refl
lies-front (x ∷ k) xs ys = ap (λ (b : Bool). b && lies_below (k ++ xs) (k ++ ys)) (eq-eqb x x refl) ∙ lies-front k xs ys

-- a row does not stand before one whose path is a directory on its way, nor after it
pub not-before : (name rest : Bytes) (a b : FileRow) → a.path ≡ name → b.path ≡ name ++ 47 ∷ rest → Before a b → ⊥
not-before name rest a b p q h = clash (sym (ap (λ (x : Bytes). lies_below x a.path) q ∙ ap (λ (x : Bytes). lies_below (name ++ 47 ∷ rest) x) p ∙ in-lies name rest) ∙ h.apart)

pub not-after : (name rest : Bytes) (a b : FileRow) → a.path ≡ name → b.path ≡ name ++ 47 ∷ rest → Before b a → ⊥
not-after name rest a b p q h =
    let front : b.path ≡ (name ++ 47 ∷ []) ++ rest = q ∙ sym (append_assoc name (47 ∷ []) rest) in
    let behind : met_path b ≡ (name ++ 47 ∷ []) ++ sort_name b.mode rest = ap (sort_name b.mode) front ∙ met-front (name ++ 47 ∷ []) b.mode rest in
    clash (sym h.below ∙ (λ k. is_below (behind k) (sort_name a.mode (p k))) ∙ by (is_directory a.mode) (sort_name b.mode rest))
  where
    by : (t : Bool) (more : Bytes) → is_below ((name ++ 47 ∷ []) ++ more) (if t then name ++ 47 ∷ [] else name) ≡ false
    by true more = goes-on (name ++ 47 ∷ []) more
    by false more = ap (λ (x : Bytes). is_below x name) (append_assoc name (47 ∷ []) more) ∙ goes-on name (47 ∷ more)

-- two rows are one, or one stands before the other
pub data Either (a b : FileRow) : Type 0 where
  one : a ≡ b → Either a b
  first : Before a b → Either a b
  second : Before b a → Either a b

pub either : (rows : List FileRow) → Good rows → (a b : FileRow) → In a rows → In b rows → Either a b
either [] g a b i j = absurd i
either (row ∷ rows) g a b i j = elim i [
  | inl p ↦ elim j [
    | inl q ↦ one (p ∙ sym q)
    | inr v ↦ first (subst (λ (x : FileRow). Before x b) (sym p) (each_in (Before row) rows b g.1 v))
  ]
  | inr u ↦ elim j [
    | inl q ↦ second (subst (λ (x : FileRow). Before x a) (sym q) (each_in (Before row) rows a g.1 u))
    | inr v ↦ either rows g.2 a b u v
  ]
]

pub good-file : (rows : List FileRow) → Good rows → (a : FileRow) → In a rows → IsFile a
good-file [] g a i = absurd i
good-file (row ∷ rows) g a i = elim i [ inl p ↦ subst IsFile (sym p) g.0 | inr u ↦ good-file rows g.2 a u ]

-- ---- the leaf of a row

pub first-is : (row : FileRow) (c : Bytes) (cs : List Bytes) → components row.path ≡ c ∷ cs → HasFirst c (leaf_of row)
first-is row c cs e = ap (λ (names : List Bytes). elim names as (λ _. Option Bytes) [ [] ↦ None | name ∷ more ↦ Some name ]) e

pub first-same : (row : FileRow) (c n : Bytes) (cs : List Bytes) → components row.path ≡ c ∷ cs → HasFirst n (leaf_of row) → c ≡ n
first-same row c n cs e h = some_is (sym (first-is row c cs e) ∙ h)

-- ---- the rest of rows in one directory

-- each begins with the name and a slash
abbrev pub Under : Bytes → FileRow → Type 0
Under name row = (rest : Bytes) × Deep row.path name rest

under-first : (name : Bytes) (row : FileRow) → Under name row → HasFirst name (leaf_of row)
under-first name row u = first-is row name (components u.0) u.1.parts

-- behind a row in the directory, and one that isn't, none is
beyond : (name : Bytes) (a q t : FileRow) → Under name a → Before a q → Before q t → is_in name q ≡ false → Under name t → ⊥
beyond name a q t u h i out v =
    let front : (rest : Bytes) → name ++ 47 ∷ rest ≡ (name ++ 47 ∷ []) ++ rest = λ rest. sym (append_assoc name (47 ∷ []) rest) in
    let first : met_path a ≡ (name ++ 47 ∷ []) ++ sort_name a.mode u.0 = ap (sort_name a.mode) (u.1.is ∙ front u.0) ∙ met-front (name ++ 47 ∷ []) a.mode u.0 in
    let last : met_path t ≡ (name ++ 47 ∷ []) ++ sort_name t.mode v.0 = ap (sort_name t.mode) (v.1.is ∙ front v.0) ∙ met-front (name ++ 47 ∷ []) t.mode v.0 in
    let mid = between (name ++ 47 ∷ []) (sort_name a.mode u.0) (met_path q) (sort_name t.mode v.0)
    (sym (ap (λ (x : Bytes). is_below x (met_path q)) first) ∙ h.below)
    (sym (ap (λ (x : Bytes). is_below (met_path q) x) last) ∙ i.below) in
    by (is_directory q.mode) mid.0 (mid.1 ∙ append_assoc name (47 ∷ []) mid.0)
  where
    by : (d : Bool) (more : Bytes) → (if d then q.path ++ 47 ∷ [] else q.path) ≡ name ++ 47 ∷ more → ⊥
    by true more e = elim (dir-end q.path name more e) [
      | inl same ↦ clash (sym (ap (λ (x : Bytes). lies_below x q.path) v.1.is ∙ ap (λ (x : Bytes). lies_below (name ++ 47 ∷ v.0) x) same ∙ in-lies name v.0) ∙ i.apart)
      | inr r ↦ clash (sym (in-is name r.0 q u.1.plain r.1) ∙ out)
    ]
    by false more e = clash (sym (in-is name more q u.1.plain e) ∙ out)

-- a row behind one in the directory has another first name, unless it lies in it
apart-from : (name : Bytes) (a t : FileRow) → Under name a → Before a t → (Under name t → ⊥) → NotFirst name (leaf_of t)
apart-from name a t u h out f = elim (shape t.path) [
  | goes_on n rest d ↦
      let is : n ≡ name = first-same t n name (components rest) d.parts f in
      out (rest, subst (λ (m : Bytes). Deep t.path m rest) is d)
  | ends d ↦
      let is : t.path ≡ name = first-same t t.path name [] d.parts f in
      not-after name u.0 t a is u.1.is h
]

-- a row behind one of the name has another first name
apart-file : (a t : FileRow) → Flat a.path → Before a t → NotFirst a.path (leaf_of t)
apart-file a t fl h f = elim (shape t.path) [
  | goes_on n rest d ↦
      let is : n ≡ a.path = first-same t n a.path (components rest) d.parts f in
      not-before a.path rest a t refl (d.is ∙ ap (λ (m : Bytes). m ++ 47 ∷ rest) is) h
  | ends d ↦
      let is : t.path ≡ a.path = first-same t t.path a.path [] d.parts f in
      h.other (sym is)
]

each-leaf : (P : Leaf → Type 0) (rows : List FileRow) → ((t : FileRow) → In t rows → P (leaf_of t)) → Each P (map leaf_of rows)
each-leaf P [] h = tt
each-leaf P (t ∷ rows) h = (h t (inl refl), each-leaf P rows (λ x i. h x (inr i)))

-- a row of one name, and the rows behind it
pub file-one : (a : FileRow) (rows : List FileRow) → Good (a ∷ rows) → cut_of 47 a.path ≡ None → OneName a.path (leaf_of a) [] (map leaf_of rows)
file-one a rows g e =
    let f = flat a.path e in
    record {
      first = first-is a a.path [] f.parts;
      more = tt;
      others = each-leaf (NotFirst a.path) rows (λ t i. apart-file a t f (each_in (Before a) rows t g.1 i));
    }

-- ---- the rows of one directory, and those behind them

-- the first rows lie in the directory, and the next does not
pub record Splits (name : Bytes) (a : FileRow) (group rest : List FileRow) : Type 0 where
  pub all : Each (λ t. is_in name t ≡ true) (a ∷ group)
  pub stops : (q : FileRow) (more : List FileRow) → rest ≡ q ∷ more → is_in name q ≡ false

pub good-rest : (group rest : List FileRow) → Good (group ++ rest) → Good rest
good-rest [] rest g = g
good-rest (t ∷ group) rest g = good-rest group rest g.2

pub good-front : (group rest : List FileRow) → Good (group ++ rest) → Good group
good-front [] rest g = tt
good-front (t ∷ group) rest g = (g.0, each_from (Before t) group (λ x i. each_in (Before t) (group ++ rest) x g.1 (in_left x group rest i)), good-front group rest g.2)

pub dir-one : (name : Bytes) (a : FileRow) (group rest : List FileRow) → Good (a ∷ (group ++ rest)) → Splits name a group rest → OneName name (leaf_of a) (map leaf_of group) (map leaf_of rest)
dir-one name a group rest g s = record {
  first = under-first name a (is-in name a s.all.0);
  more = each-leaf (HasFirst name) group (λ t i. under-first name t (is-in name t (each_in (λ x. is_in name x ≡ true) group t s.all.1 i)));
  others = by rest (good-rest group rest g.2) (λ t i. each_in (Before a) (group ++ rest) t g.1 (in_right t group rest i)) s.stops;
}
  where
    by : (rest : List FileRow) → Good rest → ((t : FileRow) → In t rest → Before a t) → ((q : FileRow) (more : List FileRow) → rest ≡ q ∷ more → is_in name q ≡ false) → Each (NotFirst name) (map leaf_of rest)
    by [] g h stops = tt
    by (q ∷ more) g h stops =
        let u = is-in name a s.all.0 in
        let out = stops q more refl in (
          apart-from name a q u (h q (inl refl)) (λ v. clash (sym (in-is name v.0 q v.1.plain v.1.is) ∙ out)),
          each-leaf (NotFirst name) more (λ t i. apart-from name a t u (h t (inr i)) (λ v. beyond name a q t u (h q (inl refl)) (each_in (Before q) more t g.1 i) out v)),
        )

-- ---- the rows of a directory without its name

dropped : (name rest : Bytes) → drop (length name + 1) (name ++ 47 ∷ rest) ≡ rest
dropped name rest = let one : length name + 1 ≡ suc (length name) = omega arith in ap (λ (n : ℕ). drop n (name ++ 47 ∷ rest)) one ∙ go name
  where
    go : (name : Bytes) → drop (suc (length name)) (name ++ 47 ∷ rest) ≡ rest
    go [] = refl
    go (x ∷ name) = go name

abbrev pub shorter : Bytes → FileRow → FileRow
shorter name row = short (length name + 1) row

pub shorter-path : (name : Bytes) (row : FileRow) (u : Under name row) → (shorter name row).path ≡ u.0
shorter-path name row u = ap (drop (length name + 1)) u.1.is ∙ dropped name u.0

shorter-file : (name : Bytes) (row : FileRow) → Under name row → IsFile row → IsFile (shorter name row)
shorter-file name row u f = record {
  names = subst (λ (c : List Bytes). Each (λ n. (n ≢ []) × (has_byte 47 n ≡ false)) c) (sym (ap components (shorter-path name row u)))
      (subst (λ (c : List Bytes). Each (λ n. (n ≢ []) × (has_byte 47 n ≡ false)) c) u.1.parts f.names).1;
  empty = f.empty;
}

shorter-before : (name : Bytes) (a b : FileRow) → Under name a → Under name b → Before a b → Before (shorter name a) (shorter name b)
shorter-before name a b u v h =
    let front : (rest : Bytes) → name ++ 47 ∷ rest ≡ (name ++ 47 ∷ []) ++ rest = λ rest. sym (append_assoc name (47 ∷ []) rest) in
    let p : a.path ≡ (name ++ 47 ∷ []) ++ (shorter name a).path = u.1.is ∙ front u.0 ∙ ap (λ (x : Bytes). (name ++ 47 ∷ []) ++ x) (sym (shorter-path name a u)) in
    let q : b.path ≡ (name ++ 47 ∷ []) ++ (shorter name b).path = v.1.is ∙ front v.0 ∙ ap (λ (x : Bytes). (name ++ 47 ∷ []) ++ x) (sym (shorter-path name b v)) in
    let p' : met_path a ≡ (name ++ 47 ∷ []) ++ met_path (shorter name a) = ap (sort_name a.mode) p ∙ met-front (name ++ 47 ∷ []) a.mode (shorter name a).path in
    let q' : met_path b ≡ (name ++ 47 ∷ []) ++ met_path (shorter name b) = ap (sort_name b.mode) q ∙ met-front (name ++ 47 ∷ []) b.mode (shorter name b).path in
    record {
      below = sym (below-front (name ++ 47 ∷ []) (met_path (shorter name a)) (met_path (shorter name b))) ∙ sym ((λ k. is_below (p' k) (q' k))) ∙ h.below;
      other = λ same. h.other (p ∙ ap (λ (x : Bytes). (name ++ 47 ∷ []) ++ x) same ∙ sym q);
      apart = sym (lies-front (name ++ 47 ∷ []) (shorter name b).path (shorter name a).path) ∙ sym ((λ k. lies_below (q k) (p k))) ∙ h.apart;
    }

pub shorter-good : (name : Bytes) (group : List FileRow) → Each (λ t. is_in name t ≡ true) group → Good group → Good (map (shorter name) group)
shorter-good name [] all g = tt
shorter-good name (t ∷ group) all g = (
  shorter-file name t (is-in name t all.0) g.0,
  by group all.1 g.1,
  shorter-good name group all.1 g.2,
)
  where
    by : (rows : List FileRow) → Each (λ x. is_in name x ≡ true) rows → Each (Before t) rows → Each (Before (shorter name t)) (map (shorter name) rows)
    by [] a b = tt
    by (x ∷ rows) a b = (shorter-before name t x (is-in name t all.0) (is-in name x a.0) b.0, by rows a.1 b.1)

-- what lies below the name are the leaves of the shorter rows
pub shorter-leaves : (name : Bytes) (group : List FileRow) → Each (λ t. is_in name t ≡ true) group → leaves_below name (map leaf_of group) ≡ map leaf_of (map (shorter name) group)
shorter-leaves name [] all = refl
shorter-leaves name (t ∷ group) all =
    let u = is-in name t all.0 in
    (λ k. cons_option (one_leaf u k) (shorter-leaves name group all.1 k))
  where
    one_leaf : (u : Under name t) → cut_name name (leaf_of t) (components t.path) ≡ Some (leaf_of (shorter name t))
    one_leaf u =
        let c = components-some u.0 in
        ap (cut_name name (leaf_of t)) (u.1.parts ∙ ap (λ (cs : List Bytes). name ∷ cs) c.2)
        ∙ ap (λ (b : Bool). if b then Some (record { names = c.0 ∷ c.1; mode = t.mode; id = t.id; content = [] }) else None) (same name)
        ∙ ap (λ (cs : List Bytes). Some (record { names = cs; mode = t.mode; id = t.id; content = [] })) (sym c.2 ∙ sym (ap components (shorter-path name t u)))

-- no file has the name
pub no-file : (name : Bytes) (group : List FileRow) → Each (λ t. is_in name t ≡ true) group → leaf_named name (map leaf_of group) ≡ None
no-file name [] all = refl
no-file name (t ∷ group) all =
    let u = is-in name t all.0 in
    let c = components-some u.0 in
    ap (λ (names : List Bytes). if is_named name names then Some (leaf_of t) else leaf_named name (map leaf_of group)) (u.1.parts ∙ ap (λ (cs : List Bytes). name ∷ cs) c.2)
    ∙ no-file name group all.1
