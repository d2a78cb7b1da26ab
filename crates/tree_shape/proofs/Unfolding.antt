-- The rows of a walk that nothing ends are those that the root unfolds to. They are met in the order of a walk.
use Rattle.text_model.proofs.Options.{some_is, not_true}
use Rattle.std.proofs.Common.{◌≡◌, ◌≢◌, ◌≤◌, ◌<◌, ℕ, zero, suc, Bool, true, false, not, List, [], ◌∷◌, ◌++◌, length, take, map, Option, Some, None, refl, sym, ap, subst, ◌∙◌, append_assoc, inl, inr, arith}
use Rattle.std.specs.Prelude.{◌||◌, filter, if◌then◌else◌, bytes_eq}
use Rattle.std.specs.List.{list_any}
use Rattle.std.proofs.lemmas.Slice.Eq.{bytes_eq-Decides}
use Rattle.std.proofs.lemmas.List.{append-nil, map-append, length-take}
use Rattle.std.proofs.lemmas.List.Elements.{filter-append}
use Rattle.std.proofs.lemmas.Bool.{leb-true, cases_lt}
use Rattle.text_model.specs.Lists.{In, Each, rises}
use Rattle.text_model.specs.Text.{Bytes, IsBytes, is_below, has_byte}
use Rattle.text_model.specs.Id.{Id, IsId, tree, object_id}
use Rattle.text_model.specs.Path.{components, is_fit_path}
use Rattle.text_model.specs.Fault.{FaultName}
use Rattle.text_model.specs.Fault as fault
use Rattle.git_model.specs.Tree.{Mode, Directory, is_directory, TreeEntry, IsTree, sort_name, is_entry_below, has_distinct, tree_text}
use Rattle.git_model.specs.Object.{Object, tree_at, AreObjects}
use Rattle.git_model.specs.Unfold.{FileRow, HasEntry, IsLast, Reaches, Unfolds, IsUnfolding, joined_path, visits, has_no_entries, is_row, visit_fault, first_visit_fault, walk, met_rows, tree_rows, is_path_below}
use Rattle.text_model.proofs.Elements.{in_map as in-map, each_in, each_from}
use Rattle.git_model.proofs.SortLemmas.{Distinct, in-order, of-order, order-rises, Ascends, rises-ascends}
use Rattle.tree_shape.proofs.Held.{held}
use Rattle.git_model.proofs.ObjectLemmas.{tree_at-tree}
use Rattle.git_model.proofs.NameOrderLemmas.{below-front}
use Rattle.text_model.proofs.ByteLemmas.{IsBytes-append}
use Rattle.tree_shape.proofs.VisitLemmas.{dir-mode}
use Rattle.tree_shape.specs.Orders.{met_path}
use Rattle.tree_shape.specs.Sets.{IsFileRow, IsFiles}
use Rattle.tree_shape.specs.Walks.{row_at, entry_visits, entries_visits}
use Rattle.tree_shape.proofs.Elements.{in-flat, of-flat, in-filter, of-filter}
use Rattle.tree_shape.proofs.Below.{below-apart, below-more, has-slash, same-dir, Rising, rises-Rising, Rising-append}
use Rattle.tree_shape.proofs.FitLemmas.{fit-parts}
use Rattle.tree_shape.proofs.Names.{IsName, way, fit-name, joined-some, components-whole, way-of-components}
use Rattle.tree_shape.proofs.WalkLemmas.{visits-zero, visits-none, next, step-none, fault-cons}
use Rattle.text_model.proofs.OrderLemmas.{is_below-chain, is_below-irreflexive}
use Rattle.text_model.proofs.TestLemmas.{both, or_true}

pub visits-suc : (known : List Object) (depth : ℕ) (path : Bytes) (root : Id) (entries : List TreeEntry) → tree_at known root ≡ Some entries
    → visits known (suc depth) path root ≡ entries_visits known depth path entries
unfolding visits
visits-suc known depth path root entries h = rw (h, visits) refl

pub name-of : (entries : List TreeEntry) (e : TreeEntry) → IsTree entries → In e entries → IsName e.name
name-of entries e t i = fit-name e.name (each_in _ entries e t.0 i).0

bytes-of : (entries : List TreeEntry) (e : TreeEntry) → IsTree entries → In e entries → IsBytes e.name
bytes-of entries e t i = (each_in _ entries e t.0 i).1

id-of : (entries : List TreeEntry) (e : TreeEntry) → IsTree entries → In e entries → IsId e.id
id-of entries e t i = (each_in _ entries e t.0 i).2

joined-bytes : (path name : Bytes) → IsBytes path → IsBytes name → IsBytes (joined_path path name)
joined-bytes [] name p n = n
joined-bytes (b ∷ path) name p n = IsBytes-append (b ∷ path) (47 ∷ name) p (omega arith, n)

pub text-none : tree_text [] ≡ []
unfolding tree_text
text-none = refl

-- ---- the last step of a way

abbrev row_by : Bool → Option (List TreeEntry) → Bool
row_by directory o = not directory || has_no_entries o

pub no-entries : (o : Option (List TreeEntry)) → has_no_entries o ≡ true → o ≡ Some []
no-entries None h = absurd cc
no-entries (Some []) h = refl
no-entries (Some (e ∷ entries)) h = absurd cc

pub last-of : (known : List Object) (v : FileRow) → is_row known v ≡ true → IsLast known v.mode v.id
last-of known v h = by (is_directory v.mode) refl h
  where
    by : (t : Bool) → is_directory v.mode ≡ t → row_by t (tree_at known v.id) ≡ true → IsLast known v.mode v.id
    by false d h = inl d
    by true d h = inr (no-entries (tree_at known v.id) h)

pub row-of-last : (known : List Object) (v : FileRow) → IsLast known v.mode v.id → is_row known v ≡ true
row-of-last known v (inl file) = ap (λ (t : Bool). row_by t (tree_at known v.id)) file
row-of-last known v (inr empty) = ap (row_by (is_directory v.mode)) empty ∙ by (is_directory v.mode)
  where
    by : (t : Bool) → row_by t (Some []) ≡ true
    by true = refl
    by false = refl

-- ---- each row is reached

record Way (known : List Object) (root : Id) (path : Bytes) (row : FileRow) : Type 0 where
  name : Bytes
  names : List Bytes
  reaches : Reaches known root (name ∷ names) row.mode row.id
  each : Each IsName (name ∷ names)
  is : row.path ≡ way path (name ∷ names)
  bytes : IsBytes path → IsBytes row.path
  id : IsId row.id

way-of : (known : List Object) → AreObjects known → (depth : ℕ) (path : Bytes) (root : Id) (row : FileRow) → In row (visits known depth path root) → is_row known row ≡ true → Way known root path row
way-of known trees zero path root row i r = absurd (subst (λ (vs : List FileRow). In row vs) (visits-zero known zero path root refl) i)
way-of known trees (suc depth) path root row i r = by (λ p q j. way-of known trees depth p q row j r) (tree_at known root) refl
  where
    deeper : (entries : List TreeEntry) (e : TreeEntry) → tree_at known root ≡ Some entries → In e entries → ((p : Bytes) (q : Id) → In row (visits known depth p q) → Way known q p row)
        → (t : Bool) → is_directory e.mode ≡ t → In row (if t then visits known depth (joined_path path e.name) e.id else []) → Way known root path row
    deeper entries e at i rec false d j = absurd j
    deeper entries e at i rec true d j =
        let w = rec (joined_path path e.name) e.id j in
        record {
          name = e.name;
          names = w.name ∷ w.names;
          reaches = (e.id, (entries, at, subst (λ (m : Mode). In (record { mode = m; name = e.name; id = e.id }) entries) (dir-mode e.mode d) i), w.reaches);
          each = (name-of entries e (tree_at-tree known root entries trees at) i, w.each);
          is = w.is;
          bytes = λ p. w.bytes (joined-bytes path e.name p (bytes-of entries e (tree_at-tree known root entries trees at) i));
          id = w.id;
        }

    leaf : (entries : List TreeEntry) (e : TreeEntry) → tree_at known root ≡ Some entries → In e entries → is_row known (row_at (joined_path path e.name) e) ≡ true → Way known root path (row_at (joined_path path e.name) e)
    leaf entries e at i file = record {
      name = e.name;
      names = [];
      reaches = ((entries, at, i), last-of known (row_at (joined_path path e.name) e) file);
      each = (name-of entries e (tree_at-tree known root entries trees at) i, tt);
      is = refl;
      bytes = λ p. joined-bytes path e.name p (bytes-of entries e (tree_at-tree known root entries trees at) i);
      id = id-of entries e (tree_at-tree known root entries trees at) i;
    }

    by : ((p : Bytes) (q : Id) → In row (visits known depth p q) → Way known q p row) → (o : Option (List TreeEntry)) → tree_at known root ≡ o → Way known root path row
    by rec None at = absurd (subst (λ (vs : List FileRow). In row vs) (visits-none known (suc depth) path root at) i)
    by rec (Some entries) at =
        let from = of-flat (entry_visits known depth path) entries row (subst (λ (vs : List FileRow). In row vs) (visits-suc known depth path root entries at) i) in
        elim from.2 [
          | inl q ↦ subst (λ (v : FileRow). Way known root path v) (sym q) (leaf entries from.0 at from.1 (sym (ap (is_row known) q) ∙ r))
          | inr j ↦ deeper entries from.0 at from.1 rec (is_directory from.0.mode) refl j
        ]

-- ---- each that is reached is visited

visited : (known : List Object) (depth : ℕ) (path : Bytes) (root : Id) (name : Bytes) (names : List Bytes) (mode : Mode) (id : Id) → Reaches known root (name ∷ names) mode id → length names < depth
    → In (record { path = way path (name ∷ names); mode = mode; id = id }) (visits known depth path root)
visited known zero path root name names mode id h lt = absurd (omega arith)
visited known (suc depth) path root name [] mode id h lt =
    subst (λ (vs : List FileRow). In (record { path = joined_path path name; mode = mode; id = id }) vs) (sym (visits-suc known depth path root h.0.0 h.0.1))
    (in-flat (entry_visits known depth path) h.0.0 (record { mode = mode; name = name; id = id }) _ h.0.2 (inl refl))
visited known (suc depth) path root name (next ∷ names) mode id h lt =
    subst (λ (vs : List FileRow). In (record { path = way path (name ∷ next ∷ names); mode = mode; id = id }) vs) (sym (visits-suc known depth path root h.1.0 h.1.1))
    (in-flat (entry_visits known depth path) h.1.0 (record { mode = Directory; name = name; id = h.0 }) _ h.1.2
    (inr (visited known depth (joined_path path name) h.0 next names mode id h.2 (omega arith))))

-- of a way that is too long the beginning is visited
record Beginning (known : List Object) (depth : ℕ) (path : Bytes) (root : Id) (names : List Bytes) : Type 0 where
  mode : Mode
  id : Id
  in_walk : In (record { path = way path (take depth names); mode = mode; id = id }) (visits known depth path root)

beginning : (known : List Object) (depth : ℕ) (path : Bytes) (root : Id) (name : Bytes) (names : List Bytes) (mode : Mode) (id : Id) → Reaches known root (name ∷ names) mode id → depth < length names
    → Beginning known (suc depth) path root (name ∷ names)
beginning known depth path root name [] mode id h lt = absurd (omega arith)
beginning known zero path root name (next ∷ names) mode id h lt = record {
  mode = Directory;
  id = h.0;
  in_walk = subst (λ (vs : List FileRow). In (record { path = joined_path path name; mode = Directory; id = h.0 }) vs) (sym (visits-suc known zero path root h.1.0 h.1.1))
      (in-flat (entry_visits known zero path) h.1.0 (record { mode = Directory; name = name; id = h.0 }) _ h.1.2 (inl refl));
}
beginning known (suc depth) path root name (next ∷ names) mode id h lt =
    let b = beginning known depth (joined_path path name) h.0 next names mode id h.2 (omega arith) in
    record {
      mode = b.mode;
      id = b.id;
      in_walk = subst (λ (vs : List FileRow). In (record { path = way path (take (suc (suc depth)) (name ∷ next ∷ names)); mode = b.mode; id = b.id }) vs) (sym (visits-suc known (suc depth) path root h.1.0 h.1.1))
          (in-flat (entry_visits known (suc depth) path) h.1.0 (record { mode = Directory; name = name; id = h.0 }) _ h.1.2 (inr b.in_walk));
    }

reach-names : (known : List Object) → AreObjects known → (root : Id) (names : List Bytes) (mode : Mode) (id : Id) → Reaches known root names mode id → Each IsName names × IsLast known mode id
reach-names known trees root [] mode id h = absurd h
reach-names known trees root (name ∷ []) mode id h =
    ((name-of h.0.0 (record { mode = mode; name = name; id = id }) (tree_at-tree known root h.0.0 trees h.0.1) h.0.2, tt), h.1)
reach-names known trees root (name ∷ next ∷ names) mode id h =
    let rest = reach-names known trees h.0 (next ∷ names) mode id h.2 in
    ((name-of h.1.0 (record { mode = Directory; name = name; id = h.0 }) (tree_at-tree known root h.1.0 trees h.1.1) h.1.2, rest.0), rest.1)

Each-take : (n : ℕ) (names : List Bytes) → Each IsName names → Each IsName (take n names)
Each-take zero names h = tt
Each-take (suc n) [] h = tt
Each-take (suc n) (name ∷ names) h = (h.0, Each-take n names h.1)

-- what is reached is visited, where no visited path has so many components
reached : (known : List Object) → AreObjects known → (depth : ℕ) (root : Id) → ((v : FileRow) → In v (visits known (suc depth) [] root) → length (components v.path) ≤ depth)
    → (row : FileRow) → Unfolds known root row → In row (visits known (suc depth) [] root) × (is_row known row ≡ true)
reached known trees depth root short row h = by (components row.path) refl h
  where
    by : (names : List Bytes) → components row.path ≡ names → Reaches known root names row.mode row.id → In row (visits known (suc depth) [] root) × (is_row known row ≡ true)
    by [] e h = absurd h
    by (name ∷ names) e h =
        let all = reach-names known trees root (name ∷ names) row.mode row.id h in
        let is : row.path ≡ way [] (name ∷ names) =
        way-of-components row.path (subst (λ (c : List Bytes). Each IsName c) (sym e) all.0) ∙ ap (λ (c : List Bytes). way [] c) e in (
          elim (cases_lt depth (length names)) [
            | inl deep ↦
                let b = beginning known depth [] root name names row.mode row.id h deep in
                let long : length (components (way [] (take (suc depth) (name ∷ names)))) ≡ length (take (suc depth) (name ∷ names)) =
                ap (λ (c : List Bytes). length c) (components-whole (take (suc depth) (name ∷ names)) (λ q. cc) (Each-take (suc depth) (name ∷ names) all.0)) in
                absurd (omega (arith, short _ b.in_walk, long, length-take (suc depth) (name ∷ names)))
            | inr near ↦
                subst (λ (p : Bytes). In (record { path = p; mode = row.mode; id = row.id }) (visits known (suc depth) [] root)) (sym is)
                (visited known (suc depth) [] root name names row.mode row.id h (omega arith))
          ],
          row-of-last known row all.1,
        )

-- ---- nothing was refused, so paths are fit

pub fit-if : (t : Bool) (rest : Option FaultName) → (if not t then Some fault.PathUnfit else rest) ≡ None → t ≡ true
fit-if true rest h = refl
fit-if false rest h = absurd cc

pub fit-visits : (known : List Object) (size : ℕ) (vs : List FileRow) (v : FileRow) → first_visit_fault known size vs ≡ None → In v vs → is_fit_path v.path ≡ true
fit-visits known size [] v h i = absurd i
fit-visits known size (w ∷ vs) v h i =
    let parts = step-none (visit_fault known size w) w.id (first_visit_fault known (next known size w) vs) (sym (fault-cons known size w vs) ∙ h) in
    elim i [
      | inl q ↦ ap (λ (x : FileRow). is_fit_path x.path) q ∙ fit-if (is_fit_path w.path) _ parts.0
      | inr j ↦ fit-visits known (next known size w) vs v parts.1 j
    ]

pub fit-short : (path : Bytes) → is_fit_path path ≡ true → length (components path) ≤ 256
fit-short path h = leb-true (length (components path)) 256 (fit-parts path h).few

-- ---- the order of the rows

abbrev base : Bytes → Bytes
base [] = []
base (b ∷ path) = (b ∷ path) ++ 47 ∷ []

joined-base : (path name : Bytes) → joined_path path name ≡ base path ++ name
joined-base [] name = refl
joined-base (b ∷ path) name = sym (append_assoc (b ∷ path) (47 ∷ []) name)

-- what lies behind a path
way-behind : (path : Bytes) (name : Bytes) (names : List Bytes) → path ≢ [] → (s : Bytes) × (way path (name ∷ names) ≡ path ++ 47 ∷ s)
way-behind [] name names some = absurd (some refl)
way-behind (b ∷ path) name [] some = (name, refl)
way-behind (b ∷ path) name (next ∷ names) some =
    let rest = way-behind ((b ∷ path) ++ 47 ∷ name) next names (λ e. cc) in
    (name ++ 47 ∷ rest.0, rest.1 ∙ append_assoc (b ∷ path) (47 ∷ name) (47 ∷ rest.0))

clash : true ≡ false → ⊥
clash q = cc

-- what stands in front stays in front
pub met-front : (front : Bytes) (mode : Mode) (path : Bytes) → sort_name mode (front ++ path) ≡ front ++ sort_name mode path
met-front front mode path = by (is_directory mode)
  where
    by : (t : Bool) → (if t then (front ++ path) ++ 47 ∷ [] else front ++ path) ≡ front ++ (if t then path ++ 47 ∷ [] else path)
    by true = append_assoc front path (47 ∷ [])
    by false = refl

-- the path of a row at or below an entry
record Under (path : Bytes) (e : TreeEntry) (x : Bytes) : Type 0 where
  more : Bytes
  is : x ≡ base path ++ (sort_name e.mode e.name ++ more)
  flat : is_directory e.mode ≡ false → more ≡ []

under : (known : List Object) → AreObjects known → (depth : ℕ) (path : Bytes) (e : TreeEntry) (v : FileRow) → IsName e.name → In v (entry_visits known depth path e) → is_row known v ≡ true → Under path e (met_path v)
under known trees depth path e v n i r = elim i [
  | inl q ↦ subst (λ (x : FileRow). Under path e (met_path x)) (sym q) here
  | inr j ↦ there (is_directory e.mode) refl j
]
  where
    here : Under path e (met_path (row_at (joined_path path e.name) e))
    here = record {
      more = [];
      is = ap (sort_name e.mode) (joined-base path e.name) ∙ met-front (base path) e.mode e.name ∙ ap (λ (x : Bytes). base path ++ x) (sym (append-nil (sort_name e.mode e.name)));
      flat = λ _. refl;
    }

    there : (t : Bool) → is_directory e.mode ≡ t → In v (if t then visits known depth (joined_path path e.name) e.id else []) → Under path e (met_path v)
    there false d j = absurd j
    there true d j =
        let w = way-of known trees depth (joined_path path e.name) e.id v j r in
        let rest = way-behind (joined_path path e.name) w.name w.names (joined-some path e.name n.some) in
        let whole : v.path ≡ (base path ++ (e.name ++ 47 ∷ [])) ++ rest.0 =
        w.is ∙ rest.1 ∙ ap (λ (x : Bytes). x ++ 47 ∷ rest.0) (joined-base path e.name) ∙ append_assoc (base path) e.name (47 ∷ rest.0)
        ∙ ap (λ (x : Bytes). base path ++ x) (sym (append_assoc e.name (47 ∷ []) rest.0)) ∙ sym (append_assoc (base path) (e.name ++ 47 ∷ []) rest.0) in
        record {
          more = sort_name v.mode rest.0;
          is = ap (sort_name v.mode) whole ∙ met-front (base path ++ (e.name ++ 47 ∷ [])) v.mode rest.0 ∙ append_assoc (base path) (e.name ++ 47 ∷ []) (sort_name v.mode rest.0)
              ∙ ap (λ (b : Bool). base path ++ ((if b then e.name ++ 47 ∷ [] else e.name) ++ sort_name v.mode rest.0)) (sym d);
          flat = λ f. absurd (clash (sym d ∙ f));
        }

-- an entry below another keeps below it all that lies there
cross : (path : Bytes) (e f : TreeEntry) (x y : Bytes) → IsName e.name → IsName f.name → is_entry_below e f ≡ true → Under path e x → Under path f y → is_below x y ≡ true
cross path e f x y m n h u v =
    ap (λ (z : Bytes). is_below z y) u.is ∙ ap (λ (z : Bytes). is_below (base path ++ (sort_name e.mode e.name ++ u.more)) z) v.is
    ∙ below-front (base path) (sort_name e.mode e.name ++ u.more) (sort_name f.mode f.name ++ v.more)
    ∙ by (is_directory e.mode) refl
  where
    apart : (t : Bool) → is_directory f.mode ≡ t → is_directory e.mode ≡ true → (r : Bytes) → sort_name f.mode f.name ≡ sort_name e.mode e.name ++ r → ⊥
    apart false d g r q =
        let plain : f.name ≡ (e.name ++ 47 ∷ []) ++ r = sym (ap (λ (b : Bool). if b then f.name ++ 47 ∷ [] else f.name) d) ∙ q ∙ ap (λ (b : Bool). (if b then e.name ++ 47 ∷ [] else e.name) ++ r) g in
        clash (sym (has-slash e.name r) ∙ sym (ap (has_byte 47) plain) ∙ n.plain)
    apart true d g r q =
        let both_dirs : f.name ++ 47 ∷ [] ≡ (e.name ++ 47 ∷ []) ++ r = sym (ap (λ (b : Bool). if b then f.name ++ 47 ∷ [] else f.name) d) ∙ q ∙ ap (λ (b : Bool). (if b then e.name ++ 47 ∷ [] else e.name) ++ r) g in
        let same : e.name ≡ f.name = same-dir e.name f.name r m.plain n.plain both_dirs in
        let equal : sort_name e.mode e.name ≡ sort_name f.mode f.name =
        ap (λ (b : Bool). if b then e.name ++ 47 ∷ [] else e.name) (g ∙ sym d) ∙ ap (λ (z : Bytes). if is_directory f.mode then z ++ 47 ∷ [] else z) same in
        clash (sym h ∙ ap (λ (z : Bytes). is_below z (sort_name f.mode f.name)) equal ∙ is_below-irreflexive (sort_name f.mode f.name))

    by : (t : Bool) → is_directory e.mode ≡ t → is_below (sort_name e.mode e.name ++ u.more) (sort_name f.mode f.name ++ v.more) ≡ true
    by true d = below-apart (sort_name e.mode e.name) (sort_name f.mode f.name) u.more v.more h (λ r q. apart (is_directory f.mode) refl d r q)
    by false d =
        ap (λ (z : Bytes). is_below z (sort_name f.mode f.name ++ v.more)) (ap (λ (s : Bytes). sort_name e.mode e.name ++ s) (u.flat d) ∙ append-nil (sort_name e.mode e.name))
        ∙ below-more (sort_name e.mode e.name) (sort_name f.mode f.name) v.more h

rises-later : (e : TreeEntry) (es : List TreeEntry) (f : TreeEntry) → rises is_entry_below (e ∷ es) ≡ true → In f es → is_entry_below e f ≡ true
rises-later e [] f h i = absurd i
rises-later e (g ∷ es) f h i =
    let parts = both (is_entry_below e g) (rises is_entry_below (g ∷ es)) h in
    elim i [
      | inl q ↦ ap (is_entry_below e) q ∙ parts.0
      | inr j ↦ is_below-chain (sort_name e.mode e.name) (sort_name g.mode g.name) (sort_name f.mode f.name) parts.0 (rises-later g es f parts.1 j)
    ]

rises-tail : (e : TreeEntry) (es : List TreeEntry) → rises is_entry_below (e ∷ es) ≡ true → rises is_entry_below es ≡ true
rises-tail e [] h = refl
rises-tail e (g ∷ es) h = (both (is_entry_below e g) (rises is_entry_below (g ∷ es)) h).1

module _ (known : List Object) (trees : AreObjects known) where
  abbrev pub paths : List FileRow → List Bytes
  paths vs = map met_path (filter (is_row known) vs)

  paths-append : (vs ws : List FileRow) → paths (vs ++ ws) ≡ paths vs ++ paths ws
  paths-append vs ws = ap (map met_path) (filter-append (is_row known) vs ws) ∙ map-append met_path (filter (is_row known) vs) (filter (is_row known) ws)

  of-map : (vs : List FileRow) (x : Bytes) → In x (map met_path vs) → (v : FileRow) × In v vs × (x ≡ met_path v)
  of-map [] x h = absurd h
  of-map (v ∷ vs) x h = elim h [ inl q ↦ (v, inl refl, q) | inr j ↦ let o = of-map vs x j in (o.0, inr o.1, o.2) ]

  of-paths : (vs : List FileRow) (x : Bytes) → In x (paths vs) → (v : FileRow) × In v vs × (x ≡ met_path v) × (is_row known v ≡ true)
  of-paths vs x h = let o = of-map (filter (is_row known) vs) x h in let f = of-filter (is_row known) o.0 vs o.1 in (o.0, f.0, o.2, f.1)

  visits-empty : (depth : ℕ) (path : Bytes) (id : Id) → tree_at known id ≡ Some [] → visits known depth path id ≡ []
  visits-empty zero path id h = visits-zero known zero path id refl
  visits-empty (suc depth) path id h = visits-suc known depth path id [] h

  rising-entry : (depth : ℕ) (path : Bytes) (e : TreeEntry) → Rising (paths (visits known depth (joined_path path e.name) e.id)) → Rising (paths (entry_visits known depth path e))
  rising-entry depth path e h = by (is_directory e.mode) (is_row known (row_at (joined_path path e.name) e)) refl refl
    where
      row : FileRow
      row = row_at (joined_path path e.name) e

      met : (t r : Bool) → Type 0
      met t r = Rising (map met_path (if r then row ∷ filter (is_row known) (if t then visits known depth (joined_path path e.name) e.id else []) else filter (is_row known) (if t then visits known depth (joined_path path e.name) e.id else [])))

      none_is : is_directory e.mode ≡ true → row_by true (tree_at known e.id) ≡ true → visits known depth (joined_path path e.name) e.id ≡ []
      none_is d r = visits-empty depth (joined_path path e.name) e.id (no-entries (tree_at known e.id) r)

      by : (t r : Bool) → is_directory e.mode ≡ t → is_row known row ≡ r → met t r
      by true false d r = h
      by true true d r = subst (λ (vs : List FileRow). Rising (map met_path (row ∷ filter (is_row known) vs))) (sym (none_is d (sym (ap (λ (t : Bool). row_by t (tree_at known e.id)) d) ∙ r))) (tt, tt)
      by false true d r = (tt, tt)
      by false false d r = tt

  rising-entries : (depth : ℕ) (path : Bytes) (es : List TreeEntry) → ((e : TreeEntry) → In e es → IsName e.name) → rises is_entry_below es ≡ true
      → ((p : Bytes) (id : Id) → Rising (paths (visits known depth p id))) → Rising (paths (entries_visits known depth path es))
  rising-entries depth path [] names order rec = tt
  rising-entries depth path (e ∷ es) names order rec =
      subst Rising (sym (paths-append (entry_visits known depth path e) (entries_visits known depth path es)))
      (Rising-append (paths (entry_visits known depth path e)) (paths (entries_visits known depth path es))
      (rising-entry depth path e (rec (joined_path path e.name) e.id))
      (rising-entries depth path es (λ f i. names f (inr i)) (rises-tail e es order) rec)
      (λ x y i j.
      let a = of-paths (entry_visits known depth path e) x i in
      let b = of-paths (entries_visits known depth path es) y j in
      let f = of-flat (entry_visits known depth path) es b.0 b.1 in
      ap (λ (z : Bytes). is_below z y) a.2 ∙ ap (λ (z : Bytes). is_below (met_path a.0) z) b.2
      ∙ cross path e f.0 (met_path a.0) (met_path b.0) (names e (inl refl)) (names f.0 (inr f.1)) (rises-later e es f.0 order f.1)
      (under known trees depth path e a.0 (names e (inl refl)) a.1 a.3) (under known trees depth path f.0 b.0 (names f.0 (inr f.1)) f.2 b.3)))

  pub rising : (depth : ℕ) (path : Bytes) (root : Id) → Rising (paths (visits known depth path root))
  rising zero path root = subst (λ (vs : List FileRow). Rising (paths vs)) (sym (visits-zero known zero path root refl)) tt
  rising (suc depth) path root = by (rising depth) (tree_at known root) refl
    where
      by : ((p : Bytes) (id : Id) → Rising (paths (visits known depth p id))) → (o : Option (List TreeEntry)) → tree_at known root ≡ o → Rising (paths (visits known (suc depth) path root))
      by rec None at = subst (λ (vs : List FileRow). Rising (paths vs)) (sym (visits-none known (suc depth) path root at)) tt
      by rec (Some entries) at = subst (λ (vs : List FileRow). Rising (paths vs)) (sym (visits-suc known depth path root entries at))
          (rising-entries depth path entries (λ e i. name-of entries e (tree_at-tree known root entries trees at) i) (tree_at-tree known root entries trees at).1 rec)

-- ---- one list of names reaches one row

one-entry : (entries : List TreeEntry) (a b : TreeEntry) → has_distinct (map (λ e. e.name) entries) ≡ true → In a entries → In b entries → a.name ≡ b.name → a ≡ b
one-entry [] a b d i j q = absurd i
one-entry (e ∷ entries) a b d i j q =
    let parts = both (not (list_any (bytes_eq e.name) (map (λ e. e.name) entries))) (has_distinct (map (λ e. e.name) entries)) d in
    let out : (x : TreeEntry) → In x entries → e.name ≡ x.name → ⊥ = λ x k s. clash (sym (stands entries x k s) ∙ not_true (list_any (bytes_eq e.name) (map (λ e. e.name) entries)) parts.0) in
    elim i [
      | inl p ↦ elim j [
        | inl r ↦ p ∙ sym r
        | inr k ↦ absurd (out b k (ap (λ (x : TreeEntry). x.name) (sym p) ∙ q))
      ]
      | inr h ↦ elim j [
        | inl r ↦ absurd (out a h (ap (λ (x : TreeEntry). x.name) (sym r) ∙ sym q))
        | inr k ↦ one-entry entries a b parts.1 h k q
      ]
    ]
  where
    stands : (es : List TreeEntry) (x : TreeEntry) → In x es → e.name ≡ x.name → list_any (bytes_eq e.name) (map (λ e. e.name) es) ≡ true
    stands [] x k s = absurd k
    stands (f ∷ es) x k s = elim k [
      | inl p ↦ ap (λ (t : Bool). t || list_any (bytes_eq e.name) (map (λ e. e.name) es)) ((bytes_eq-Decides e.name f.name).1 (s ∙ ap (λ (x : TreeEntry). x.name) p))
      | inr l ↦ ap (λ (t : Bool). bytes_eq e.name f.name || t) (stands es x l s) ∙ or_true (bytes_eq e.name f.name)
    ]

-- the entries that one tree has of one name
same-entry : (known : List Object) → AreObjects known → (root : Id) (name : Bytes) (m n : Mode) (a b : Id) → HasEntry known root m name a → HasEntry known root n name b → (m ≡ n) × (a ≡ b)
same-entry known trees root name m n a b x y =
    let same : y.0 ≡ x.0 = some_is {x = y.0} {y = x.0} (sym y.1 ∙ x.1) in
    let is = one-entry x.0 (record { mode = m; name = name; id = a }) (record { mode = n; name = name; id = b }) (tree_at-tree known root x.0 trees x.1).2 x.2 (subst (λ (es : List TreeEntry). In (record { mode = n; name = name; id = b }) es) same y.2) refl in
    ((λ i. (is i).mode), (λ i. (is i).id))

reaches-one : (known : List Object) → AreObjects known → (root : Id) (names : List Bytes) (m n : Mode) (a b : Id) → Reaches known root names m a → Reaches known root names n b → (m ≡ n) × (a ≡ b)
reaches-one known trees root [] m n a b x y = absurd x
reaches-one known trees root (name ∷ []) m n a b x y = same-entry known trees root name m n a b x.0 y.0
reaches-one known trees root (name ∷ next ∷ names) m n a b x y =
    let below : x.0 ≡ y.0 = (same-entry known trees root name Directory Directory x.0 y.0 x.1 y.1).1 in
    reaches-one known trees y.0 (next ∷ names) m n a b (subst (λ (r : Id). Reaches known r (next ∷ names) m a) below x.2) y.2

-- ---- the whole

pub reached-by : (known : List Object) (root : Id) → AreObjects known → (row : FileRow) → In row (met_rows known root) → Unfolds known root row
reached-by known root trees row i =
    let f = of-filter (is_row known) row (walk known root) i in
    let w = way-of known trees 257 [] root row f.0 f.1 in
    subst (λ (c : List Bytes). Reaches known root c row.mode row.id) (sym (ap components w.is ∙ components-whole (w.name ∷ w.names) (λ e. cc) w.each)) w.reaches

-- rows of one path are one
pub one-path : (known : List Object) (root : Id) → AreObjects known → (a b : FileRow) → In a (met_rows known root) → In b (met_rows known root) → a.path ≡ b.path → a ≡ b
one-path known root trees a b i j q =
    let one = reaches-one known trees root (components a.path) a.mode b.mode a.id b.id (reached-by known root trees a i)
    (subst (λ (p : Bytes). Reaches known root (components p) b.mode b.id) (sym q) (reached-by known root trees b j)) in
    (λ k. record { path = q k; mode = one.0 k; id = one.1 k })

-- the rows of a walk stand one before the other
pub met-rises : (known : List Object) (root : Id) → AreObjects known → Rising (map met_path (met_rows known root))
met-rises known root trees = rising known trees 257 [] root

pub met-ascends : (known : List Object) (root : Id) → AreObjects known → Ascends met_path (met_rows known root)
met-ascends known root trees = rises-ascends met_path (met_rows known root) (rises-Rising (map met_path (met_rows known root)) (met-rises known root trees))

pub met-distinct : (known : List Object) (root : Id) → AreObjects known → Distinct (λ (r : FileRow). r.path) (met_rows known root)
met-distinct known root trees = by (met_rows known root) (λ r i. i) (met-rises known root trees)
  where
    by : (rows : List FileRow) → ((r : FileRow) → In r rows → In r (met_rows known root)) → Rising (map met_path rows) → Distinct (λ (r : FileRow). r.path) rows
    by [] among up = tt
    by (r ∷ rows) among up = (
      each_from (λ x. r.path ≢ x.path) rows (λ x i q.
          let one = one-path known root trees r x (among r (inl refl)) (among x (inr i)) q in
          clash (sym (each_in (λ y. is_below (met_path r) y ≡ true) (map met_path rows) (met_path x) up.0 (in-map met_path x rows i)) ∙ ap (λ (z : FileRow). is_below (met_path z) (met_path x)) one ∙ is_below-irreflexive (met_path x))),
      by rows (λ x i. among x (inr i)) up.1,
    )

pub unfolds : (known : List Object) (root : Id) → AreObjects known → first_visit_fault known 0 (walk known root) ≡ None → IsUnfolding known root (tree_rows known root)
unfolds known root trees none = record {
  each = λ row i. reached-by known root trees row (of-order is_path_below row (met_rows known root) i);
  all = λ row h.
      let r = reached known trees 256 root (λ v i. fit-short v.path (fit-visits known 0 (walk known root) v none i)) row h in
      in-order is_path_below row (met_rows known root) (in-filter (is_row known) row (walk known root) r.0 r.1);
  in_order = order-rises (λ (r : FileRow). r.path) (met_rows known root) (met-distinct known root trees);
}

-- each row that a walk meets is one of a set of rows
pub row-of : (known : List Object) (root : Id) (row : FileRow) → AreObjects known → first_visit_fault known 0 (walk known root) ≡ None → In row (met_rows known root) → IsFileRow row
row-of known root row trees none i =
    let f = of-filter (is_row known) row (walk known root) i in
    let w = way-of known trees 257 [] root row f.0 f.1 in
    record {
      fit = fit-visits known 0 (walk known root) row none f.0;
      bytes = w.bytes tt;
      empty = λ d. empty-id d (last-of known row f.1);
      id = w.id;
    }
  where
    empty-id : is_directory row.mode ≡ true → IsLast known row.mode row.id → row.id ≡ object_id tree []
    empty-id d (inl file) = absurd (clash (sym d ∙ file))
    empty-id d (inr at) = (held known row.id [] trees at).is_id ∙ ap (object_id tree) text-none

-- the rows of a tree are a set of rows
pub walk-files : (known : List Object) (root : Id) → AreObjects known → first_visit_fault known 0 (walk known root) ≡ None → IsFiles (tree_rows known root)
walk-files known root trees none = record {
  each = each_from IsFileRow (tree_rows known root) (λ r i. row-of known root r trees none (of-order is_path_below r (met_rows known root) i));
  in_order = (unfolds known root trees none).in_order;
}
