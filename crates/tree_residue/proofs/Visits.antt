-- The rows that no changeset can hold, among the visits of a walk.
use Rattle.std.proofs.Common.{◌≡◌, ◌<◌, ◌≤◌, ◌+◌, ◌-◌, ◌&&◌, ℕ, Bool, true, false, List, [], ◌∷◌, ◌++◌, length, take, get_or, Option, Some, None, refl, sym, ap, subst, ◌∙◌, append_assoc, arith}
use Rattle.std.specs.Prelude.{filter, if◌then◌else◌, nat_lt}
use Rattle.std.specs.List.{filter_map, cons_option}
use Rattle.std.proofs.lemmas.Bool.Decides.{nat_tests}
use Rattle.std.proofs.lemmas.List.{append-nil, take_all}
use Rattle.std.proofs.lemmas.List.Elements.{filter-append}
use Rattle.text_model.specs.Id.{Id}
use Rattle.text_model.specs.Lists.{in_order}
use Rattle.text_model.specs.Text.{Bytes}
use Rattle.git_model.specs.Tree.{Mode, File, GroupFile, Exec, Link, Directory, Gitlink, TreeEntry, is_directory}
use Rattle.git_model.specs.Object.{Object, tree_at, AreObjects}
use Rattle.git_model.specs.Unfold.{FileRow, joined_path, visits, is_row, walk, met_rows, tree_rows, by_paths}
use Rattle.git_model.specs.Residue.{ResidueItem, residue_of}
use Rattle.text_model.proofs.Elements.{each_in as each-of, each_from as each-by}
use Rattle.git_model.proofs.SortLemmas.{Distinct, by_key}
use Rattle.git_model.proofs.RowOrder.{taken_ordered}
use Rattle.tree_shape.specs.Walks.{row_at, entry_visits, entries_visits}
use Rattle.tree_shape.proofs.Elements.{of-filter}
use Rattle.tree_shape.proofs.WalkLemmas.{visits-zero, visits-none, visits-some, entries-more, walk-of}
use Rattle.tree_shape.proofs.Unfolding.{met-distinct}
use Rattle.tree_residue.specs.Items.{has_item, item_rows}
use Rattle.tree_residue.proofs.RowsOf.{row_item, item-path}

pub items-append : (known : List Object) (vs ws : List FileRow) → item_rows known (vs ++ ws) ≡ item_rows known vs ++ item_rows known ws
items-append known vs ws =
    ap (filter (λ row. has_item row.mode)) (filter-append (is_row known) vs ws) ∙ filter-append (λ row. has_item row.mode) (filter (is_row known) vs) (filter (is_row known) ws)

-- an entry that a changeset can hold
entry-plain : (known : List Object) (depth : ℕ) (path : Bytes) (e : TreeEntry) → has_item e.mode ≡ false → item_rows known (entry_visits known depth path e) ≡ []
entry-plain known depth path e h = by e.mode h
  where
    by : (m : Mode) → has_item m ≡ false → item_rows known (record { path = joined_path path e.name; mode = m; id = e.id } ∷ (if is_directory m then visits known depth (joined_path path e.name) e.id else [])) ≡ []
    by File h = refl
    by GroupFile h = absurd cc
    by Exec h = refl
    by Link h = refl
    by Directory h = absurd cc
    by Gitlink h = absurd cc

pub turn-skip : (known : List Object) (depth : ℕ) (path : Bytes) (entries : List TreeEntry) (i : ℕ) (e : TreeEntry) (base rows : List FileRow) → i < length entries → e ≡ get_or entries i e → has_item e.mode ≡ false
    → rows ≡ base ++ item_rows known (entries_visits known depth path (take i entries)) → rows ≡ base ++ item_rows known (entries_visits known depth path (take (i + 1) entries))
turn-skip known depth path entries i e base rows within is h r =
    let front : List FileRow = entries_visits known depth path (take i entries) in
    r ∙ ap (λ (vs : List FileRow). base ++ vs) (
    sym (append-nil (item_rows known front))
    ∙ ap (λ (vs : List FileRow). item_rows known front ++ vs) (sym (entry-plain known depth path e h))
    ∙ sym (items-append known front (entry_visits known depth path e))
    ∙ ap (item_rows known) (sym (entries-more known depth path entries i e within is)))

-- what lies below an entry
abbrev pub visits_of : List Object → ℕ → Bytes → Option (List TreeEntry) → List FileRow
visits_of known levels whole None = []
visits_of known levels whole (Some entries) = entries_visits known (levels - 1) whole entries

below-is : (known : List Object) (levels : ℕ) (whole : Bytes) (e : TreeEntry) (o : Option (List TreeEntry)) → o ≡ (if is_directory e.mode && nat_lt 0 levels then tree_at known e.id else None)
    → (if is_directory e.mode then visits known levels whole e.id else []) ≡ visits_of known levels whole o
below-is known levels whole e o h = by (is_directory e.mode) (nat_lt 0 levels) refl o h
  where
    none_some : (es : List TreeEntry) → Some es ≡ None → ⊥
    none_some es q = cc

    deep : nat_lt 0 levels ≡ true → 0 < levels
    deep e = grind (arith, e, nat_tests)

    low : nat_lt 0 levels ≡ false → levels ≡ 0
    low e = grind (arith, e, nat_tests)

    by : (d p : Bool) → nat_lt 0 levels ≡ p → (o : Option (List TreeEntry)) → o ≡ (if d && p then tree_at known e.id else None) → (if d then visits known levels whole e.id else []) ≡ visits_of known levels whole o
    by false p q None h = refl
    by false p q (Some es) h = absurd (none_some es h)
    by true false q None h = visits-zero known levels whole e.id (low q)
    by true false q (Some es) h = absurd (none_some es h)
    by true true q None h = visits-none known levels whole e.id (sym h)
    by true true q (Some es) h = visits-some known levels whole e.id es (deep q) (sym h)

pub turn-walk : (known : List Object) (levels : ℕ) (path : Bytes) (entries : List TreeEntry) (i : ℕ) (e : TreeEntry) (whole : Bytes) (o : Option (List TreeEntry)) (base rows mid new : List FileRow) → i < length entries → e ≡ get_or entries i e
    → whole ≡ joined_path path e.name → o ≡ (if is_directory e.mode && nat_lt 0 levels then tree_at known e.id else None)
    → rows ≡ base ++ item_rows known (entries_visits known levels path (take i entries)) → mid ≡ rows ++ item_rows known (row_at whole e ∷ []) → new ≡ mid ++ item_rows known (visits_of known levels whole o)
    → new ≡ base ++ item_rows known (entries_visits known levels path (take (i + 1) entries))
turn-walk known levels path entries i e whole o base rows mid new within is joins sub r m n =
    let front : List FileRow = entries_visits known levels path (take i entries) in
    let row : List FileRow = row_at whole e ∷ [] in
    let deep : List FileRow = visits_of known levels whole o in
    let one : entry_visits known levels path e ≡ row ++ deep = (λ k. row_at (sym joins k) e ∷ (if is_directory e.mode then visits known levels (sym joins k) e.id else [])) ∙ ap (λ (vs : List FileRow). row ++ vs) (below-is known levels whole e o sub) in
    n ∙ ap (λ (vs : List FileRow). vs ++ item_rows known deep) (m ∙ ap (λ (vs : List FileRow). vs ++ item_rows known row) r)
    ∙ append_assoc (base ++ item_rows known front) (item_rows known row) (item_rows known deep)
    ∙ append_assoc base (item_rows known front) (item_rows known row ++ item_rows known deep)
    ∙ ap (λ (vs : List FileRow). base ++ vs) (
    ap (λ (vs : List FileRow). item_rows known front ++ vs) (sym (items-append known row deep) ∙ ap (item_rows known) (sym one))
    ∙ sym (items-append known front (entry_visits known levels path e))
    ∙ ap (item_rows known) (sym (entries-more known levels path entries i e within is)))

pub turn-end : (known : List Object) (levels : ℕ) (path : Bytes) (tree entries : List TreeEntry) (i : ℕ) (base rows : List FileRow) → entries ≡ tree → length entries ≤ i
    → rows ≡ base ++ item_rows known (entries_visits known levels path (take i entries)) → rows ≡ base ++ item_rows known (entries_visits known levels path tree)
turn-end known levels path tree entries i base rows same all r =
    r ∙ ap (λ (es : List TreeEntry). base ++ item_rows known (entries_visits known levels path es)) (take_all i entries all ∙ same)

-- ---- the whole walk

pub items-some : (known : List Object) (root : Id) (entries : List TreeEntry) (path : Bytes) (old new : List FileRow) → tree_at known root ≡ Some entries → path ≡ [] → old ≡ []
    → new ≡ old ++ item_rows known (entries_visits known 256 path entries) → new ≡ item_rows known (walk known root)
items-some known root entries path old new h p o n =
    n ∙ (λ k. o k ++ item_rows known (entries_visits known 256 (p k) entries)) ∙ ap (item_rows known) (sym (walk-of known root entries h))

pub items-none : (known : List Object) (root : Id) (new : List FileRow) → tree_at known root ≡ None → new ≡ [] → new ≡ item_rows known (walk known root)
items-none known root new h n = n ∙ ap (item_rows known) (sym (visits-none known 257 [] root h))

filter-distinct : (p : FileRow → Bool) (rows : List FileRow) → Distinct (λ (r : FileRow). r.path) rows → Distinct (λ (r : FileRow). r.path) (filter p rows)
filter-distinct p [] d = tt
filter-distinct p (x ∷ rows) d = by (p x) (filter-distinct p rows d.1)
  where
    by : (t : Bool) → Distinct (λ (r : FileRow). r.path) (filter p rows) → Distinct (λ (r : FileRow). r.path) (if t then x ∷ filter p rows else filter p rows)
    by true rec = (each-by (λ y. (x.path ≡ y.path) → ⊥) (filter p rows) (λ y i. each-of (λ y. (x.path ≡ y.path) → ⊥) rows y d.0 (of-filter p y rows i).0), rec)
    by false rec = rec

pub items-distinct : (known : List Object) (root : Id) (new : List FileRow) → AreObjects known → new ≡ item_rows known (walk known root) → Distinct (λ (r : FileRow). r.path) new
items-distinct known root new are n = subst (Distinct (λ (r : FileRow). r.path)) (sym n) (filter-distinct (λ row. has_item row.mode) (met_rows known root) (met-distinct known root are))

-- the others have no residue
residue-items : (rows : List FileRow) → filter_map row_item (filter (λ row. has_item row.mode) rows) ≡ filter_map row_item rows
residue-items [] = refl
residue-items (x ∷ rows) = by x.mode (residue-items rows)
  where
    by : (m : Mode) → filter_map row_item (filter (λ row. has_item row.mode) rows) ≡ filter_map row_item rows
        → filter_map row_item (if has_item m then record { path = x.path; mode = m; id = x.id } ∷ filter (λ row. has_item row.mode) rows else filter (λ row. has_item row.mode) rows) ≡ filter_map row_item (record { path = x.path; mode = m; id = x.id } ∷ rows)
    by File rec = rec
    by GroupFile rec = ap (λ (is : List ResidueItem). cons_option (row_item (record { path = x.path; mode = GroupFile; id = x.id })) is) rec
    by Exec rec = rec
    by Link rec = rec
    by Directory rec = ap (λ (is : List ResidueItem). cons_option (row_item (record { path = x.path; mode = Directory; id = x.id })) is) rec
    by Gitlink rec = ap (λ (is : List ResidueItem). cons_option (row_item (record { path = x.path; mode = Gitlink; id = x.id })) is) rec

pub residue-same : (known : List Object) (root : Id) (new sorted : List FileRow) → new ≡ item_rows known (walk known root) → sorted ≡ by_paths new → residue_of sorted ≡ residue_of (tree_rows known root)
residue-same known root new sorted n s =
    ap residue_of (s ∙ ap by_paths n)
    ∙ taken_ordered row_item (λ (r : FileRow). r.path) (λ (i : ResidueItem). i.path) item-path (item_rows known (walk known root))
    ∙ ap (in_order (by_key (λ (i : ResidueItem). i.path))) (residue-items (met_rows known root))
    ∙ sym (taken_ordered row_item (λ (r : FileRow). r.path) (λ (i : ResidueItem). i.path) item-path (met_rows known root))
