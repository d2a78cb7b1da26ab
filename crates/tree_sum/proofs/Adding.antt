-- The numbers of visits, one after the other and below a name.
use Rattle.std.proofs.Common.{◌≡◌, ◌≤◌, ◌+◌, ◌*◌, ℕ, max, Bool, true, false, List, [], ◌∷◌, ◌++◌, length, map, filter, sum_by, refl, sym, ap, ◌∙◌, append_assoc, arith}
use Rattle.std.specs.Prelude.{if◌then◌else◌}
use Rattle.std.proofs.lemmas.List.{length-append, length-map}
use Rattle.std.proofs.lemmas.List.Elements.{filter-append}
use Rattle.std.proofs.lemmas.List.Sums.{sum_by-cons, sum_by-append}
use Rattle.text_model.specs.Text.{Bytes, has_byte}
use Rattle.text_model.specs.Path.{components}
use Rattle.text_model.proofs.TestLemmas.{differs}
use Rattle.git_model.specs.Object.{Object}
use Rattle.git_model.specs.Unfold.{FileRow, row_size, is_row}
use Rattle.tree_shape.proofs.Names.{components-append, components-one}
use Rattle.tree_sum.specs.Numbers.{none_below, row_named, directory_named, under, both}
use Rattle.tree_sum.specs.Sums.{longest_of, deepest_of, sum_of}

-- ---- one after the other

max-first : (a b c : ℕ) → max a (max b c) ≡ max (max a b) c
max-first a b c = omega arith

pub longest-append : (vs ws : List FileRow) → longest_of (vs ++ ws) ≡ max (longest_of vs) (longest_of ws)
longest-append [] ws = omega arith
longest-append (v ∷ vs) ws = ap (max (length v.path + 1)) (longest-append vs ws) ∙ max-first (length v.path + 1) (longest_of vs) (longest_of ws)

pub deepest-append : (vs ws : List FileRow) → deepest_of (vs ++ ws) ≡ max (deepest_of vs) (deepest_of ws)
deepest-append [] ws = omega arith
deepest-append (v ∷ vs) ws = ap (max (length (components v.path))) (deepest-append vs ws) ∙ max-first (length (components v.path)) (deepest_of vs) (deepest_of ws)

pub sum-append : (known : List Object) (vs ws : List FileRow) → sum_of known (vs ++ ws) ≡ both (sum_of known vs) (sum_of known ws)
unfolding sum_of
sum-append known vs ws = λ k. record { rows = rows k; size = size k; longest = longest-append vs ws k; deepest = deepest-append vs ws k }
  where
    rows : length (filter (is_row known) (vs ++ ws)) ≡ length (filter (is_row known) vs) + length (filter (is_row known) ws)
    rows = ap (λ (l : List FileRow). length l) (filter-append (is_row known) vs ws) ∙ length-append (filter (is_row known) vs) (filter (is_row known) ws)

    size : sum_by row_size (filter (is_row known) (vs ++ ws)) ≡ sum_by row_size (filter (is_row known) vs) + sum_by row_size (filter (is_row known) ws)
    size = ap (sum_by row_size) (filter-append (is_row known) vs ws) ∙ sum_by-append row_size (filter (is_row known) vs) (filter (is_row known) ws)

pub sum-none : (known : List Object) → sum_of known [] ≡ none_below
unfolding sum_of
sum-none known = refl

-- each row has a size
count-size : (rows : List FileRow) → length rows ≤ sum_by row_size rows
count-size [] = omega arith
count-size (r ∷ rows) = omega (arith, count-size rows, sum_by-cons row_size r rows)

pub sum-counted : (known : List Object) (vs : List FileRow) → (sum_of known vs).rows ≤ (sum_of known vs).size
unfolding sum_of
sum-counted known vs = count-size (filter (is_row known) vs)

-- ---- below a name

-- the visit with a path and a slash in front of its own
abbrev pub shift : Bytes → FileRow → FileRow
shift front v = record { path = front ++ 47 ∷ v.path; mode = v.mode; id = v.id }

pub shift-shift : (front name : Bytes) (vs : List FileRow) → map (shift front) (map (shift name) vs) ≡ map (shift (front ++ 47 ∷ name)) vs
shift-shift front name [] = refl
shift-shift front name (v ∷ vs) = λ k. record { path = sym (append_assoc front (47 ∷ name) (47 ∷ v.path)) k; mode = v.mode; id = v.id } ∷ shift-shift front name vs k

rows-shift : (known : List Object) (name : Bytes) (vs : List FileRow) → filter (is_row known) (map (shift name) vs) ≡ map (shift name) (filter (is_row known) vs)
rows-shift known name [] = refl
rows-shift known name (v ∷ vs) = by (is_row known v) (rows-shift known name vs)
  where
    by : (t : Bool) → filter (is_row known) (map (shift name) vs) ≡ map (shift name) (filter (is_row known) vs)
        → (if t then shift name v ∷ filter (is_row known) (map (shift name) vs) else filter (is_row known) (map (shift name) vs)) ≡ map (shift name) (if t then v ∷ filter (is_row known) vs else filter (is_row known) vs)
    by true h = ap (λ (l : List FileRow). shift name v ∷ l) h
    by false h = h

size-shift : (name : Bytes) (rows : List FileRow) → sum_by row_size (map (shift name) rows) ≡ sum_by row_size rows + length rows * (length name + 1)
size-shift name [] = omega arith
size-shift name (r ∷ rows) =
    omega (arith, size-shift name rows, sum_by-cons row_size r rows, sum_by-cons row_size (shift name r) (map (shift name) rows), length-append name (47 ∷ r.path))

pub longest-shift : (name : Bytes) (vs : List FileRow) → max (length name + 1) (longest_of (map (shift name) vs)) ≡ longest_of vs + length name + 1
longest-shift name [] = omega arith
longest-shift name (v ∷ vs) = omega (arith, longest-shift name vs, length-append name (47 ∷ v.path))

pub deepest-shift : (name : Bytes) (vs : List FileRow) → has_byte 47 name ≡ false → max 1 (deepest_of (map (shift name) vs)) ≡ deepest_of vs + 1
deepest-shift name [] plain = omega arith
deepest-shift name (v ∷ vs) plain =
    let parts : length (components (name ++ 47 ∷ v.path)) ≡ length (components v.path) + 1 =
    ap (λ (c : List Bytes). length c) (components-append name v.path ∙ ap (λ (c : List Bytes). c ++ components v.path) (components-one name plain)) ∙ omega arith in
    omega (arith, deepest-shift name vs plain, parts)

-- a row, and nothing below it
pub sum-row : (known : List Object) (v : FileRow) → is_row known v ≡ true → has_byte 47 v.path ≡ false → sum_of known (v ∷ []) ≡ row_named (length v.path)
unfolding sum_of
sum-row known v row plain = λ k. record { rows = rows k; size = size k; longest = longest k; deepest = deepest k }
  where
    met : filter (is_row known) (v ∷ []) ≡ v ∷ []
    met = ap (λ (t : Bool). if t then v ∷ [] else []) row

    rows : length (filter (is_row known) (v ∷ [])) ≡ 1
    rows = ap (λ (l : List FileRow). length l) met

    size : sum_by row_size (filter (is_row known) (v ∷ [])) ≡ length v.path + 42
    size = ap (sum_by row_size) met ∙ omega (arith, sum_by-cons row_size v [])

    longest : max (length v.path + 1) 0 ≡ length v.path + 1
    longest = omega arith

    deepest : max (length (components v.path)) 0 ≡ 1
    deepest = ap (λ (c : List Bytes). max (length c) 0) (components-one v.path plain)

-- a directory that is no row, and what stands below it
pub sum-directory : (known : List Object) (v : FileRow) (vs : List FileRow) → is_row known v ≡ false → has_byte 47 v.path ≡ false → sum_of known (v ∷ map (shift v.path) vs) ≡ directory_named (length v.path) (sum_of known vs)
unfolding sum_of
sum-directory known v vs other plain = λ k. record { rows = rows k; size = size k; longest = longest-shift v.path vs k; deepest = deepest k }
  where
    met : filter (is_row known) (v ∷ map (shift v.path) vs) ≡ map (shift v.path) (filter (is_row known) vs)
    met = ap (λ (t : Bool). if t then v ∷ filter (is_row known) (map (shift v.path) vs) else filter (is_row known) (map (shift v.path) vs)) other ∙ rows-shift known v.path vs

    rows : length (filter (is_row known) (v ∷ map (shift v.path) vs)) ≡ length (filter (is_row known) vs)
    rows = ap (λ (l : List FileRow). length l) met ∙ length-map (filter (is_row known) vs) (shift v.path)

    size : sum_by row_size (filter (is_row known) (v ∷ map (shift v.path) vs)) ≡ sum_by row_size (filter (is_row known) vs) + length (filter (is_row known) vs) * (length v.path + 1)
    size = ap (sum_by row_size) met ∙ size-shift v.path (filter (is_row known) vs)

    deepest : max (length (components v.path)) (deepest_of (map (shift v.path) vs)) ≡ deepest_of vs + 1
    deepest = ap (λ (c : List Bytes). max (length c) (deepest_of (map (shift v.path) vs))) (components-one v.path plain) ∙ deepest-shift v.path vs plain

pub under-none : (known : List Object) (len : ℕ) → under len (sum_of known []) ≡ row_named len
unfolding sum_of
under-none known len = refl

pub under-some : (known : List Object) (len : ℕ) (v : FileRow) (vs : List FileRow) → under len (sum_of known (v ∷ vs)) ≡ directory_named len (sum_of known (v ∷ vs))
unfolding sum_of
under-some known len v vs =
    ap (λ (t : Bool). if t then row_named len else directory_named len (sum_of known (v ∷ vs))) (differs (longest_of (v ∷ vs)) 0 (λ e. omega (arith, e)))
