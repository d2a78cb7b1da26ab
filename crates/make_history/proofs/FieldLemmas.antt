-- The fields of the next changeset: they have a text, and it is short.
use Rattle.std.proofs.Common.{◌≡◌, ◌≤◌, ◌<◌, ◌*◌, ◌+◌, ◌++◌, ◌==◌, ℕ, Bool, true, false, not, arith, List, [], ◌∷◌, length, map, refl, ap, ◌∙◌, bytes_eq}
use Rattle.std.specs.Prelude.{codes, decimal, filter, if◌then◌else◌, ℤ, pos, negsuc, neg_ℤ, ◌≤ℤ◌, ◌^◌}
use Rattle.std.specs.List.{flat_map, list_all}
use Rattle.std.proofs.lemmas.Fmt.{length-decimal-le}
use Rattle.std.proofs.lemmas.Int.{ints}
use Rattle.std.proofs.lemmas.List.{length-append}
use Rattle.text_model.specs.Lists.{Each, with_inserted, in_order, first_of_each}
use Rattle.text_model.specs.Text.{Bytes, IsBytes, lf, sp, nul, line, signed_decimal, is_below}
use Rattle.text_model.specs.Path.{is_fit_path}
use Rattle.text_model.specs.Id.{hex}
use Rattle.text_model.proofs.ByteLemmas.{IsBytes-append}
use Rattle.text_model.proofs.Digests.{IsId-node_id}
use Rattle.text_model.proofs.Elements.{flat_map_append}
use Rattle.text_model.proofs.HexLemmas.{length-hex}
use Rattle.hg_model.specs.Changeset.{Changeset, Extra, plain_date_text, date_text, changeset_text, extras_text, AreExtras, IsPlainDate, IsChangeset}
use Rattle.hg_model.specs.FileText.{file_text}
use Rattle.hg_model.specs.Manifest.{Flag, Regular, Executable, Symlink, flag_text, entry_text}
use Rattle.hg_model.proofs.ManifestLemmas.{manifest_text-none, manifest_text-cons}
use Rattle.view_model.specs.View.{Row, entry_of_row, file_node, paths_of, rows_text, text_limit, manifest_node}
use Rattle.pair_model.specs.Block.{Parents}
use Rattle.pair_model.specs.Rule.{entry_at, same_entry, parents_rows, ruled_manifest, ruled_files}
use Rattle.changeset_rule.proofs.ViewLemmas.{IsListed, fit-listed, IsId-manifest_node}
use Rattle.make_model.specs.Numbers.{Numbers}
use Rattle.make_model.specs.History.{made_user, made_zone, made_extras, changeset_over}
use Rattle.make_history.proofs.PathLemmas.{IsGoodPath, bytes-by}
use Rattle.make_history.proofs.NewRowLemmas.{decimal-bytes, decimal-short, length-line}

-- ---- user, date and description

named : (name : Bytes) → is_fit_path name ≡ true → IsBytes name → length name ≤ 11 → IsListed name × (length name ≤ 11)
named name fit bytes short = (fit-listed name fit bytes, short)

pub user-named : (number : ℕ) → IsListed (made_user number) × (length (made_user number) ≤ 11)
unfolding is_fit_path
user-named number = by (number == 0) (number == 1) (number == 2)
  where
    by : (a b c : Bool) → IsListed (if a then codes "Ann <ann@x>" else if b then codes "bob" else if c then codes "carl@x" else codes "d<e>f")
        × (length (if a then codes "Ann <ann@x>" else if b then codes "bob" else if c then codes "carl@x" else codes "d<e>f") ≤ 11)
    by true b c = named (codes "Ann <ann@x>") refl (bytes-by (codes "Ann <ann@x>") refl) (omega arith)
    by false true c = named (codes "bob") refl (bytes-by (codes "bob") refl) (omega arith)
    by false false true = named (codes "carl@x") refl (bytes-by (codes "carl@x") refl) (omega arith)
    by false false false = named (codes "d<e>f") refl (bytes-by (codes "d<e>f") refl) (omega arith)

record IsZone (tz : ℤ) : Type 0 where
  low : neg_ℤ (pos (2 ^ 31)) ≤ℤ tz
  high : tz ≤ℤ pos (2 ^ 31)
  short : length (signed_decimal tz) ≤ 6

zone-is : (number : ℕ) → IsZone (made_zone number)
zone-is number = by (number == 0) (number == 1) (number == 2)
  where
    by : (a b c : Bool) → IsZone (if a then pos 0 else if b then pos 3600 else if c then negsuc 19799 else pos 90)
    by true b c = record { low = omega (arith, ints); high = omega (arith, ints); short = let s = length-decimal-le 5 0 (omega arith) (omega arith) (omega arith) in omega (arith, s) }
    by false true c = record { low = omega (arith, ints); high = omega (arith, ints); short = let s = length-decimal-le 5 3600 (omega arith) (omega arith) (omega arith) in omega (arith, s) }
    by false false true = record { low = omega (arith, ints); high = omega (arith, ints); short = let s = length-decimal-le 5 19800 (omega arith) (omega arith) (omega arith) in omega (arith, s) }
    by false false false = record { low = omega (arith, ints); high = omega (arith, ints); short = let s = length-decimal-le 5 90 (omega arith) (omega arith) (omega arith) in omega (arith, s) }

abbrev branch : List Extra
branch = record { key = codes "branch"; value = codes "stable" } ∷ []

extras-are : (number : ℕ) → AreExtras (made_extras number)
unfolding is_fit_path
extras-are number = by (number == 0)
  where
    by : (t : Bool) → AreExtras (if t then branch else [])
    by true =
        let key = bytes-by (codes "branch") refl in
        ((((fit-listed (codes "branch") refl key).0, refl, key, bytes-by (codes "stable") refl), tt), refl)
    by false = (tt, refl)

pub date-is : (n zone extras : ℕ) → n < 20000 → IsPlainDate (pos (1000 * n)) (made_zone zone) (made_extras extras)
date-is n zone extras few = record {
  time_low = omega (arith, ints);
  time_high = omega (arith, ints, few);
  tz_low = (zone-is zone).low;
  tz_high = (zone-is zone).high;
  items = extras-are extras;
}

pub date-short : (n zone extras : ℕ) → n < 20000 → length (plain_date_text (pos (1000 * n)) (made_zone zone) (made_extras extras)) ≤ 40
date-short n zone extras few = by (extras == 0)
  where
    time : Bytes
    time = signed_decimal (pos (1000 * n))

    west : Bytes
    west = signed_decimal (made_zone zone)

    short : length (decimal (1000 * n)) ≤ 8
    short = length-decimal-le 8 (1000 * n) (omega arith) (omega (arith, few)) (omega (arith, few))

    by : (t : Bool) → length (plain_date_text (pos (1000 * n)) (made_zone zone) (if t then branch else [])) ≤ 40
    by true =
        let item : length (sp ∷ extras_text branch) ≡ 14 = refl in
        omega (arith, length-append (time ++ sp ∷ west) (sp ∷ extras_text branch), length-append time (sp ∷ west), item, short, (zone-is zone).short)
    by false = omega (arith, length-append time (sp ∷ west), short, (zone-is zone).short)

pub description-bytes : (n : ℕ) → n < 20000 → IsBytes (codes "c" ++ decimal n)
description-bytes n few = IsBytes-append (codes "c") (decimal n) (bytes-by (codes "c") refl) (decimal-bytes n (omega (arith, few)))

pub description-short : (n : ℕ) → n < 20000 → length (codes "c" ++ decimal n) ≤ 6
description-short n few =
    let one : length (codes "c") ≡ 1 = refl in
    omega (arith, length-append (codes "c") (decimal n), one, decimal-short n few)

-- ---- the list of files

-- the bytes of paths as lines
abbrev size : List Bytes → ℕ
size paths = length (flat_map line paths)

size-cons : (path : Bytes) (paths : List Bytes) → size (path ∷ paths) ≡ length (line path) + size paths
size-cons path paths = length-append (line path) (flat_map line paths)

size-append : (xs ys : List Bytes) → size (xs ++ ys) ≡ size xs + size ys
size-append xs ys = ap length (flat_map_append line xs ys) ∙ length-append (flat_map line xs) (flat_map line ys)

size-filter : (p : Bytes → Bool) (xs : List Bytes) → size (filter p xs) ≤ size xs
size-filter p [] = omega arith
size-filter p (x ∷ xs) = by (p x) refl (size-filter p xs)
  where
    by : (t : Bool) → p x ≡ t → size (filter p xs) ≤ size xs → size (filter p (x ∷ xs)) ≤ size (x ∷ xs)
    by true e go = rw e (let a = size-cons x (filter p xs) in let b = size-cons x xs in omega (arith, a, b, go))
    by false e go = rw e (let b = size-cons x xs in omega (arith, b, go))

size-first : (same : Bytes → Bytes → Bool) (xs : List Bytes) → size (first_of_each same xs) ≤ size xs
size-first same [] = omega arith
size-first same (x ∷ xs) =
    let other : Bytes → Bool = λ y. not (same x y) in
    let a = size-cons x (filter other (first_of_each same xs)) in
    let b = size-cons x xs in
    omega (arith, a, b, size-filter other (first_of_each same xs), size-first same xs)

size-inserted : (below : Bytes → Bytes → Bool) (x : Bytes) (ys : List Bytes) → size (with_inserted below x ys) ≡ length (line x) + size ys
size-inserted below x [] = size-cons x []
size-inserted below x (y ∷ ys) = by (below y x) refl (size-inserted below x ys)
  where
    by : (t : Bool) → below y x ≡ t → size (with_inserted below x ys) ≡ length (line x) + size ys → size (with_inserted below x (y ∷ ys)) ≡ length (line x) + size (y ∷ ys)
    by true e go = rw e (let a = size-cons y (with_inserted below x ys) in let b = size-cons y ys in omega (arith, a, b, go))
    by false e go = rw e (size-cons x (y ∷ ys))

size-ordered : (below : Bytes → Bytes → Bool) (xs : List Bytes) → size (in_order below xs) ≡ size xs
size-ordered below [] = refl
size-ordered below (x ∷ xs) = let a = size-cons x xs in omega (arith, a, size-inserted below x (in_order below xs), size-ordered below xs)

paths-size : (rows : List Row) → Each (λ row. IsGoodPath row.path) rows → size (paths_of rows) ≡ 6 * length rows
paths-size [] good = refl
paths-size (row ∷ rows) good =
    let a = size-cons row.path (paths_of rows) in
    omega (arith, a, length-line row.path, good.0.five, paths-size rows good.1)

ruled-size : (ps : Parents) (rows : List Row) → Each (λ row. IsGoodPath row.path) rows → Each (λ row. IsGoodPath row.path) (ps.first).rows → Each (λ row. IsGoodPath row.path) (ps.second).rows
    → size (ruled_files ps rows) ≤ 6 * (length rows + length (ps.first).rows + length (ps.second).rows)
unfolding ruled_files
ruled-size ps rows a b c =
    let two = paths_of rows ++ paths_of (ps.first).rows in
    let all = two ++ paths_of (ps.second).rows in
    let once = first_of_each bytes_eq all in
    omega (
      arith,
      size-filter (λ path. list_all (λ other. not (same_entry (entry_at rows path) (entry_at other path))) (parents_rows ps)) (in_order is_below once),
      size-ordered is_below once,
      size-first bytes_eq all,
      size-append two (paths_of (ps.second).rows),
      size-append (paths_of rows) (paths_of (ps.first).rows),
      paths-size rows a,
      paths-size (ps.first).rows b,
      paths-size (ps.second).rows c,
    )

-- ---- the texts

text-length : (x : Changeset) → length (changeset_text x) ≡ length (hex x.manifest) + length x.user + length (date_text x.date) + size x.files + length x.description + 4
unfolding changeset_text
text-length x =
    let a = line (hex x.manifest) in
    let b = line x.user in
    let d = line (date_text x.date) in
    let f = flat_map line x.files in
    omega (
      arith,
      length-append (a ++ b ++ d ++ f) (lf ∷ x.description),
      length-append (a ++ b ++ d) f,
      length-append (a ++ b) d,
      length-append a b,
      length-line (hex x.manifest),
      length-line x.user,
      length-line (date_text x.date),
    )

module _ (ps : Parents) (rows : List Row) (x : Numbers) (n : ℕ) (few : n < 20000) where
  -- the fields have a text, where the files are listed
  pub fields-are : Each IsListed (ruled_files ps rows) → IsChangeset (changeset_over ps rows x n).fields
  unfolding changeset_over
  fields-are listed = record {
    manifest = IsId-manifest_node (ruled_manifest ps rows) rows;
    user = (user-named x.user).0;
    date = date-is n x.zone x.branch few;
    files = listed;
    description = description-bytes n few;
  }

  fields-length : size (ruled_files ps rows) ≤ 400000 → length (changeset_text (changeset_over ps rows x n).fields) ≤ text_limit
  unfolding changeset_over
  fields-length files =
      let node = manifest_node (ruled_manifest ps rows) rows in
      let id = IsId-manifest_node (ruled_manifest ps rows) rows in
      omega (
        arith,
        text-length (changeset_over ps rows x n).fields,
        length-hex node,
        id.0,
        (user-named x.user).1,
        date-short n x.zone x.branch few,
        files,
        description-short n few,
      )

  pub fields-short : Each (λ row. IsGoodPath row.path) rows → Each (λ row. IsGoodPath row.path) (ps.first).rows → Each (λ row. IsGoodPath row.path) (ps.second).rows → length rows ≤ 20000 → length (ps.first).rows ≤ 20000 → length (ps.second).rows ≤ 20000
      → length (changeset_text (changeset_over ps rows x n).fields) ≤ text_limit
  fields-short a b c la lb lc = fields-length (omega (arith, ruled-size ps rows a b c, la, lb, lc))

flag-short : (f : Flag) → length (flag_text f) ≤ 1
flag-short Regular = omega arith
flag-short Executable = omega arith
flag-short Symlink = omega arith

entry-length : (row : Row) → IsGoodPath row.path → length (entry_text (entry_of_row row)) ≤ 48
entry-length row good =
    let node = file_node row.revision in
    let id = IsId-node_id (row.revision).p (row.revision).q (file_text (row.revision).meta (row.revision).body) in
    let front = row.path ++ nul ∷ hex node in
    let flag = flag_text row.flag in
    omega (arith, length-append (front ++ flag) (lf ∷ []), length-append front flag, length-append row.path (nul ∷ hex node), length-hex node, id.0, good.five, flag-short row.flag)

lines-length : (rows : List Row) → Each (λ row. IsGoodPath row.path) rows → length (rows_text rows) ≤ 48 * length rows
lines-length [] good = omega (arith, ap length manifest_text-none)
lines-length (row ∷ rows) good =
    omega (
      arith,
      ap length (manifest_text-cons (entry_of_row row) (map entry_of_row rows)),
      length-append (entry_text (entry_of_row row)) (rows_text rows),
      entry-length row good.0,
      lines-length rows good.1,
    )

pub lines-short : (rows : List Row) → Each (λ row. IsGoodPath row.path) rows → length rows ≤ 20000 → length (rows_text rows) ≤ text_limit
lines-short rows good few = omega (arith, lines-length rows good, few)
