-- What the rules see of rows is the same of rows that are the same.
use Rattle.std.proofs.Common.{◌≡◌, ℕ, Bool, true, false, List, [], ◌∷◌, ◌++◌, map, Some, refl, sym, ap, ◌∙◌}
use Rattle.std.specs.Prelude.{not, bytes_eq, filter}
use Rattle.std.specs.List.{flat_map, list_all}
use Rattle.std.proofs.lemmas.Slice.Eq.{bytes_eq-Decides}
use Rattle.text_model.specs.Lists.{Each, in_order, first_of_each}
use Rattle.text_model.specs.Text.{Bytes, is_below}
use Rattle.hg_model.specs.Manifest.{flag_text}
use Rattle.pair_model.specs.Block.{Parents}
use Rattle.view_model.specs.View.{file_node, Row, entry_of_row, paths_of, Compared, compared_revision, TreeRow, SameRow, SameRows, HaveSameBodies}
use Rattle.pair_model.specs.Rule.{tree_row_of, ruled_row, ruled_manifest, ruled_files, entry_at, same_entry, parents_rows}
use Rattle.partner_model.specs.Mark.{is_ruled, entry_marks}
use Rattle.mark_law.proofs.Decided.{same_revision-decides}
use Rattle.unmark_law.proofs.ChangesetOne.{IsFileRow, tree_row_is}
use Rattle.unmark_law.proofs.TreeRows.{plain_row, revision_same}

pub own : (xs : List ℕ) → bytes_eq xs xs ≡ true
own xs = (bytes_eq-Decides xs xs).1 refl

-- ---- one entry

entry_same : (a b : Row) → SameRow a b → entry_of_row a ≡ entry_of_row b
entry_same a b s = λ i. record { path = s.0 i; node = (s.2 i).node; flag = s.1 i }

pub entries_same : (xs ys : List Row) → SameRows xs ys → map entry_of_row xs ≡ map entry_of_row ys
entries_same [] [] s = refl
entries_same [] (b ∷ ys) s = absurd s
entries_same (a ∷ xs) [] s = absurd s
entries_same (a ∷ xs) (b ∷ ys) s =
    let e = entry_same a b s.0 in
    let t = entries_same xs ys s.1 in
    λ i. e i ∷ t i

pub paths_same : (xs ys : List Row) → SameRows xs ys → paths_of xs ≡ paths_of ys
paths_same [] [] s = refl
paths_same [] (b ∷ ys) s = absurd s
paths_same (a ∷ xs) [] s = absurd s
paths_same (a ∷ xs) (b ∷ ys) s =
    let e = (s.0).0 in
    let t = paths_same xs ys s.1 in
    λ i. e i ∷ t i

-- ---- the manifest and the files

pub manifest_same : (ps : Parents) (xs ys : List Row) → SameRows xs ys → ruled_manifest ps xs ≡ ruled_manifest ps ys
unfolding ruled_manifest
manifest_same ps xs ys s = rw (entries_same xs ys s) refl

entry_at_same : (path : Bytes) (xs ys : List Row) → SameRows xs ys → entry_at xs path ≡ entry_at ys path
entry_at_same path [] [] s = refl
entry_at_same path [] (b ∷ ys) s = absurd s
entry_at_same path (a ∷ xs) [] s = absurd s
entry_at_same path (a ∷ xs) (b ∷ ys) s = by (bytes_eq a.path path) refl (entry_at_same path xs ys s.1)
  where
    by : (t : Bool) → bytes_eq a.path path ≡ t → entry_at xs path ≡ entry_at ys path → entry_at (a ∷ xs) path ≡ entry_at (b ∷ ys) path
    by true e go =
        let f : bytes_eq b.path path ≡ true = ap (λ x. bytes_eq x path) (sym (s.0).0) ∙ e in
        let n : file_node a.revision ≡ file_node b.revision = ap (λ (x : Compared). x.node) (s.0).2 in
        let g : flag_text a.flag ≡ flag_text b.flag = ap flag_text (s.0).1 in
        rw (e, f) (λ i. Some (n i, g i))
    by false e go =
        let f : bytes_eq b.path path ≡ false = ap (λ x. bytes_eq x path) (sym (s.0).0) ∙ e in
        rw (e, f) go

pub files_same : (ps : Parents) (xs ys : List Row) → SameRows xs ys → ruled_files ps xs ≡ ruled_files ps ys
unfolding ruled_files
files_same ps xs ys s =
    let p = paths_same xs ys s in
    λ i. filter (λ path. list_all (λ other. not (same_entry (entry_at_same path xs ys s i) (entry_at other path))) (parents_rows ps))
    (in_order is_below (first_of_each bytes_eq (p i ++ paths_of (ps.first).rows ++ paths_of (ps.second).rows)))

-- ---- no mark

ruled_since : (ps : Parents) (c : TreeRow) (h : Row) → tree_row_of h ≡ plain_row c → SameRow (ruled_row ps c) h → is_ruled ps h ≡ true
ruled_since ps c h e s = (same_revision-decides h.revision (ruled_row ps (tree_row_of h)).revision).1 (sym s.2 ∙ ap (λ r. compared_revision r) (revision_same ps c (plain_row c) refl refl refl) ∙ ap (λ x. compared_revision (ruled_row ps x).revision) (sym e))

pub no_mark : (ps : Parents) (row : Row) → is_ruled ps row ≡ true → entry_marks ps row ≡ []
unfolding entry_marks
no_mark ps row e = rw e refl

pub no_entries : (ps : Parents) (cs : List TreeRow) (hs : List Row) → Each IsFileRow cs → SameRows (map (ruled_row ps) cs) hs → HaveSameBodies hs cs → flat_map (entry_marks ps) hs ≡ []
no_entries ps [] [] f s b = refl
no_entries ps [] (h ∷ hs) f s b = absurd s
no_entries ps (c ∷ cs) [] f s b = absurd s
no_entries ps (c ∷ cs) (h ∷ hs) f s b =
    let e = no_mark ps h (ruled_since ps c h (tree_row_is ps c h f.0 s.0 b.1) s.0) in
    let t = no_entries ps cs hs f.1 s.1 b.2 in
    λ i. e i ++ t i
