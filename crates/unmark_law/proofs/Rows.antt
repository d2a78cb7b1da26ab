-- Rows whose marks are equal, over the same rows of a commit, are equal.
use Rattle.std.proofs.Common.{◌≡◌, ◌≢◌, Bool, true, false, List, [], ◌∷◌, ◌++◌, Option, Some, None, refl, sym, ap, ◌∙◌}
use Rattle.std.specs.Prelude.{if◌then◌else◌}
use Rattle.std.specs.List.{flat_map, AllZip}
use Rattle.std.specs.Ordering.{nat_cmp, is_lt, ordering_reverse}
use Rattle.std.specs.Cmp.Lexicographic.{slice_cmp}
use Rattle.std.proofs.lemmas.Bool.{and_parts}
use Rattle.std.proofs.lemmas.Bool.Decides.{when_true, when_false}
use Rattle.std.proofs.lemmas.Cmp.{nat_list_cmp_total}
use Rattle.std.specs.declared.cmp.Ordering.{Ordering}
use Rattle.std.specs.declared.cmp.Ordering.TheVariants.{Less, Equal, Greater}
use Rattle.text_model.proofs.Options.{some_is}
use Rattle.text_model.specs.Lists.{Each, rises}
use Rattle.text_model.specs.Text.{Bytes, is_below}
use Rattle.hg_model.specs.FileText.{copy_meta}
use Rattle.pair_model.specs.Block.{Parents}
use Rattle.view_model.specs.View.{FileRevision, Row, TreeRow, paths_of}
use Rattle.pair_model.specs.Rule.{ruled_row}
use Rattle.pair_model.specs.MarkList.{Mark, Rename, File, rising_part}
use Rattle.partner_model.specs.Mark.{node_in_parents, rename_source, revision_mark, is_ruled, entry_marks}
use Rattle.partner_model.specs.Partner.{IsUnmarkedRow}
use Rattle.mark_law.proofs.MarkTypes.{named}

-- ---- paths that rise are distinct

below_less : (o : Ordering) → is_lt o ≡ true → o ≡ Less
below_less Less h = refl
below_less Equal h = absurd cc
below_less Greater h = absurd cc

pub below_trans : (x y z : Bytes) → is_below x y ≡ true → is_below y z ≡ true → is_below x z ≡ true
below_trans x y z h k = ap is_lt (nat_list_cmp_total.trans x y z (below_less (slice_cmp nat_cmp x y) h) (below_less (slice_cmp nat_cmp y z) k))

less_greater : Less ≡ Greater → ⊥
less_greater e = cc

pub not_below : (x : Bytes) → is_below x x ≡ true → ⊥
not_below x h =
    let e = below_less (slice_cmp nat_cmp x x) h in
    less_greater (sym e ∙ nat_list_cmp_total.antisymm x x ∙ ap ordering_reverse e)

later : (x : Bytes) (ps : List Bytes) → rises is_below (x ∷ ps) ≡ true → Each (λ p. is_below x p ≡ true) ps
later x [] h = tt
later x (p ∷ ps) h =
    let a = and_parts (is_below x p) (rises is_below (p ∷ ps)) h in
    (a.0, more ps (later p ps a.1) a.0)
  where
    more : (qs : List Bytes) → Each (λ q. is_below p q ≡ true) qs → is_below x p ≡ true → Each (λ q. is_below x q ≡ true) qs
    more [] k b = tt
    more (q ∷ qs) k b = (below_trans x p q b k.0, more qs k.1 b)

pub apart : (x : Bytes) (ps : List Bytes) → rises is_below (x ∷ ps) ≡ true → Each (λ p. p ≢ x) ps
apart x ps h = by ps (later x ps h)
  where
    by : (qs : List Bytes) → Each (λ p. is_below x p ≡ true) qs → Each (λ p. p ≢ x) qs
    by [] k = tt
    by (q ∷ qs) k = ((λ (e : q ≡ x). not_below x (ap (is_below x) (sym e) ∙ k.0)), by qs k.1)

pub rises_rest : (x : Bytes) (ps : List Bytes) → rises is_below (x ∷ ps) ≡ true → rises is_below ps ≡ true
rises_rest x [] h = refl
rises_rest x (p ∷ ps) h = (and_parts (is_below x p) (rises is_below (p ∷ ps)) h).1

-- ---- one revision

file_parts : (path a b : Bytes) (m : Option Bytes) (c d : Bytes) (n : Option Bytes) → File path a b m ≡ File path c d n → (a ≡ c) × (b ≡ d) × (m ≡ n)
file_parts path a b m c d n e = (cc, cc, cc)

file_rename : (path a b : Bytes) (m : Option Bytes) (q s : Bytes) → File path a b m ≡ Rename q s → ⊥
file_rename path a b m q s e = cc

rename_is : (path s t : Bytes) → Rename path s ≡ Rename path t → s ≡ t
rename_is path s t e = cc

revision_one : (ps : Parents) (path : Bytes) (r s : FileRevision) → r.body ≡ s.body → revision_mark path r (rename_source ps r) ≡ revision_mark path s (rename_source ps s) → r ≡ s
revision_one ps path r s b e = by (rename_source ps r) (rename_source ps s) refl refl e
  where
    by : (o u : Option Bytes) → rename_source ps r ≡ o → rename_source ps s ≡ u → revision_mark path r o ≡ revision_mark path s u → r ≡ s
    by None None f g h =
        let p = file_parts path r.p r.q r.meta s.p s.q s.meta h in
        λ i. record { p = p.0 i; q = p.1 i; meta = p.2 i; body = b i }
    by None (Some x) f g h = absurd (file_rename path r.p r.q r.meta path x h)
    by (Some x) None f g h = absurd (file_rename path s.p s.q s.meta path x (sym h))
    by (Some x) (Some y) f g h =
        let n = named ps r x f in
        let m = named ps s y g in
        let same = rename_is path x y h in
        let meta : r.meta ≡ s.meta = n.meta ∙ ap (λ z. Some (copy_meta z (node_in_parents ps z))) same ∙ sym m.meta in
        let p : r.p ≡ s.p = n.p ∙ sym m.p in
        let q : r.q ≡ s.q = n.q ∙ sym m.q in
        λ i. record { p = p i; q = q i; meta = meta i; body = b i }

-- ---- rows

pub part_of : (path : Bytes) (r : FileRevision) (o : Option Bytes) → rising_part (revision_mark path r o) ≡ Some path
part_of path r None = refl
part_of path r (Some s) = refl

-- a mark of another path is no first mark of these rows
-- no mark, or a first one of the row's path
abbrev IsMarksOf : Row → List Mark → Type 0
IsMarksOf row [] = Unit {0}
IsMarksOf row (m ∷ ms) = rising_part m ≡ Some row.path

marks_of : (ps : Parents) (row : Row) → IsMarksOf row (entry_marks ps row)
unfolding entry_marks
marks_of ps row = by (is_ruled ps row) (rename_source ps row.revision)
  where
    by : (t : Bool) (o : Option Bytes) → IsMarksOf row (if t then [] else revision_mark row.path row.revision o ∷ [])
    by true o = tt
    by false o = part_of row.path row.revision o

not_among : (ps : Parents) (path : Bytes) (rows : List Row) (m : Mark) (rest : List Mark) → Each (λ p. p ≢ path) (paths_of rows) → rising_part m ≡ Some path → flat_map (entry_marks ps) rows ≡ m ∷ rest → ⊥
not_among ps path [] m rest h k e = cc
not_among ps path (row ∷ rows) m rest h k e = by (entry_marks ps row) (marks_of ps row) e (not_among ps path rows m rest h.1 k)
  where
    by : (ms : List Mark) → IsMarksOf row ms → ms ++ flat_map (entry_marks ps) rows ≡ m ∷ rest → (flat_map (entry_marks ps) rows ≡ m ∷ rest → ⊥) → ⊥
    by [] a f g = g f
    by (x ∷ xs) a f g =
        let same : x ≡ m = cc in
        h.0 (some_is (sym a ∙ ap rising_part same ∙ k))

-- of one path and one flag
abbrev pub AreAlike : Row → Row → Type 0
AreAlike a b = (a.path ≡ b.path) × (a.flag ≡ b.flag)

no_marks : (ps : Parents) (row : Row) → is_ruled ps row ≡ true → entry_marks ps row ≡ []
unfolding entry_marks
no_marks ps row e = rw e refl

one_mark : (ps : Parents) (row : Row) → is_ruled ps row ≡ false → entry_marks ps row ≡ revision_mark row.path row.revision (rename_source ps row.revision) ∷ []
unfolding entry_marks
one_mark ps row e = rw e refl

row_is : (r s : Row) → AreAlike r s → r.revision ≡ s.revision → r ≡ s
row_is r s a e = λ i. record { path = a.0 i; flag = a.1 i; revision = e i }

pub rows_one : (ps : Parents) (hs ks : List Row) (ts : List TreeRow) → rises is_below (paths_of hs) ≡ true → rises is_below (paths_of ks) ≡ true
    → AllZip AreAlike hs ks → AllZip (IsUnmarkedRow ps) hs ts → AllZip (IsUnmarkedRow ps) ks ts
    → flat_map (entry_marks ps) hs ≡ flat_map (entry_marks ps) ks → hs ≡ ks
rows_one ps [] [] ts d f a h k e = refl
rows_one ps [] (s ∷ ks) ts d f a h k e = absurd a
rows_one ps (r ∷ hs) [] ts d f a h k e = absurd a
rows_one ps (r ∷ hs) (s ∷ ks) [] d f a h k e = absurd h
rows_one ps (r ∷ hs) (s ∷ ks) (t ∷ ts) d f a h k e =
    by (is_ruled ps r) (is_ruled ps s) refl refl (rows_one ps hs ks ts (rises_rest r.path (paths_of hs) d) (rises_rest s.path (paths_of ks) f) a.1 h.1 k.1)
  where
    by : (u v : Bool) → is_ruled ps r ≡ u → is_ruled ps s ≡ v → (flat_map (entry_marks ps) hs ≡ flat_map (entry_marks ps) ks → hs ≡ ks) → r ∷ hs ≡ s ∷ ks
    by true true x y go =
        let same = row_is r s a.0 (when_true (r.revision ≡ (ruled_row ps t).revision) ((r.revision).body ≡ t.content) x h.0 ∙ sym (when_true (s.revision ≡ (ruled_row ps t).revision) ((s.revision).body ≡ t.content) y k.0)) in
        let rest = go (rw (no_marks ps r x, no_marks ps s y) at e) in
        λ i. same i ∷ rest i
    by false false x y go =
        let g = rw (one_mark ps r x, one_mark ps s y) at e in
        let body = when_false (r.revision ≡ (ruled_row ps t).revision) ((r.revision).body ≡ t.content) x h.0 ∙ sym (when_false (s.revision ≡ (ruled_row ps t).revision) ((s.revision).body ≡ t.content) y k.0) in
        let m : revision_mark r.path r.revision (rename_source ps r.revision) ≡ revision_mark s.path s.revision (rename_source ps s.revision) = cc in
        let n : flat_map (entry_marks ps) hs ≡ flat_map (entry_marks ps) ks = cc in
        let p = revision_one ps r.path r.revision s.revision body (m ∙ ap (λ z. revision_mark z s.revision (rename_source ps s.revision)) (sym a.0.0)) in
        let same = row_is r s a.0 p in
        let rest = go n in
        λ i. same i ∷ rest i
    by true false x y go =
        let g = rw (no_marks ps r x, one_mark ps s y) at e in
        absurd (not_among ps r.path hs (revision_mark s.path s.revision (rename_source ps s.revision)) (flat_map (entry_marks ps) ks) (apart r.path (paths_of hs) d) (part_of s.path s.revision (rename_source ps s.revision) ∙ ap Some (sym a.0.0)) g)
    by false true x y go =
        let g = rw (one_mark ps r x, no_marks ps s y) at e in
        absurd (not_among ps s.path ks (revision_mark r.path r.revision (rename_source ps r.revision)) (flat_map (entry_marks ps) hs) (apart s.path (paths_of ks) f) (part_of r.path r.revision (rename_source ps r.revision) ∙ ap Some a.0.0) (sym g))
